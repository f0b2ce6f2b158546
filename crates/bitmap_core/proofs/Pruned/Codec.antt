-- Inputs that are decoded to a bitmap with a pruned prefix.
use Rattle.std.proofs.Common.{◌≡◌, ℕ, ◌+◌, ◌*◌, ◌^◌, ◌<◌, ◌≤◌, Bool, true, List, ◌++◌, length, drop, refl, sym, ap, subst, ◌∙◌, append_assoc, arith, None, ◌↔◌}
use Rattle.std.specs.Int.{w64, to_be_bytes}
use Rattle.std.proofs.lemmas.List.{length-append, drop_at}
use Rattle.bitmap_core.specs.PrunedBits.{PrunedBits, bit_len}
use Rattle.bitmap_core.specs.Encoding.{encoding, pruned_encoding}
use Rattle.bitmap_core.specs.Decoding.{number, bits_error, pruned_error, pruned_in, EncodesPruned}
use Rattle.bitmap_core.proofs.Codec.Encodings.{AreBytes, AreBytes-drop, number_of_text, number-again, encoding-number, bits_in_encoded, same_encoding}
use Rattle.bitmap_core.proofs.Codec.DecodeErrors.{sound, sound-none, sound-encodes, encodes-sound, SoundPruned, sound_pruned, sound_pruned-none}

pruned-number : (n : ℕ) (b : PrunedBits) (rest : List ℕ) → b.pruned < 2 ^ 64 → number (pruned_encoding n b ++ rest) ≡ b.pruned
unfolding pruned_encoding
pruned-number n b rest h =
    ap number (append_assoc (to_be_bytes w64 b.pruned) (encoding n b.bits) rest) ∙ number-again b.pruned (encoding n b.bits ++ rest) h

pruned-body : (n : ℕ) (b : PrunedBits) (rest : List ℕ) → drop 8 (pruned_encoding n b ++ rest) ≡ encoding n b.bits ++ rest
unfolding pruned_encoding
pruned-body n b rest =
    ap (drop 8) (append_assoc (to_be_bytes w64 b.pruned) (encoding n b.bits) rest)
    ∙ drop_at (to_be_bytes w64 b.pruned) (encoding n b.bits ++ rest) 8 refl

pub length-pruned : (n : ℕ) (b : PrunedBits) → length (pruned_encoding n b) ≡ 8 + length (encoding n b.bits)
unfolding pruned_encoding
length-pruned n b = length-append (to_be_bytes w64 b.pruned) (encoding n b.bits)

-- an encoding is decoded to its bitmap
pub pruned_in_encoded : (n : ℕ) (text : List ℕ) (b : PrunedBits) (rest : List ℕ) → 0 < n → length b.bits < 2 ^ 64
    → b.pruned < 2 ^ 64 → text ≡ pruned_encoding n b ++ rest
    → b ≡ pruned_in text
unfolding pruned_in
pruned_in_encoded n text b rest p l h e =
    let k : b.pruned ≡ number text = sym (pruned-number n b rest h) ∙ ap number (sym e) in
    let v = bits_in_encoded n (drop 8 text) b.bits rest p l (ap (drop 8) e ∙ pruned-body n b rest) in
    ap (λ x. let y : PrunedBits = record { pruned = x; bits = b.bits } in y) k
    ∙ ap (λ x. let y : PrunedBits = record { pruned = number text; bits = x } in y) v

-- the encoding of a bitmap is its number of pruned chunks and the encoding of its bits
pruned-joined : (n : ℕ) (text : List ℕ) (v : List Bool) (rest : List ℕ) → AreBytes text → 8 ≤ length text
    → drop 8 text ≡ encoding n v ++ rest
    → text ≡ pruned_encoding n (record { pruned = number text; bits = v }) ++ rest
unfolding pruned_encoding
pruned-joined n text v rest h l e =
    number_of_text text h l ∙ ap (λ x. to_be_bytes w64 (number text) ++ x) e ∙ sym (append_assoc (to_be_bytes w64 (number text)) (encoding n v) rest)

pruned-encodes : (n : ℕ) (range : ℕ → Bool) (text : List ℕ) → 0 < n → AreBytes text → SoundPruned n range text → EncodesPruned n range text
pruned-encodes n range text p h s =
    let t = sound n range (drop 8 text) s.bits in
    let a = sound-encodes n range (drop 8 text) p (AreBytes-drop 8 text h) t in
    let l : length a.bits ≡ number (drop 8 text) = sym (encoding-number n a.bits a.rest a.len_fits) ∙ ap number (sym a.encoded) in
    record {
      bitmap = record { pruned = number text; bits = a.bits };
      rest = a.rest;
      encoded = pruned-joined n text a.bits a.rest h s.long a.encoded;
      len_fits = omega (arith, s.total);
      pruned_fits = s.count;
      chunks_fit = a.chunks_fit;
      admitted = a.admitted;
    }

pub encodes-pruned : (n : ℕ) (range : ℕ → Bool) (b : PrunedBits) (rest : List ℕ) → 0 < n → bit_len n b < 2 ^ 64
    → b.pruned < 2 ^ 64 → range (length b.bits) ≡ true
    → SoundPruned n range (pruned_encoding n b ++ rest)
encodes-pruned n range b rest p l c r =
    let m = pruned-number n b rest c in
    let d = pruned-body n b rest in
    let k : length b.bits < 2 ^ 64 = omega arith in
    let s = sound-none n range (encoding n b.bits ++ rest) (encodes-sound n range b.bits rest p k r) in
    let q : number (drop 8 (pruned_encoding n b ++ rest)) ≡ length b.bits = ap number d ∙ encoding-number n b.bits rest k in
    let f : 8 * n * number (pruned_encoding n b ++ rest) ≡ 8 * n * b.pruned = ap (λ x. 8 * n * x) m in
    record {
      long = omega (arith, length-append (pruned_encoding n b) rest, length-pruned n b);
      fits = omega arith;
      count = omega arith;
      bits = ap (bits_error n range) d ∙ s;
      total = omega arith;
    }

pub pruned_acceptable : (n : ℕ) (range : ℕ → Bool) (text : List ℕ) → 0 < n → AreBytes text
    → pruned_error n range text ≡ None ↔ EncodesPruned n range text
pruned_acceptable n range text p h = (
  λ e. pruned-encodes n range text p h (sound_pruned n range text e),
  λ a.
      let encoded = encodes-pruned n range a.bitmap a.rest p a.len_fits a.pruned_fits a.admitted in
      sound_pruned-none n range text (subst (SoundPruned n range) (sym a.encoded) encoded),
)

-- equal bytes that begin with encodings have equal bitmaps and equal bytes after them
pub same_pruned_encoding : (n : ℕ) (b c : PrunedBits) (xs ys : List ℕ) → 0 < n → bit_len n b < 2 ^ 64 → bit_len n c < 2 ^ 64
    → b.pruned < 2 ^ 64 → c.pruned < 2 ^ 64 → pruned_encoding n b ++ xs ≡ pruned_encoding n c ++ ys
    → (b ≡ c) × (xs ≡ ys)
same_pruned_encoding n b c xs ys p lb lc fb fc e =
    let k : b.pruned ≡ c.pruned = sym (pruned-number n b xs fb) ∙ ap number e ∙ pruned-number n c ys fc in
    let s = same_encoding n b.bits c.bits xs ys p (omega arith) (omega arith) (sym (pruned-body n b xs) ∙ ap (drop 8) e ∙ pruned-body n c ys) in (
      ap (λ x.
          let y : PrunedBits = record { pruned = x; bits = b.bits } in
          y) k ∙ ap (λ x. let y : PrunedBits = record { pruned = c.pruned; bits = x } in y) s.0,
      s.1,
    )

-- the result of a read of an accepted input
pub pruned_read : (n : ℕ) (text : List ℕ) (v : List Bool) (rest : List ℕ) (b : PrunedBits) → AreBytes text → 8 ≤ length text
    → drop 8 text ≡ encoding n v ++ rest → b.pruned ≡ number text → b.bits ≡ v
    → text ≡ pruned_encoding n b ++ rest
pruned_read n text v rest b h l e f g =
    pruned-joined n text v rest h l e
    ∙ ap (λ x. let y : PrunedBits = record { pruned = x; bits = v } in pruned_encoding n y ++ rest) (sym f)
    ∙ ap (λ x. let y : PrunedBits = record { pruned = b.pruned; bits = x } in pruned_encoding n y ++ rest) (sym g)

-- the bytes that a write appends
pub pruned_written : (n : ℕ) (b : PrunedBits) (old : List ℕ) → (old ++ to_be_bytes w64 b.pruned) ++ encoding n b.bits ≡ old ++ pruned_encoding n b
unfolding pruned_encoding
pruned_written n b old = append_assoc old (to_be_bytes w64 b.pruned) (encoding n b.bits)
