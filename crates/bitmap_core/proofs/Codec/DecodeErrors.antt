-- Inputs without a decode error, and what they encode.
use Rattle.std.proofs.Common.{◌≡◌, ℕ, ◌+◌, ◌*◌, ◌^◌, ◌<◌, ◌≤◌, Bool, true, false, not, cond, List, [], ◌∷◌, ◌++◌, length, drop, ltb, refl, sym, ap, subst, ◌∙◌, arith, Option, Some, None, ◌↔◌}
use Rattle.std.specs.List.{list_any}
use Rattle.std.specs.Prelude.{codes, IsSome}
use Rattle.std.proofs.Math.Nat.{mul-add, le-mul_of_pos_right, lt_of_mul-lt-mul_left}
use Rattle.std.proofs.lemmas.Bool.{ltb-false, ltb-true, le-ltb, lt-ltb}
use Rattle.std.proofs.lemmas.List.{length-append}
use Rattle.bitmap_bytes.specs.Chunk.{bytes_bit}
use Rattle.bitmap_bytes.specs.Bits.{chunk_count}
use Rattle.bitmap_core.specs.Encoding.{encoding}
use Rattle.bitmap_core.specs.Decoding.{DecodeError, number, chunk_bytes, trailing, bits_tests, bits_error, pruned_error, first_error, has_too_many_bits, EncodesBits}
use Rattle.bitmap_core.specs.Decoding.DecodeError.{Invalid}
use Rattle.bitmap_bytes.proofs.Chunks.Places.{IsChunkCount-ceil}
use Rattle.bitmap_core.proofs.Codec.Encodings.{AreBytes, number-lt, value, length-value, text-encodes, length-encoding, encoding-number, encoding-trailing}

-- a test that found no error
no_error : (b : Bool) (f : DecodeError) (rest : Option DecodeError) → cond b (Some f) rest ≡ None → (b ≡ false) × (rest ≡ None)
no_error true f rest e = absurd cc
no_error false f rest e = (refl, e)

not_false : (b : Bool) → not b ≡ false → b ≡ true
not_false true e = refl
not_false false e = absurd cc

-- a number that fits 64 bits
within_64 : (k : ℕ) → not (ltb k (2 ^ 64)) ≡ false → k < 2 ^ 64
within_64 k e = ltb-true k (2 ^ 64) (not_false _ e)

-- ---- a list of bits

-- none of the decode errors
pub record Sound (n : ℕ) (range : ℕ → Bool) (text : List ℕ) : Type 0 where
  pub long : 8 ≤ length text
  pub admitted : range (number text) ≡ true
  pub count : chunk_count n (number text) < 2 ^ 64
  pub whole : 8 + chunk_bytes n text ≤ length text
  pub clear : list_any (bytes_bit (drop 8 text)) (trailing n text) ≡ false

-- an input has no decode error if and only if it has all of these properties
pub sound : (n : ℕ) (range : ℕ → Bool) (text : List ℕ) → bits_error n range text ≡ None → Sound n range text
unfolding bits_error
sound n range text e =
    let a = no_error _ _ _ e in
    let b = no_error _ _ _ a.1 in
    let c = no_error _ _ _ b.1 in
    let d = no_error _ _ _ c.1 in
    let f = no_error _ _ _ d.1 in
    record { long = ltb-false _ _ a.0; admitted = not_false _ b.0; count = within_64 _ c.0; whole = ltb-false _ _ d.0; clear = f.0 }

pub sound-none : (n : ℕ) (range : ℕ → Bool) (text : List ℕ) → Sound n range text → bits_error n range text ≡ None
unfolding bits_error
sound-none n range text s = rw (le-ltb _ _ s.long, s.admitted, lt-ltb _ _ s.count, le-ltb _ _ s.whole, s.clear) refl

-- there are at most as many chunks as bits
pub count-le : (n len : ℕ) → 0 < n → chunk_count n len ≤ len
count-le n len p =
    let c = IsChunkCount-ceil n len p in
    let m = mul-add (8 * n) len 1 in
    let l : len ≤ len * (8 * n) = le-mul_of_pos_right len (omega arith) in
    let s : chunk_count n len < len + 1 = lt_of_mul-lt-mul_left (8 * n) (grind arith) in
    omega arith

pub sound-encodes : (n : ℕ) (range : ℕ → Bool) (text : List ℕ) → 0 < n → AreBytes text → Sound n range text → EncodesBits n range text
sound-encodes n range text p h s =
    let l = length-value n (number text) (drop 8 text) in
    let b = number-lt text h in
    record {
      bits = value n (number text) (drop 8 text);
      rest = drop (8 + chunk_bytes n text) text;
      encoded = text-encodes n text p h s.whole s.clear;
      len_fits = omega arith;
      chunks_fit = omega (arith, count-le n (length (value n (number text) (drop 8 text))) p);
      admitted = ap range l ∙ s.admitted;
    }

pub encodes-sound : (n : ℕ) (range : ℕ → Bool) (v : List Bool) (rest : List ℕ) → 0 < n → length v < 2 ^ 64
    → range (length v) ≡ true
    → Sound n range (encoding n v ++ rest)
encodes-sound n range v rest p l r =
    let m = encoding-number n v rest l in
    let w = length-append (encoding n v) rest in
    let x = length-encoding n v in
    let c : chunk_bytes n (encoding n v ++ rest) ≡ n * chunk_count n (length v) = ap (λ k. n * chunk_count n k) m in
    let k : chunk_count n (number (encoding n v ++ rest)) ≡ chunk_count n (length v) = ap (chunk_count n) m in
    record {
      long = omega arith;
      admitted = ap range m ∙ r;
      count = omega (arith, count-le n (length v) p);
      whole = omega arith;
      clear = encoding-trailing n v rest p l;
    }

pub bits_acceptable : (n : ℕ) (range : ℕ → Bool) (text : List ℕ) → 0 < n → AreBytes text → bits_error n range text ≡ None ↔ EncodesBits n range text
bits_acceptable n range text p h = (
  λ e. sound-encodes n range text p h (sound n range text e),
  λ a. sound-none n range text (subst (Sound n range) (sym a.encoded) (encodes-sound n range a.bits a.rest p a.len_fits a.admitted)),
)

-- ---- a bitmap with a pruned prefix

-- none of the decode errors
pub record SoundPruned (n : ℕ) (range : ℕ → Bool) (text : List ℕ) : Type 0 where
  pub long : 8 ≤ length text
  pub fits : 8 * n * number text < 2 ^ 64
  pub count : number text < 2 ^ 64
  pub bits : bits_error n range (drop 8 text) ≡ None
  pub total : 8 * n * number text + number (drop 8 text) < 2 ^ 64

-- the first of two errors
or_else : Option DecodeError → Option DecodeError → Option DecodeError
or_else None g = g
or_else (Some f) g = Some f

first_error-append : (xs ys : List (Bool × DecodeError)) → first_error (xs ++ ys) ≡ or_else (first_error xs) (first_error ys)
unfolding or_else
first_error-append [] ys = refl
first_error-append (x ∷ xs) ys = step x.0 x.1 _ _ _ (first_error-append xs ys)
  where
    step : (b : Bool) (f : DecodeError) (r s t : Option DecodeError) → r ≡ or_else s t → cond b (Some f) r ≡ or_else (cond b (Some f) s) t
    step true f r s t e = refl
    step false f r s t e = e

-- the last test of a bitmap with a pruned prefix
abbrev total_tests : ℕ → List ℕ → List (Bool × DecodeError)
total_tests n text = (has_too_many_bits n text, Invalid (codes "Prunable") (codes "total bitmap length (pruned + unpruned) would overflow u64")) ∷ []

none_first : (f g : Option DecodeError) → or_else f g ≡ None → (f ≡ None) × (g ≡ None)
unfolding or_else
none_first None g e = (refl, e)
none_first (Some f) g e = absurd cc

none_later : (n : ℕ) (range : ℕ → Bool) (text : List ℕ)
    → first_error (bits_tests n range (drop 8 text) ++ total_tests n text) ≡ None
    → (bits_error n range (drop 8 text) ≡ None) × (8 * n * number text + number (drop 8 text) < 2 ^ 64)
unfolding bits_error
none_later n range text e =
    let d = none_first _ _ (sym (first_error-append (bits_tests n range (drop 8 text)) (total_tests n text)) ∙ e) in
    (d.0, within_64 _ (no_error _ _ _ d.1).0)

pub sound_pruned : (n : ℕ) (range : ℕ → Bool) (text : List ℕ) → pruned_error n range text ≡ None → SoundPruned n range text
unfolding pruned_error
sound_pruned n range text e =
    let a = no_error _ _ _ e in
    let b = no_error _ _ _ a.1 in
    let c = no_error _ _ _ b.1 in
    let d = none_later n range text c.1 in
    record { long = ltb-false _ _ a.0; fits = within_64 _ b.0; count = within_64 _ c.0; bits = d.0; total = d.1 }

-- if the count of pruned chunks is valid, the errors are those of the bits, and then that of the total
pruned_later : (n : ℕ) (range : ℕ → Bool) (text : List ℕ) → 8 ≤ length text → 8 * n * number text < 2 ^ 64
    → number text < 2 ^ 64
    → pruned_error n range text ≡ or_else (bits_error n range (drop 8 text)) (first_error (total_tests n text))
unfolding pruned_error bits_error
pruned_later n range text l w c =
    rw (le-ltb _ _ l, lt-ltb _ _ w, lt-ltb _ _ c) (first_error-append (bits_tests n range (drop 8 text)) (total_tests n text))

pub pruned_bits_error : (n : ℕ) (range : ℕ → Bool) (text : List ℕ) (f : Option DecodeError) → 8 ≤ length text
    → 8 * n * number text < 2 ^ 64 → number text < 2 ^ 64 → bits_error n range (drop 8 text) ≡ f → IsSome f
    → pruned_error n range text ≡ f
unfolding or_else
pruned_bits_error n range text None l w c e d = absurd cc
pruned_bits_error n range text (Some f) l w c e d = pruned_later n range text l w c ∙ ap (λ x. or_else x (first_error (total_tests n text))) e

pub pruned_total_error : (n : ℕ) (range : ℕ → Bool) (text : List ℕ) → 8 ≤ length text → 8 * n * number text < 2 ^ 64
    → number text < 2 ^ 64 → bits_error n range (drop 8 text) ≡ None
    → 2 ^ 64 ≤ 8 * n * number text + number (drop 8 text)
    → pruned_error n range text ≡ Some (Invalid (codes "Prunable") (codes "total bitmap length (pruned + unpruned) would overflow u64"))
unfolding or_else
pruned_total_error n range text l w c e t =
    pruned_later n range text l w c ∙ ap (λ x. or_else x (first_error (total_tests n text))) e ∙ rw (le-ltb _ _ t) refl

pub sound_pruned-none : (n : ℕ) (range : ℕ → Bool) (text : List ℕ) → SoundPruned n range text → pruned_error n range text ≡ None
unfolding or_else
sound_pruned-none n range text s =
    pruned_later n range text s.long s.fits s.count ∙ ap (λ x. or_else x (first_error (total_tests n text))) s.bits ∙ rw (lt-ltb _ _ s.total) refl
