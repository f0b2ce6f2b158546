-- What the tests of a change decide.
use Rattle.std.proofs.Common.{◌≡◌, ℕ, suc, ◌+◌, ◌-◌, ◌*◌, ◌/◌, ◌%◌, ◌<◌, ◌≤◌, max, Bool, true, false, not, List, [], ◌∷◌, length, take, drop, Option, Some, None, refl, sym, ap, subst, ◌∙◌, arith, inl, inr}
use Rattle.std.specs.Prelude.{nat_eq}
use Rattle.std.specs.Bool.{Decides}
use Rattle.std.specs.Int.{div_ceil, from_be_bytes, w64}
use Rattle.std.specs.List.{list_any, range_with_len}
use Rattle.std.proofs.Math.Nat.{div-eq_of_lt, mod-mod, mul-add-div, mul-add-mod_self_left}
use Rattle.std.proofs.lemmas.Bool.{cases_lt, cases_eq, false≢true}
use Rattle.std.proofs.lemmas.Cmp.{nat_list_eq_equiv}
use Rattle.std.specs.Cmp.Lexicographic.{options_equiv, pointwise}
use Rattle.std.specs.Option.{option_eq}
use Rattle.std.proofs.lemmas.List.{drop-drop, length-drop}
use Rattle.std.proofs.lemmas.Nat.{div-mul-add, mod_below, mul-le}
use Rattle.std.proofs.lemmas.Option.{none-some, same_Some}
use Rattle.bitmap_bytes.specs.Chunk.{chunk_bit, IsChunk}
use Rattle.bitmap_bytes.proofs.Chunks.Bits.{chunk_bit-mod}
use Rattle.bitmap_bytes.proofs.Counting.Tests.{any_range_at, any_range_none}
use Rattle.bitmap_core.specs.Decoding.{number as number_in}
use Rattle.bitmap_core.specs.PrunedBits.{PrunedBits, bit_len, chunk}
use Rattle.bitmap_core.proofs.Pruned.Positions.{ceil_above_index, index_below_ceil, place}
use Rattle.historical_bitmap.specs.Changes.{retained_bytes}
use Rattle.historical_bitmap.proofs.Changes.Patched.{same_option}
use Rattle.historical_bitmap.proofs.Changes.Unnamed.{bytes_none, bytes_there, is_there}
use Rattle.commit_log.specs.Entries.{all_chunks, chunks_in, chunks_of}
use Rattle.commit_log.specs.ListOfChanges.{Differs, IsZeroFrom, IsListed, IsLeftOut, ListsFrom}

pub decides_true : {P : Type 0} → P → Decides true P
decides_true p = ((λ e. p), (λ q. refl))

pub decides_false : {P : Type 0} → (P → ⊥) → Decides false P
decides_false never = ((λ e. absurd (false≢true e)), (λ p. absurd (never p)))

pub decides_by : {P Q : Type 0} (r : Bool) → Decides r P → (P → Q) → (Q → P) → Decides r Q
decides_by r d f g = ((λ e. f (d.0 e)), (λ q. d.1 (g q)))

pub never_decided : {P : Type 0} (r : Bool) → Decides r P → r ≡ false → P → ⊥
never_decided r d e p = false≢true (sym e ∙ d.1 p)

-- ---- equal bytes

pub equal : (r : Bool) (a b : Option (List ℕ)) → r ≡ option_eq (pointwise nat_eq) a b → r ≡ true → a ≡ b
equal r a b e t = same_option a b (sym e ∙ t)

pub not_equal : (r : Bool) (a b : Option (List ℕ)) → r ≡ option_eq (pointwise nat_eq) a b → r ≡ false → a ≡ b → ⊥
not_equal r a b e f q =
    let same : option_eq (pointwise nat_eq) a b ≡ true = ap (λ (x : Option (List ℕ)). option_eq (pointwise nat_eq) x b) q ∙ (options_equiv nat_list_eq_equiv).refl b in
    false≢true (sym f ∙ e ∙ same)

-- ---- the bits past the length

module _ (n i len : ℕ) (bytes : List ℕ) (pos : 0 < n) (begins : 8 * n * i ≤ len) where
  zero_at : list_any (chunk_bit n bytes) (range_with_len (len - 8 * n * i) (8 * n - (len - 8 * n * i))) ≡ false → IsZeroFrom n len i bytes
  zero_at none k l q =
      let whole : 8 * n * (k / (8 * n)) + k % (8 * n) ≡ k = place (8 * n) k in
      let first : 8 * n * (k / (8 * n)) ≡ 8 * n * i = ap (λ (x : ℕ). 8 * n * x) q in
      let part : k % (8 * n) < 8 * n = mod_below k (8 * n) (omega (arith, pos)) in
      chunk_bit-mod n bytes k (k % (8 * n)) pos (sym (mod-mod k (8 * n)))
      ∙ any_range_at (chunk_bit n bytes) (len - 8 * n * i) (8 * n - (len - 8 * n * i)) (k % (8 * n)) none (omega (arith, whole, first, l)) (omega (arith, whole, first, l, part))

  none_at : IsZeroFrom n len i bytes → list_any (chunk_bit n bytes) (range_with_len (len - 8 * n * i) (8 * n - (len - 8 * n * i))) ≡ false
  none_at zeros = any_range_none (chunk_bit n bytes) (len - 8 * n * i) (8 * n - (len - 8 * n * i)) (λ t l h.
      let inside : t < 8 * n = omega (arith, l, h) in
      let e : 8 * n * i + t ≡ i * (8 * n) + t = omega arith in
      let here : (8 * n * i + t) / (8 * n) ≡ i = ap (λ (k : ℕ). k / (8 * n)) e ∙ div-mul-add i (8 * n) t inside in
      chunk_bit-mod n bytes t (8 * n * i + t) pos (sym (mul-add-mod_self_left (8 * n) i t)) ∙ zeros (8 * n * i + t) (omega (arith, l, begins)) here)

  pub zero_decided : (r : Bool) → r ≡ list_any (chunk_bit n bytes) (range_with_len (len - 8 * n * i) (8 * n - (len - 8 * n * i))) → Decides (not r) (IsZeroFrom n len i bytes)
  zero_decided true e = decides_false (λ zeros. false≢true (sym (e ∙ none_at zeros)))
  zero_decided false e = decides_true (zero_at (sym e))

-- ---- the first chunk of a list

one_more : (k : ℕ) → 1 + k ≡ suc k
one_more k = omega arith

pub chunks_split : (n : ℕ) (input : List ℕ) → 8 + n ≤ length input → all_chunks n input ≡ (number_in input, take n (drop 8 input)) ∷ all_chunks n (drop n (drop 8 input))
chunks_split n input long =
    let rest : drop n (drop 8 input) ≡ drop (8 + n) input = drop-drop n 8 input in
    let less : length (drop (8 + n) input) ≡ length input - (8 + n) = length-drop (8 + n) input in
    let parts : length input ≡ (8 + n) * 1 + length (drop n (drop 8 input)) = omega (arith, ap length rest, less, long) in
    let count : chunks_of n input ≡ suc (chunks_of n (drop n (drop 8 input))) =
    ap (λ (x : ℕ). x / (8 + n)) parts ∙ (mul-add-div (omega arith) 1 (length (drop n (drop 8 input))) ∙ one_more (chunks_of n (drop n (drop 8 input)))) in
    ap (λ (k : ℕ). chunks_in n k input) count
    ∙ ap (λ (x : List ℕ). (number_in input, take n (drop 8 input)) ∷ chunks_in n (chunks_of n (drop n (drop 8 input))) x) (sym rest)

pub chunk_first : (n index : ℕ) (input first rest bytes after : List ℕ) → first ≡ take 8 input → rest ≡ drop 8 input → length rest + 8 ≡ length input → bytes ≡ take n rest → after ≡ drop n rest → length after + n ≡ length rest
    → index ≡ from_be_bytes w64 first → all_chunks n input ≡ (index, bytes) ∷ all_chunks n after
chunk_first n index input first rest bytes after f r l b a m i =
    let index_is : number_in input ≡ index = ap (from_be_bytes w64) (sym f) ∙ sym i in
    let bytes_is : take n (drop 8 input) ≡ bytes = ap (take n) (sym r) ∙ sym b in
    let after_is : drop n (drop 8 input) ≡ after = ap (drop n) (sym r) ∙ sym a in
    chunks_split n input (omega (arith, l, m)) ∙ (λ j. (index_is j, bytes_is j) ∷ all_chunks n (after_is j))

pub chunks_none : (n : ℕ) (input : List ℕ) → length input < 8 + n → all_chunks n input ≡ []
chunks_none n input short =
    let none : chunks_of n input ≡ 0 = div-eq_of_lt short in
    ap (λ (k : ℕ). chunks_in n k input) none

-- ---- the chunks after the listed ones

-- a chunk before another that begins before the length is whole
whole_chunk : (n len i last : ℕ) (bytes : List ℕ) → 0 < n → i < last → 8 * n * last < len → IsZeroFrom n len i bytes
whole_chunk n len i last bytes pos l s = λ k m q.
    let whole : 8 * n * (k / (8 * n)) + k % (8 * n) ≡ k = place (8 * n) k in
    let first : 8 * n * (k / (8 * n)) ≡ 8 * n * i = ap (λ (x : ℕ). 8 * n * x) q in
    let part : k % (8 * n) < 8 * n = mod_below k (8 * n) (omega (arith, pos)) in
    let next : 8 * n * (i + 1) ≤ 8 * n * last = mul-le (8 * n) (i + 1) (8 * n) last (omega arith) (omega (arith, l)) in
    let split : 8 * n * (i + 1) ≡ 8 * n * i + 8 * n = grind arith in
    absurd (omega (arith, whole, first, part, next, split, s, m))

module _ (n : ℕ) (old : PrunedBits) (len from total : ℕ) (pos : 0 < n) (low : old.pruned ≤ from) (total_is : total ≡ div_ceil len (8 * n)) where
  abbrev AreLeft : Type 0
  AreLeft = (i : ℕ) → from ≤ i → 8 * n * i < len → IsLeftOut n old len i

  pub left_none : total ≤ from → AreLeft
  left_none past = λ i l s. absurd (omega (arith, past, l, ceil_above_index n len i pos s, total_is))

  pub left_last : (bytes : List ℕ) (r : Bool) → from < total → retained_bytes n old (total - 1) ≡ Some bytes → Decides r (IsZeroFrom n len (total - 1) bytes) → Decides r AreLeft
  left_last bytes r some found d = elim (is_there n old (total - 1)) [
    | inr gone ↦ absurd (none-some bytes (sym (bytes_none n old (total - 1) gone) ∙ found))
    | inl has ↦
        let same : chunk n old (total - 1) ≡ bytes = same_Some (chunk n old (total - 1)) bytes (sym (bytes_there n old (total - 1) has) ∙ found) in
        let last : 8 * n * (total - 1) < len = index_below_ceil n len (total - 1) pos (omega (arith, some, total_is)) in
        decides_by r d
        (λ zeros i l s. elim (cases_eq i (total - 1)) [
          | inl e ↦ subst (λ (x : ℕ). IsLeftOut n old len x) (sym e) (record { retained = has; zeros = subst (IsZeroFrom n len (total - 1)) (sym same) zeros })
          | inr ne ↦
              let before : i < total - 1 = omega (arith, ne, ceil_above_index n len i pos s, total_is) in
              record {
                retained = (omega (arith, low, l), omega (arith, has.1, mul-le (8 * n) i (8 * n) (total - 1) (omega arith) (omega (arith, before))));
                zeros = whole_chunk n len i (total - 1) (chunk n old i) pos before last;
              }
        ])
        (λ all. subst (IsZeroFrom n len (total - 1)) same (all (total - 1) (omega (arith, some)) last).zeros)
  ]

  pub left_gone : from < total → retained_bytes n old (total - 1) ≡ None → Decides false AreLeft
  left_gone some none = decides_false (λ all.
      let out = all (total - 1) (omega (arith, some)) (index_below_ceil n len (total - 1) pos (omega (arith, some, total_is))) in
      none-some (chunk n old (total - 1)) (sym none ∙ bytes_there n old (total - 1) out.retained))

-- ---- the pass over the listed chunks

-- the chunks before those that are left are listed as they should be, and all are so exactly if those that are left are
pub record Scans (n : ℕ) (old : PrunedBits) (pruned len from : ℕ) (all left : List (ℕ × List ℕ)) : Type 0 where
  pub low : pruned ≤ from
  pub onward : ListsFrom n old pruned len pruned all → ListsFrom n old pruned len from left
  pub back : ListsFrom n old pruned len from left → ListsFrom n old pruned len pruned all

module _ (n : ℕ) (old : PrunedBits) (pruned len : ℕ) (pos : 0 < n) (rises : old.pruned ≤ pruned) where
  pub scan_begun : (all : List (ℕ × List ℕ)) → Scans n old pruned len pruned all all
  scan_begun all = record { low = omega arith; onward = λ h. h; back = λ h. h }

  -- what the list says of the next chunk
  pub record Next (from : ℕ) (e : ℕ × List ℕ) : Type 0 where
    pub order : from ≤ e.0
    pub skipped : e.0 ≤ max from (div_ceil (bit_len n old) (8 * n))
    pub listed : IsListed n old pruned len e

  scan_next : (from : ℕ) (all left after : List (ℕ × List ℕ)) (e : ℕ × List ℕ) → Scans n old pruned len from all left → left ≡ e ∷ after → ListsFrom n old pruned len pruned all → Next from e
  scan_next from all left after e s is h =
      let here = subst (ListsFrom n old pruned len from) is (s.onward h) in
      record { order = here.0; skipped = skipped here.0 here.2; listed = here.1 }
    where
      skipped : from ≤ e.0 → ((i : ℕ) → from ≤ i → i < e.0 → IsLeftOut n old len i) → e.0 ≤ max from (div_ceil (bit_len n old) (8 * n))
      skipped order out = elim (cases_lt from e.0) [
        | inr l ↦ omega (arith, l)
        | inl l ↦ omega (arith, l, ceil_above_index n (bit_len n old) (e.0 - 1) pos (out (e.0 - 1) (omega (arith, l)) (omega (arith, l))).retained.1)
      ]

  -- what the tests say of it
  pub next_is : (from old_total total : ℕ) (e : ℕ × List ℕ) → old_total ≡ div_ceil (bit_len n old) (8 * n) → total ≡ div_ceil len (8 * n) → pruned ≤ from → from ≤ e.0 → e.0 ≤ max from old_total → e.0 < total → IsChunk n e.1
      → IsZeroFrom n len e.0 e.1 → Differs n old e → Next from e
  next_is from old_total total e old_is is low order skipped high chunk zeros differs = record {
    order = order;
    skipped = omega (arith, skipped, old_is);
    listed = record { low = omega (arith, low, order); high = index_below_ceil n len e.0 pos (omega (arith, high, is)); is_chunk = chunk; zeros = zeros; differs = differs };
  }

  pub high_is : (from total : ℕ) (e : ℕ × List ℕ) → total ≡ div_ceil len (8 * n) → Next from e → e.0 < total
  high_is from total e is next = omega (arith, is, ceil_above_index n len e.0 pos next.listed.high)

  pub scan_fails : (from : ℕ) (all left after : List (ℕ × List ℕ)) (e : ℕ × List ℕ) → Scans n old pruned len from all left → left ≡ e ∷ after → (Next from e → ⊥) → Decides false (ListsFrom n old pruned len pruned all)
  scan_fails from all left after e s is never = decides_false (λ h. never (scan_next from all left after e s is h))

  pub scan_more : (from : ℕ) (all left after : List (ℕ × List ℕ)) (e : ℕ × List ℕ) → Scans n old pruned len from all left → left ≡ e ∷ after → Next from e → Scans n old pruned len (e.0 + 1) all after
  scan_more from all left after e s is next = record {
    low = omega (arith, s.low, next.order);
    onward = λ h. (subst (ListsFrom n old pruned len from) is (s.onward h)).3;
    back = λ h. s.back (subst (ListsFrom n old pruned len from) (sym is) (next.order, next.listed, out, h));
  }
    where
      out : (i : ℕ) → from ≤ i → i < e.0 → IsLeftOut n old len i
      out i l m = record {
        retained = (omega (arith, rises, s.low, l), index_below_ceil n (bit_len n old) i pos (omega (arith, next.skipped, l, m)));
        zeros = whole_chunk n len i e.0 (chunk n old i) pos m next.listed.high;
      }

  pub scan_ends : (from : ℕ) (all left : List (ℕ × List ℕ)) (r : Bool) → Scans n old pruned len from all left → left ≡ [] → Decides r ((i : ℕ) → from ≤ i → 8 * n * i < len → IsLeftOut n old len i) → Decides r (ListsFrom n old pruned len pruned all)
  scan_ends from all left r s none d =
      decides_by r d (λ out. s.back (subst (ListsFrom n old pruned len from) (sym none) out)) (λ h. subst (ListsFrom n old pruned len from) none (s.onward h))

-- ---- the pruned count and the length

module _ (n pruned len whole : ℕ) (pos : 0 < n) (is : whole ≡ len / (8 * n)) where
  pub covers_is : pruned ≤ whole → 8 * n * pruned ≤ len
  covers_is le = omega (arith, mul-le (8 * n) pruned (8 * n) whole (omega arith) le, ap (λ (x : ℕ). 8 * n * x) is, place (8 * n) len)

  pub covers_not : whole < pruned → 8 * n * pruned ≤ len → ⊥
  covers_not less h =
      let more : 8 * n * (whole + 1) ≤ 8 * n * pruned = mul-le (8 * n) (whole + 1) (8 * n) pruned (omega arith) (omega (arith, less)) in
      let split : 8 * n * (whole + 1) ≡ 8 * n * whole + 8 * n = grind arith in
      omega (arith, h, more, split, ap (λ (x : ℕ). 8 * n * x) is, place (8 * n) len, mod_below len (8 * n) (omega (arith, pos)))
