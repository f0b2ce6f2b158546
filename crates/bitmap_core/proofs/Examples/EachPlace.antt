-- Two tables compared place by place.
use Rattle.std.specs.Prelude.{◌≡◌, ℕ, ◌*◌, ◌/◌, ◌%◌, ◌<◌, ◌≤◌, Bool, true, false, List, map, length, slice_index_or, not, ◌==◌, if◌then◌else◌}
use Rattle.std.specs.List.{range_with_len}
use Rattle.std.proofs.Common.{ap, sym, ◌≢◌, ◌∙◌, arith, inl, inr}
use Rattle.std.proofs.lemmas.List.FromFn.{get_or-map-range_with_len}
use Rattle.std.proofs.lemmas.Bool.{cases_lt, ne_eqb}
use Rattle.std.proofs.Math.Nat.{mod-eq_of_lt}
use Rattle.std.proofs.lemmas.Nat.{mod_below}
use Rattle.bitmap_bytes.specs.Chunk.{chunk_bit}
use Rattle.bitmap_bytes.specs.Bits.{chunks_bit}
use Rattle.bitmap_bytes.proofs.Chunks.Bits.{chunk_bit-mod}
use Rattle.bitmap_bytes.proofs.Chunks.Lists.{bit_of_past}

-- the first k values of a function, with false at the places that are not kept
abbrev pub table : (ℕ → Bool) → (ℕ → Bool) → ℕ → List Bool
table keep f k = map (λ i. if keep i then f i else false) (range_with_len 0 k)

pub same_at : (keep f g : ℕ → Bool) (k i : ℕ) → table keep f k ≡ table keep g k → i < k → keep i ≡ true → f i ≡ g i
same_at keep f g k i e h s =
    let value = λ (p : ℕ → Bool). get_or-map-range_with_len (λ j. if keep j then p j else false) 0 k i i false h (omega arith) in
    kept (keep i) (f i) (g i) s (sym (value f) ∙ ap (λ v. slice_index_or v i false) e ∙ value g)
  where
    kept : (b x y : Bool) → b ≡ true → (if b then x else false) ≡ (if b then y else false) → x ≡ y
    kept true x y s e = e
    kept false x y s e = absurd cc

pub is_other : (a b : ℕ) → a ≢ b → not (a == b) ≡ true
is_other a b d = ap not (ne_eqb a b d)

-- two chunks that agree at the kept places of a chunk agree at each position whose place is kept
pub same_places : (n : ℕ) (keep : ℕ → Bool) (old new : List ℕ) (j : ℕ) → 0 < n
    → table keep (chunk_bit n old) (8 * n) ≡ table keep (chunk_bit n new) (8 * n) → keep (j % (8 * n)) ≡ true
    → chunk_bit n new j ≡ chunk_bit n old j
same_places n keep old new j p e s =
    let w = mod_below j (8 * n) (omega arith) in
    let q = mod-eq_of_lt w in
    chunk_bit-mod n new j (j % (8 * n)) p (sym q)
    ∙ sym (same_at keep (chunk_bit n old) (chunk_bit n new) (8 * n) (j % (8 * n)) e w s)
    ∙ chunk_bit-mod n old (j % (8 * n)) j p q

-- lists of chunks that agree at the kept positions below k agree at each kept position, if they have no bits from k on
pub same_bits : (n k : ℕ) (keep : ℕ → Bool) (old new : List (List ℕ)) (j : ℕ)
    → table keep (chunks_bit n old) k ≡ table keep (chunks_bit n new) k → (k ≤ j → length old ≤ j / (8 * n)) → length new ≡ length old
    → keep j ≡ true
    → chunks_bit n new j ≡ chunks_bit n old j
same_bits n k keep old new j e past l s = elim (cases_lt j k) [
  | inl h ↦ sym (same_at keep (chunks_bit n old) (chunks_bit n new) k j e h s)
  | inr h ↦ bit_of_past n new j (omega (arith, past h)) ∙ sym (bit_of_past n old j (past h))
]
