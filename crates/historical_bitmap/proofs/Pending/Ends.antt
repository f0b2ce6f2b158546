-- The last pending chunk: no chunk past the pending length is edited.
use Rattle.std.proofs.Common.{◌≡◌, ℕ, Bool, length, ◌-◌, ◌+◌, ◌*◌, ◌/◌, ◌%◌, ◌<◌, ◌≤◌, List, Some, None, refl, arith}
use mathlib.Core.Logic.{inl, inr}
use Rattle.std.proofs.Math.Nat.{lt-mul-div-succ}
use Rattle.std.proofs.lemmas.Bool.{cases_lt}
use Rattle.std.proofs.lemmas.Nat.{mul-le}
use Rattle.std.specs.Prelude.{Option, MatchOption, IfSome}
use Rattle.std.specs.Option.{option_map}
use Rattle.bitmap_core.specs.PrunedBits.{PrunedBits, bit_len, pruned_bits}
use Rattle.bitmap_core.proofs.Pruned.Positions.{place}
use Rattle.historical_bitmap.specs.Pending.{edited_chunk, IsClearFrom, IsEdited, PendingEdits, PendingFits, pending_bits}
use Rattle.historical_bitmap.proofs.Pending.BatchEdits.{past_prefix}
use Rattle.historical_bitmap.proofs.Pending.Edits.{pending_len}

pub none_past_len : (n : ℕ) (b : PrunedBits) (l : PendingEdits) → PendingFits n b l → (q : ℕ) → l.len ≤ 8 * n * q → edited_chunk l q ≡ None
none_past_len n b l fits q h = go (edited_chunk l q) (fits.edited q)
  where
    go : (o : Option (List ℕ)) → MatchOption o (Unit {0}) (IsEdited n b l q) → o ≡ None
    go None m = refl
    go (Some bytes) m = absurd (omega (arith, m.high, h))

-- chunks past the chunk of a position start past the position
pub past_index : (n k q : ℕ) → 0 < n → k / (8 * n) < q → k < 8 * n * q
past_index n k q pos h = omega (arith, lt-mul-div-succ k {b = 8 * n} (omega (arith, pos)), mul-le (8 * n) (k / (8 * n) + 1) (8 * n) q (omega arith) (omega (arith, h)))

pub not_edited : (f : List ℕ → Bool) (o : Option (List ℕ)) → None ≡ option_map f o → o ≡ None
not_edited f None e = refl
not_edited f (Some bytes) e = cc

-- the last bit is in the current bitmap if its chunk is not edited
pub has_last : (n : ℕ) (b : PrunedBits) (l : PendingEdits) → 0 < n → PendingFits n b l → 0 < length (pending_bits n b l).bits → edited_chunk l ((l.len - 1) / (8 * n)) ≡ None → (pruned_bits n b ≤ l.len - 1) × (l.len - 1 < bit_len n b)
has_last n b l pos fits some none =
    let len = pending_len n b l pos fits in
    let prefix : 8 * n * l.pruned ≤ l.len - 1 = omega (arith, len, some) in
    (past_prefix n b l (l.len - 1) fits prefix, fits.covered (l.len - 1) prefix (omega (arith, len, some)) none)

-- the bits at and past the pending length are zero in its chunk if that is edited
pub zero_at_len : (n : ℕ) (b : PrunedBits) (l : PendingEdits) → PendingFits n b l → IfSome (edited_chunk l (l.len / (8 * n))) (IsClearFrom n (l.len / (8 * n)) l.len)
zero_at_len n b l fits = go (edited_chunk l (l.len / (8 * n))) (fits.edited (l.len / (8 * n)))
  where
    go : (o : Option (List ℕ)) → MatchOption o (Unit {0}) (IsEdited n b l (l.len / (8 * n))) → IfSome o (IsClearFrom n (l.len / (8 * n)) l.len)
    go None m = tt
    go (Some bytes) m = m.clear

-- no chunk is edited that starts at the pending length
pub none_at_len : (n : ℕ) (b : PrunedBits) (l : PendingEdits) → PendingFits n b l → l.len % (8 * n) ≡ 0 → edited_chunk l (l.len / (8 * n)) ≡ None
none_at_len n b l fits whole = none_past_len n b l fits (l.len / (8 * n)) (omega (arith, whole, place (8 * n) l.len))

-- a position at or past the start of a chunk is in that chunk or a later one
pub index_from : (n p k : ℕ) → 0 < n → 8 * n * p ≤ k → p ≤ k / (8 * n)
index_from n p k pos h = elim (cases_lt (k / (8 * n)) p) [
  | inl l ↦ absurd (omega (arith, h, past_index n k p pos l))
  | inr m ↦ m
]
