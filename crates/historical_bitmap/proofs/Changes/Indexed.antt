-- The next chunk that may differ between two kept states, found with an index of the kept commits.
use Rattle.std.proofs.Common.{◌≡◌, ℕ, ◌+◌, ◌*◌, ◌/◌, ◌<◌, ◌≤◌, max, false, List, arith, sym, ◌∙◌}
use mathlib.Core.Logic.{inl, inr}
use Rattle.std.proofs.lemmas.Bool.{cases_lt}
use Rattle.std.proofs.lemmas.Nat.{mul-le}
use Rattle.std.specs.Prelude.{Some, None}
use Rattle.bitmap_core.specs.PrunedBits.{PrunedBits, bit_len}
use Rattle.bitmap_core.proofs.Pruned.Positions.{place}
use Rattle.historical_bitmap.specs.Changes.{chunk_total, differs}
use Rattle.historical_bitmap.specs.Compared.{IsComparing, PassesEqual}
use Rattle.historical_bitmap.specs.Index.{has_between, IsIndexOf, IsNextBetween, row_of}
use Rattle.historical_bitmap.specs.Record.{ReverseRecord}
use Rattle.historical_bitmap.proofs.Changes.Patched.{past_total}
use Rattle.historical_bitmap.proofs.Changes.Unnamed.{bytes_none, not_different}
use Rattle.historical_bitmap.proofs.Index.Found.{none_kept_between}

module _ (n from to : ℕ) (cs : List (ℕ × ReverseRecord)) (old new : PrunedBits) (end : ℕ) (rows : List (ℕ × List (ℕ × List ℕ))) (are : IsComparing n from to cs old new end) (index : IsIndexOf rows cs)
    (first complete : ℕ) (complete_is : complete ≡ bit_len n old / (8 * n)) where
  -- a chunk that the older state has with all its bits does not differ if its row has no bytes between
  row_alike : (i : ℕ) → i < complete → has_between from to (row_of rows i) ≡ false → differs n old new i ≡ false
  row_alike i low none = are.unkept i whole (none_kept_between rows cs from to i are.numbers index none)
    where
      whole : 8 * n * (i + 1) ≤ bit_len n old
      whole = omega (arith, mul-le (8 * n) (i + 1) (8 * n) (bit_len n old / (8 * n)) (omega arith) (omega (arith, low, complete_is)), place (8 * n) (bit_len n old))

  -- the next of these chunks whose row has bytes between
  pub passes_kept : (chunk : ℕ) → IsNextBetween rows from to first complete (Some chunk) → PassesEqual n old new first (Some chunk)
  passes_kept chunk next = (next.0, λ i l h. row_alike i (omega (arith, h, next.1)) (next.3 i l h))

  module _ (none : IsNextBetween rows from to first complete None) (next : ℕ) (next_is : next ≡ max first complete) where
    -- without one, the first of the other chunks
    pub passes_complete : PassesEqual n old new first (Some next)
    passes_complete =
        (omega (arith, next_is), λ i l h. row_alike i (omega (arith, l, h, next_is)) (none i l (omega (arith, l, h, next_is))))

    -- if the older state lacks it, the first that the newer state has not pruned
    pub passes_absent : chunk_total n old ≤ next → (last : ℕ) → last ≡ max next new.pruned → PassesEqual n old new first (Some last)
    passes_absent lacks last last_is = (
      omega (arith, next_is, last_is),
      λ i l h. elim (cases_lt i next) [
        | inl before ↦ passes_complete.1 i l before
        | inr after ↦
            not_different n old new i
            (past_total n old i are.width.positive (omega (arith, lacks, after)) ∙ sym (bytes_none n new i (inl (omega (arith, h, after, last_is)))))
      ],
    )
