-- Batches that are started, aborted and committed. Each chunk has one byte.
use Rattle.std.specs.Prelude.{◌≡◌, true, false, ℕ, [], ◌∷◌, Some, Ok, Err, ⊤, length, replicate, slice_index_or, is_some, alloc_error}
use Rattle.std.specs.List.{sum_by}
use Rattle.std.proofs.Common.{refl, ap, arith, sym}
use Rattle.std.proofs.lemmas.Bool.{false≢true}
use Rattle.bitmap_core.specs.PrunedBits.{PrunedBits}
use Rattle.historical_bitmap.specs.declared.bitmap.historical.error.ApplyError.TheVariants.{Batch, Commit}
use Rattle.historical_bitmap.specs.declared.bitmap.historical.error.Error.TheVariants.{NonMonotonicCommit, Memory}
use Rattle.historical_bitmap.specs.Record.{ReverseRecord}
use Rattle.historical_bitmap.specs.Record.ChunkDiff.{Modified, Added}
use Rattle.historical_bitmap.specs.Pending.{PendingEdits}
use Rattle.historical_bitmap.specs.View.{View}
use Rattle.historical_bitmap.specs.Batch.{begun, IsBegun, aborted, CommitGives, from_commit, BatchGives}

-- one commit, of four true bits, under the number 5
abbrev four : PrunedBits
four = record { pruned = 0; bits = replicate 4 true }

abbrev made : ℕ × ReverseRecord
made = (5, record { len = 0; pruned = 0; entries = (0, Added) ∷ [] })

abbrev clean : View ⊤
clean = record { current = four; commits = made ∷ []; last = Some 5; state = tt }

-- a batch of it that clears bit 0
abbrev left : View PendingEdits
left = record { current = four; commits = made ∷ []; last = Some 5; state = record { len = 4; pruned = 0; edited = (0, 14 ∷ []) ∷ []; captured = [] } }

-- the bitmap turned into a batch has the commits and the last number, and no edit
begun_has : begun 1 clean ≡ record { current = four; commits = made ∷ []; last = Some 5; state = record { len = 4; pruned = 0; edited = []; captured = [] } }
begun_has = refl

is_begun : IsBegun 1 clean (begun 1 clean)
is_begun = record { value = refl; pending = refl; marks = refl }

-- a batch with an edit is not a bitmap turned into a batch
edited_is_not_begun : IsBegun 1 clean left → ⊥
edited_is_not_begun begun = omega (arith, ap length begun.marks)

-- after an abort the edit is dropped
aborted_has : aborted left ≡ clean
aborted_has = refl

-- a commit of it under 6: the bits 0, 1, 1, 1 are current and kept, and the record has one entry, with the byte 0F from before
abbrev committed : View ⊤
committed = record {
  current = record { pruned = 0; bits = false ∷ replicate 3 true };
  commits = made ∷ (6, record { len = 4; pruned = 0; entries = (0, Modified (15 ∷ [])) ∷ [] }) ∷ [];
  last = Some 6;
  state = tt;
}

commit_gives : CommitGives 1 left 6 (Ok committed)
commit_gives = record {
  accepted = refl;
  refused = tt;
  unchanged = tt;
  current = refl;
  history = refl;
  earlier = refl;
  last = refl;
  costs = (1, omega arith, refl);
}

-- a commit does not keep the bitmap that was current before
commit_of_the_old_bitmap : CommitGives 1 left 6 (Ok (record { current = four; commits = made ∷ (6, record { len = 4; pruned = 0; entries = [] }) ∷ []; last = Some 6; state = tt })) → ⊥
commit_of_the_old_bitmap gives = false≢true (ap (λ bitmap. slice_index_or bitmap.bits 0 true) (sym gives.current))

-- nor does it cost two entries, nor does it succeed under 5, which is the last number
commit_at_two_entries : CommitGives 1 left 6 (Ok (record { current = committed.current; commits = made ∷ (6, record { len = 4; pruned = 0; entries = (0, Modified (15 ∷ [])) ∷ (1, Added) ∷ [] }) ∷ []; last = Some 6; state = tt })) → ⊥
commit_at_two_entries gives = omega (arith, gives.costs.1, ap (λ costs. sum_by (λ kept. kept.1) costs) gives.costs.2)

commit_under_the_last : CommitGives 1 left 5 (Ok committed) → ⊥
commit_under_the_last gives = false≢true (ap is_some (sym gives.accepted))

-- under 5 it fails, with the batch unchanged; under 6 it may run out of memory
commit_refused : CommitGives 1 left 5 (Err (left, NonMonotonicCommit 5 5))
commit_refused = record { accepted = tt; refused = refl; unchanged = refl; current = tt; history = tt; earlier = tt; last = tt; costs = tt }

commit_without_memory : CommitGives 1 left 6 (Err (left, Memory alloc_error))
commit_without_memory = record { accepted = tt; refused = refl; unchanged = refl; current = tt; history = tt; earlier = tt; last = tt; costs = tt }

-- the error of an applied batch returns the bitmap without the edit, and says that the commit failed
refusal_of_commit : from_commit {E = ℕ} (Err (left, NonMonotonicCommit 5 5)) ≡ Err (clean, Commit (NonMonotonicCommit 5 5))
refusal_of_commit = refl

from_accepted : from_commit {E = ℕ} (Ok committed) ≡ Ok committed
from_accepted = refl

batch_gives : BatchGives {E = ℕ} 1 left (Ok tt) 6 (Ok committed)
batch_gives = (Ok committed, commit_gives, refl)

-- if the closure returns the error 7, nothing is committed
closure_refuses : BatchGives {E = ℕ} 1 left (Err 7) 6 (Err (clean, Batch 7))
closure_refuses = refl
