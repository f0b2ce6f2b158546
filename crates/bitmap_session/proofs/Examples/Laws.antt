-- The definitions of the laws, computed with chunks of one byte.
use Rattle.std.specs.Prelude.{◌≡◌, ℕ, true, false, List, [], ◌∷◌, Option, Some, None, IsSome, length}
use Rattle.std.specs.List.Sorted.{IsStrictlySortedBy}
use Rattle.std.proofs.Common.{refl, ap, sym, subst, inl, inr, arith}
use Rattle.std.proofs.lemmas.Bool.{cases_eq, false≢true}
use Rattle.bitmap_core.specs.PrunedBits.{PrunedBits}
use Rattle.historical_bitmap.specs.History.{kept_under}
use Rattle.bitmap_session.specs.declared.command.Command.{Command}
use Rattle.bitmap_session.specs.declared.command.Command.TheVariants.{Begin, Commit, DropBefore, Len}
use Rattle.bitmap_session.specs.Replies.{ReplyValue}
use Rattle.bitmap_session.specs.Replies.ReplyValue.{Done, Number}
use Rattle.bitmap_session.specs.Machine.{Machine, Agrees, Run, first_machine}
use Rattle.bitmap_session.specs.Laws.{IsGreatestOf, HasRisingNumbers, StepsOn, RunKeeping, IsRewoundTo}
use Rattle.bitmap_session.proofs.KeptNumbers.{no_commits_rise, numbers_rise}

-- one bit, and two bits
abbrev one : PrunedBits
one = record { pruned = 0; bits = true ∷ [] }

abbrev two : PrunedBits
two = record { pruned = 0; bits = true ∷ false ∷ [] }

-- a machine outside a batch
abbrev clean : PrunedBits → List (ℕ × PrunedBits) → Option ℕ → Machine
clean current history last = record { state = record { current = current; pending = None; history = history; costs = []; last = last }; touched = [] }

-- one bit is kept under 1, and two bits under 3
abbrev both : Machine
both = clean two ((1, one) ∷ (3, two) ∷ []) (Some 3)

-- 4 is the greatest of 2 and 4, and 3 is not; None is the greatest of the empty list only
greatest : IsGreatestOf (Some 4) (2 ∷ 4 ∷ [])
greatest k d h = elim (cases_eq k 0) [ inl a ↦ rw a omega arith | inr b ↦ let e : k ≡ 1 = omega (arith, h, b) in rw e omega arith ]

not_greatest : IsGreatestOf (Some 3) (2 ∷ 4 ∷ []) → ⊥
not_greatest is_greatest = omega (arith, is_greatest 1 0 (omega arith))

greatest_of_none : IsGreatestOf None []
greatest_of_none = refl

none_is_not_greatest : IsGreatestOf None (2 ∷ []) → ⊥
none_is_not_greatest is_greatest = omega (arith, ap length is_greatest)

-- 1 and 3 are ascending, up to the last number 3
rising : HasRisingNumbers both.state
unfolding IsStrictlySortedBy
rising = record { rise = ((refl, tt), (tt, tt)); last = up_to_three }
  where
    up_to_three : IsGreatestOf (Some 3) (1 ∷ 3 ∷ [])
    up_to_three k d h = elim (cases_eq k 0) [ inl a ↦ rw a omega arith | inr b ↦ let e : k ≡ 1 = omega (arith, h, b) in rw e omega arith ]

-- they may end below the last number, as after a drop of the latest commit, and there may be none of them
below_the_last : HasRisingNumbers (clean two ((1, one) ∷ []) (Some 3)).state
unfolding IsStrictlySortedBy
below_the_last = record { rise = (tt, tt); last = λ k d h. let e : k ≡ 0 = omega (arith, h) in rw e omega arith }

all_dropped : HasRisingNumbers (clean two [] (Some 3)).state
unfolding IsStrictlySortedBy
all_dropped = record { rise = tt; last = λ k d h. omega (arith, h) }

-- not if the last number is below a kept one or is absent, nor if a number is kept twice or after a greater one
past_the_last : HasRisingNumbers (clean two ((1, one) ∷ (3, two) ∷ []) (Some 2)).state → ⊥
past_the_last has = omega (arith, has.last 1 0 (omega arith))

no_last : HasRisingNumbers (clean one ((1, one) ∷ []) None).state → ⊥
no_last has = omega (arith, ap length has.last)

kept_twice : HasRisingNumbers (clean two ((3, one) ∷ (3, two) ∷ []) (Some 3)).state → ⊥
unfolding IsStrictlySortedBy
kept_twice has = let first = has.rise.0.0 in absurd cc

kept_in_disorder : HasRisingNumbers (clean two ((3, one) ∷ (1, two) ∷ []) (Some 3)).state → ⊥
unfolding IsStrictlySortedBy
kept_in_disorder has = let first = has.rise.0.0 in absurd cc

-- they rise in each machine that a run reaches from the first machine, and from a bitmap that was read
after_the_first : (N : ℕ) (m : Machine) (commands : List (Command N)) (replies : List ReplyValue) → Run N first_machine commands replies m → HasRisingNumbers m.state
after_the_first N m commands replies run = numbers_rise N first_machine m commands replies (no_commits_rise first_machine.state refl) run

after_a_read : (N : ℕ) (bitmap : PrunedBits) (m : Machine) (commands : List (Command N)) (replies : List ReplyValue) → Run N (clean bitmap [] None) commands replies m → HasRisingNumbers m.state
after_a_read N bitmap m commands replies run = numbers_rise N (clean bitmap [] None) m commands replies (no_commits_rise (clean bitmap [] None).state refl) run

-- two steps: a begin, and the length of the empty bitmap; there is none to another length
abbrev empty : PrunedBits
empty = record { pruned = 0; bits = [] }

abbrev first_batch : Machine
first_batch = record { state = record { current = empty; pending = Some empty; history = []; costs = []; last = None }; touched = [] }

itself : (m : Machine) → Agrees m m
itself m = record { same = refl; within = λ q h. h }

begun : StepsOn 1 first_machine ((Begin, Done) ∷ (Len, Number 0) ∷ []) first_batch
begun = (first_batch, inl (refl, (0, omega arith, itself first_batch)), (first_batch, inl (refl, (0, omega arith, itself first_batch)), refl))

no_step : StepsOn 1 first_machine [] first_machine
no_step = refl

other_length : StepsOn 1 first_machine ((Len, Number 1) ∷ []) first_machine → ⊥
other_length (mid, inl step, rest) = let e = step.0 in cc
other_length (mid, inr step, rest) = false≢true step.0

-- a read keeps the number 1; a run that drops the commits before 3 does not
reads : RunKeeping 1 1 both (Len ∷ []) (Number 2 ∷ []) both
reads = (refl, (both, (inl (refl, (0, omega arith, refl)), (refl, refl))))

drops : RunKeeping 1 1 both (DropBefore 3 ∷ []) (Number 1 ∷ []) (clean two ((3, two) ∷ []) (Some 3)) → ⊥
drops (kept, (mid, (step, (still, same)))) = false≢true (subst (λ m. IsSome (kept_under m.state.history 1)) (sym same) still)

kept_at_the_end_alone : RunKeeping 1 1 first_batch (Commit 1 ∷ []) (Done ∷ []) (record { state = record { current = empty; pending = None; history = (1, empty) ∷ []; costs = (1, 0) ∷ []; last = Some 1 }; touched = [] }) → ⊥
kept_at_the_end_alone (kept, rest) = false≢true kept

not_kept_at_all : RunKeeping 1 2 both [] [] both → ⊥
not_kept_at_all run = false≢true run.0

-- the machine before the rewind: a later commit 4, and the commit 1 dropped
abbrev later : Machine
later = clean one ((3, two) ∷ (4, one) ∷ []) (Some 4)

is_back : IsRewoundTo both later (clean two ((3, two) ∷ []) (Some 3))
is_back = record { current = refl; history = refl }

-- a rewind that drops the kept commit 1 is none
drops_a_kept_one : IsRewoundTo both (clean one ((1, one) ∷ (3, two) ∷ (4, one) ∷ []) (Some 4)) (clean two ((3, two) ∷ []) (Some 3)) → ⊥
drops_a_kept_one back = omega (arith, ap length back.history)

other_bitmap : IsRewoundTo both later (clean one ((3, two) ∷ []) (Some 3)) → ⊥
other_bitmap back = omega (arith, ap (λ bitmap. length bitmap.bits) back.current)

commit_past_it : IsRewoundTo both later (clean two ((3, two) ∷ (4, one) ∷ []) (Some 4)) → ⊥
commit_past_it back = omega (arith, ap length back.history)
