-- What a dirty bitmap is after an edit that returns it in a `Lent` or fails.
use Rattle.std.specs.Prelude.{◌≡◌, Result}
use Rattle.std.specs.Borrow.{Fml, MutBor, RattleType, RestsIfErr}
use Rattle.historical_bitmap.specs.contracts.bitmap.historical.BitMap.{the_row}
use Rattle.historical_bitmap.specs.contracts.bitmap.historical.pending.Dirty as dirty
use Rattle.historical_bitmap.specs.contracts.bitmap.historical.state.DirtyState.TheImpl.{ghosts}
use Rattle.historical_bitmap.specs.declared.bitmap.historical.edit.Lent.{Lent}

-- the guard lends the value of this reference
abbrev pub IsOf : {T : Type 0} → MutBor T → Lent T → Type 0
IsOf reference lent = lent.on.ghost_name ≡ reference.ghost_name

-- the type of a dirty bitmap, as the logic names it
abbrev pub dirty_row : RattleType → RattleType
dirty_row N = the_row N (dirty.the_row N) (ghosts N)

-- if the result is an error, the dirty bitmap of this reference ends as it was; else the guard of the result lends it
abbrev pub rests_if_refused : (N : RattleType) → {E : Type 0} → MutBor (dirty_row N).Denot
    → Result (Lent (dirty_row N).Denot) E → Fml
rests_if_refused N reference result =
    RestsIfErr (dirty_row N) reference (λ lent. lent.on.ghost_name) result
    (λ left. left ≡ reference.now)
