-- What a handle owns, by its pointer and its value.
use Rattle.std.specs.Prelude.{Option, None, Some}
use base.Fml.{Fml, ftrue, ffalse}
use denote.RattleType.{RattleType}
use denote.RawPtr.{Ptr, block_ptr, null_ptr}
use Rattle.std.specs.declared.alloc.Global.{Global}
use Rattle.std.specs.Box.Ownership.{box_owns}
use Rattle.std.specs.contracts.impls.GlobalAllocator.TheImpl.{ghosts}

-- for sessions of the type R and the allocator a
module _ (R : RattleType) (a : Global) where
  -- nothing if the pointer is null and there is no value; the value in its allocation if there are both; no handle has only one
  abbrev pub owned : Ptr → Option R.Denot → Fml
  owned null_ptr None = ftrue
  owned null_ptr (Some x) = ffalse
  owned (block_ptr b o) None = ffalse
  owned (block_ptr b o) (Some x) = box_owns (ghosts.dealloc_token a) R (block_ptr b o) x
