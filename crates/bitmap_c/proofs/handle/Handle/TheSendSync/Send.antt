-- A handle may go to another thread: what it owns names no thread.
use Rattle.std.specs.Prelude.{Option, None, Some}
use Rattle.std.proofs.Crossing.{frees}
use Rattle.std.proofs.alloc.Global.TheSendSync as global
use base.Fraction.{full_share}
use base.Shift.{Keyless}
use mir.Raw.{raw}
use denote.Builtin.{RawPtr}
use denote.Memory.{lone}
use denote.Param.Send.{IsSend, owning_send, part_keyless, sendable}
use denote.RawPtr.{Ptr, block_ptr, null_ptr}
use Rattle.std.specs.declared.alloc.Global.{Global}
use Rattle.bitmap_c.specs.Handles.{owned}
use Rattle.bitmap_c.specs.contracts.any.AnySession.{the_row as R}
use Rattle.bitmap_c.specs.contracts.handle.Handle.{the_row, the_type}
use Rattle.bitmap_c.proofs.any.AnySession.TheSendSync as session

owned_keyless : (a : Global) (p : Ptr) (y : Option R.Denot) → Keyless (owned R a p y)
owned_keyless a (block_ptr b o) (Some x) = (part_keyless R session.the_send full_share x b o, frees.frees a (raw (lone R.mir)) (block_ptr b o))
owned_keyless a (block_ptr b o) None = tt
owned_keyless a null_ptr (Some x) = tt
owned_keyless a null_ptr None = tt

pointer_send : IsSend RawPtr
pointer_send = search sendable

pub send : IsSend the_row
send = owning_send the_type (pointer_send, (global.the_field_send, tt)) (λ h. owned_keyless h.alloc h.session h.value) (λ k d w. tt)
