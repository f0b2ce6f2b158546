-- What a handle ends as, once a `&mut` to its session has ended.
use Rattle.std.specs.Prelude.{Some}
use Rattle.bitmap_c.specs.declared.any.AnySession.{AnySession}
use Rattle.bitmap_c.specs.declared.handle.Handle.{Handle}

-- the same handle with the session x
abbrev pub with_session : Handle → AnySession → Handle
with_session h x = record h { value = Some x }
