-- A session of any width: its width, the machine that it is seen as, and its log.
use Rattle.std.specs.Prelude.{◌≡◌, ℕ, Bool, ◌||◌, nat_eq, Option, None}
use Rattle.commit_log.specs.Logs.{LogView}
use Rattle.bitmap_session.specs.Machine.{Machine}
use Rattle.bitmap_c.specs.declared.any.AnySession.{AnySession}
use Rattle.bitmap_c.specs.declared.any.AnySession.TheVariants.{Width1, Width8, Width32, Width64}

-- this number of bytes per chunk is a width: 1, 8, 32 or 64
abbrev pub is_width : ℕ → Bool
is_width bytes = nat_eq bytes 1 || nat_eq bytes 8 || nat_eq bytes 32 || nat_eq bytes 64

-- the number of bytes per chunk
abbrev pub width : AnySession → ℕ
width (Width1 m l) = 1
width (Width8 m l) = 8
width (Width32 m l) = 32
width (Width64 m l) = 64

-- the session, as a machine
abbrev pub machine : AnySession → Machine
machine (Width1 m l) = m
machine (Width8 m l) = m
machine (Width32 m l) = m
machine (Width64 m l) = m

-- the log of the session, if it keeps one
abbrev pub log_of : AnySession → Option LogView
log_of (Width1 m l) = l
log_of (Width8 m l) = l
log_of (Width32 m l) = l
log_of (Width64 m l) = l

-- a session has the width and the log of another one
abbrev pub KeepsLog : AnySession → AnySession → Type 0
KeepsLog old new = (width new ≡ width old) × (log_of new ≡ log_of old)

-- the session without its log
abbrev pub without_log : AnySession → AnySession
without_log (Width1 m l) = Width1 m None
without_log (Width8 m l) = Width8 m None
without_log (Width32 m l) = Width32 m None
without_log (Width64 m l) = Width64 m None
