-- The header of a log, which says the format, its version, and a width.
use Rattle.std.specs.Prelude.{ℕ, List, ◌++◌, length, take, drop, Result, Ok, Err, nat_eq, nat_lt, ◌==◌, not, codes, if◌then◌else◌}
use Rattle.std.specs.List.{starts_with}
use Rattle.log_frames.specs.Digest.{digest}
use Rattle.log_frames.specs.Frames.{be64, number_at}
use Rattle.log_frames.specs.declared.frame.Place.{Place}
use Rattle.log_frames.specs.declared.header.HeaderError.{HeaderError}
use Rattle.log_frames.specs.declared.header.HeaderError.TheVariants.{Short, NotALog, Version, BadCheck, Width}

-- the bytes that every log begins with
abbrev pub magic : List ℕ
magic = codes "MPBITLOG"

-- the fields of a header: the magic bytes, the version of the format, which is 1, and the width
abbrev pub fields : ℕ → List ℕ
fields width = magic ++ (be64 1 ++ be64 width)

-- a header: the fields, and their digest
unfoldable pub header : ℕ → List ℕ
header width = fields width ++ be64 (digest (fields width))

-- the place of the first frame, behind a header
abbrev pub first_place : ℕ → Place
first_place width = record { at = 32; digest = digest (fields width) }

-- the bytes after the header that bytes begin with, or the first error
unfoldable pub header_at : ℕ → List ℕ → Result (List ℕ) HeaderError
header_at width bytes =
    if nat_lt (length bytes) 32 then Err Short
    else if not (starts_with nat_eq bytes magic) then Err NotALog
    else if not (number_at 8 bytes == 1) then Err (Version (number_at 8 bytes))
    else if not (number_at 24 bytes == digest (take 24 bytes)) then Err BadCheck
    else if not (number_at 16 bytes == width) then Err (Width (number_at 16 bytes))
    else Ok (drop 32 bytes)
