-- The text that `Debug` writes of a dense bitmap.
use Rattle.std.specs.Prelude.{ℕ, ◌-◌, Bool, true, false, List, ◌++◌, length, take, drop, nat_le, codes, if◌then◌else◌}
use Rattle.std.specs.List.{flat_map}

-- a bit as a digit
abbrev pub digit : Bool → List ℕ
digit true = codes "1"
digit false = codes "0"

-- the text of a bitmap: all bits if there are at most 64, otherwise the first 32 and the last 32
abbrev pub debug_text : List Bool → List ℕ
debug_text v = codes "BitMap["
    ++ (if nat_le (length v) 64
    then flat_map digit v
    else flat_map digit (take 32 v) ++ codes "..." ++ flat_map digit (drop (length v - 32) v))
    ++ codes "]"
