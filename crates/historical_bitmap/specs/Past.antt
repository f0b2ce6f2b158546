-- Past states, in the way in which they are read. A chunk has N bytes.
use Rattle.std.specs.Prelude.{ℕ}
use Rattle.bitmap_core.specs.PrunedBits.{PrunedBits}
use Rattle.historical_bitmap.specs.declared.bitmap.historical.at_for.Way.{Way}
use Rattle.historical_bitmap.specs.declared.bitmap.historical.at_for.Way.TheVariants.{Searched, Gathered, Built}

-- the bitmap that is read
abbrev pub bitmap_of : {N : ℕ} → Way N → PrunedBits
bitmap_of (Searched bitmap) = bitmap
bitmap_of (Gathered bitmap) = bitmap
bitmap_of (Built bitmap) = bitmap
