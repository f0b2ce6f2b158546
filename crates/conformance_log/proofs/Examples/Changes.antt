-- The changes and the deltas between two bitmaps, and what a change makes. Each chunk has one byte.
use Rattle.std.specs.Prelude.{◌≡◌, true, false, [], ◌∷◌, ◌++◌, replicate}
use Rattle.std.proofs.Common.{refl}
use Rattle.bitmap_core.specs.PrunedBits.{PrunedBits}
use Rattle.log_frames.specs.Digest.{digest}
use Rattle.commit_log.specs.Delta.{delta_between, replaced}
use Rattle.commit_log.specs.Entries.{Change}
use Rattle.commit_log.specs.Kept.{applied, change_to}

-- the bits 1, 0, 1, whose chunk has the byte 5
abbrev pub three : PrunedBits
three = record { pruned = 0; bits = true ∷ false ∷ true ∷ [] }

-- the bits 1, 0, 1, 1, 1, 0, 1, 0, whose chunk has the byte 5D in hexadecimal, and then 0, 1, 1, with the byte 6
abbrev pub eleven : PrunedBits
eleven = record { pruned = 0; bits = true ∷ false ∷ true ∷ true ∷ true ∷ false ∷ true ∷ false ∷ false ∷ true ∷ true ∷ [] }

-- the first chunk of these eleven bits pruned
abbrev pub later : PrunedBits
later = record { pruned = 1; bits = false ∷ true ∷ true ∷ [] }

-- a longer bitmap lists chunk 0, which has another byte, and chunk 1, which is new
abbrev pub to_eleven : Change
to_eleven = record { number = 5; len = 11; pruned = 0; chunks = (0, 93 ∷ []) ∷ (1, 6 ∷ []) ∷ [] }

change_to_eleven : change_to 1 5 three eleven ≡ to_eleven
change_to_eleven = refl

applied_to_three : applied 1 three to_eleven ≡ eleven
applied_to_three = refl

-- in the other direction chunk 0 is listed, and chunk 1 is cut off
change_back : change_to 1 6 eleven three ≡ record { number = 6; len = 3; pruned = 0; chunks = (0, 5 ∷ []) ∷ [] }
change_back = refl

-- a pruned chunk is not listed, and chunk 1 has the same byte as before
change_that_prunes : change_to 1 6 eleven later ≡ record { number = 6; len = 11; pruned = 1; chunks = [] }
change_that_prunes = refl

applied_prune : applied 1 eleven (record { number = 6; len = 11; pruned = 1; chunks = [] }) ≡ later
applied_prune = refl

-- a bit more that is zero is in no list: the byte is the same
change_of_the_length : change_to 1 2 three (record { pruned = 0; bits = true ∷ false ∷ true ∷ false ∷ [] }) ≡ record { number = 2; len = 4; pruned = 0; chunks = [] }
change_of_the_length = refl

-- a delta replaces the old byte of chunk 0; chunk 1 has none
replaced_bytes : replaced 1 three to_eleven.chunks ≡ 5 ∷ []
replaced_bytes = refl

delta_to_eleven : delta_between 1 2 three 5 eleven ≡ record { number = 2; len = 3; pruned = 0; replaced_digest = digest (5 ∷ []); change = to_eleven }
delta_to_eleven = refl
