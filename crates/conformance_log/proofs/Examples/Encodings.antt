-- The encodings of entries and bases, and the frames and logs that hold them. Each chunk has one byte. The digests are left as they are.
use Rattle.std.specs.Prelude.{◌≡◌, [], ◌∷◌, ◌++◌, replicate, true, false}
use Rattle.std.proofs.Common.{refl}
use Rattle.bitmap_core.specs.Encoding.{encoding, pruned_encoding}
use Rattle.bitmap_core.specs.PrunedBits.{PrunedBits}
use Rattle.log_frames.specs.Frames.{be64, chained, frame, frames, head_check, next}
use Rattle.log_frames.specs.Header.{first_place, header}
use Rattle.log_frames.specs.declared.frame.Place.{Place}
use Rattle.commit_log.specs.declared.base.Past.TheVariants.{NoCommit, Dropped, KeptUnder}
use Rattle.commit_log.specs.Base.{Base, encode_base}
use Rattle.commit_log.specs.Entries.{encode_change, encode_chunk, encode_entry}
use Rattle.commit_log.specs.Entries.Entry.{Commit, Rewind, DropBefore, Clear}
use Rattle.commit_log.specs.Logs.{log_bytes}

-- the commit of one chunk: its tag, the number 5, the length 3, nothing pruned, the index 0, and the byte 5
encoding_of_commit : encode_entry (Commit (record { number = 5; len = 3; pruned = 0; chunks = (0, 5 ∷ []) ∷ [] })) ≡ 1 ∷ replicate 7 0 ++ 5 ∷ replicate 7 0 ++ 3 ∷ replicate 8 0 ++ replicate 8 0 ++ 5 ∷ []
unfolding encode_entry encode_change encode_chunk
encoding_of_commit = refl

-- a number above 255 has its more significant byte first
encoding_of_rewind : encode_entry (Rewind 258) ≡ 2 ∷ replicate 6 0 ++ 1 ∷ 2 ∷ []
unfolding encode_entry
encoding_of_rewind = refl

encoding_of_drop : encode_entry (DropBefore 7) ≡ 3 ∷ replicate 7 0 ++ 7 ∷ []
unfolding encode_entry
encoding_of_drop = refl

encoding_of_clear : encode_entry Clear ≡ 5 ∷ []
unfolding encode_entry
encoding_of_clear = refl

-- no bits and no commit
abbrev pub nothing : Base
nothing = record { bits = record { pruned = 0; bits = [] }; past = NoCommit }

-- the bits 1, 0, 1, kept under 2, with one more commit after them
abbrev pub kept : Base
kept = record { bits = record { pruned = 0; bits = true ∷ false ∷ true ∷ [] }; past = KeptUnder 2 1 }

base_of_nothing : encode_base 1 nothing ≡ 4 ∷ 0 ∷ replicate 32 0
unfolding encode_base pruned_encoding encoding
base_of_nothing = refl

base_of_kept : encode_base 1 kept ≡ 4 ∷ 2 ∷ replicate 7 0 ++ 2 ∷ replicate 7 0 ++ 1 ∷ replicate 8 0 ++ replicate 7 0 ++ 3 ∷ 5 ∷ []
unfolding encode_base pruned_encoding encoding
base_of_kept = refl

-- one pruned chunk, no retained bit, and a last number that is not kept
base_of_dropped : encode_base 1 (record { bits = record { pruned = 1; bits = [] }; past = Dropped 9 }) ≡ 4 ∷ 1 ∷ replicate 7 0 ++ 9 ∷ replicate 15 0 ++ 1 ∷ replicate 8 0
unfolding encode_base pruned_encoding encoding
base_of_dropped = refl

-- the frame of a clear at byte 90: the length 1, the check of the place and this length, the body, and the digest
frame_of_clear : (d : Place) → frame d (5 ∷ []) ≡ replicate 7 0 ++ 1 ∷ be64 (head_check d 1) ++ 5 ∷ be64 (chained d (5 ∷ []))
unfolding frame
frame_of_clear d = refl

-- the place after it is 25 bytes on
place_after_clear : next (record { at = 90; digest = 7 }) (5 ∷ []) ≡ record { at = 115; digest = chained (record { at = 90; digest = 7 }) (5 ∷ []) }
place_after_clear = refl

-- a log is its header, the frame of its base, and that of each entry in order
log_of_clear : log_bytes 1 nothing (Clear ∷ []) ≡ header 1 ++ frames (first_place 1) (encode_base 1 nothing ∷ encode_entry Clear ∷ [])
log_of_clear = refl
