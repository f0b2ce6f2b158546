-- The values of replies.
use Rattle.std.specs.Prelude.{ℕ, Bool, List, Option}
use Rattle.bitmap_core.specs.PrunedBits.{PrunedBits}
use Rattle.bitmap_core.specs.Decoding.{DecodeError}

-- the reason for which a command is refused; for an input, its first decode error
pub data Refusal : Type 0 where
  WrongMode : Refusal
  OutOfBounds : Refusal
  Pruned : Refusal
  TooLong : Refusal
  NoRetainedBit : Refusal
  ReservedCommitNumber : Refusal
  NonMonotonicCommit : (previous attempted : ℕ) → Refusal
  PrunedChunksOverflow : Refusal
  Codec : (decode_error : Option DecodeError) → Refusal
  NoSuchCommit : Refusal
  NoMemory : Refusal

-- the value of a reply
pub data ReplyValue : Type 0 where
  Done : ReplyValue
  Bit : (bit : Bool) → ReplyValue
  Number : (number : ℕ) → ReplyValue
  Wide : (number : ℕ) → ReplyValue
  Chunk : (bytes : List ℕ) → ReplyValue
  Maybe : (number : Option ℕ) → ReplyValue
  Positions : (positions : Option (List ℕ)) → ReplyValue
  Bytes : (bytes : Option (List ℕ)) → ReplyValue
  Snapshot : (bitmap : Option PrunedBits) → ReplyValue
  Read : (bitmap : PrunedBits) (left : ℕ) → ReplyValue
  Refused : (refusal : Refusal) → ReplyValue
