-- The replies of accepted commands and the states after them, computed with chunks of one byte.
use Rattle.std.specs.Prelude.{◌≡◌, ℕ, Bool, true, false, List, [], ◌∷◌, replicate, Some, None}
use Rattle.std.specs.Global.{Vec}
use Rattle.std.proofs.Common.{refl, ap, ◌∙◌, inl, inr}
use Rattle.bitmap_core.specs.PrunedBits.{PrunedBits}
use Rattle.historical_bitmap.specs.Edits.{Edit}
use Rattle.bitmap_core.specs.declared.bitmap.codec.range.RangeCfg.{RangeCfg}
use Rattle.bitmap_core.specs.Encoding.{encoding, pruned_encoding}
use Rattle.bitmap_core.specs.Decoding.{pruned_error, pruned_in, bits_in}
use Rattle.bitmap_core.specs.Decoding.DecodeError.{EndOfBuffer}
use Rattle.bitmap_session.specs.declared.command.Command.TheVariants.{Start, Begin, Push, PushByte, PushChunk, Pop, Set, Prune, Commit, Abort, Rewind, Len, PrunedChunks, Get, Chunk, Ones, Encode, At, OnesAt, EncodeAt, Decode, Commits, Exists, Latest, Earliest, DropBefore, Clear, Entries}
use Rattle.bitmap_session.proofs.Examples.Refusals.{input_of_three}
use Rattle.bitmap_session.specs.Replies.{ReplyValue}
use Rattle.bitmap_session.specs.Replies.ReplyValue.{Done, Bit, Number, Positions, Bytes, Snapshot, Read, Refused, Wide, Maybe}
use Rattle.bitmap_session.specs.Replies.Refusal.{Pruned, WrongMode, Codec, NoMemory}
use Rattle.bitmap_session.specs.Machine.{State, Machine, first_machine, empty_state, committed, reads, edits, sets_state, rule, decoded, IsDecoded, reply_of, state_after, touches, touched_after, after, rewound, dropped_before}

-- bits after one pruned chunk
abbrev pub beyond_one : List Bool → PrunedBits
beyond_one v = record { pruned = 1; bits = v }

-- the bits 1, 0 at positions 8 and 9
abbrev pub two_bits : PrunedBits
two_bits = beyond_one (true ∷ false ∷ [])

-- they are current and kept under 5
abbrev pub clean : State
clean = record { current = two_bits; pending = None; history = (5, two_bits) ∷ []; costs = (5, 1) ∷ []; last = Some 5 }

-- these bits are pending in a batch
abbrev pub pending : List Bool → State
pending v = record { current = two_bits; pending = Some (beyond_one v); history = (5, two_bits) ∷ []; costs = (5, 1) ∷ []; last = Some 5 }

-- the same, with the chunks that the batch has touched
abbrev pub touched : List Bool → List ℕ → Machine
touched v chunks = record { state = pending v; touched = chunks }

-- a batch on other current bits, with nothing kept
abbrev pub unkept : PrunedBits → PrunedBits → State
unkept current pending = record { current = current; pending = Some pending; history = []; costs = []; last = None }

-- the machine before the first command
nothing_yet : first_machine ≡ record {
  state = record { current = record { pruned = 0; bits = [] }; pending = None; history = []; costs = []; last = None };
  touched = [];
}
nothing_yet = refl

-- ---- whole rules: of a read, of an edit and of a command that begins a batch

len_rule : rule 1 clean Len ≡ record { refusals = []; allocates = false; reply = Number 10; after = λ cost. clean; touches = [] }
len_rule = refl

push_rule : rule 1 (pending (true ∷ [])) (Push false) ≡ record {
  refusals = None ∷ None ∷ [];
  allocates = true;
  reply = Done;
  after = λ cost. pending (true ∷ false ∷ []);
  touches = 1 ∷ [];
}
push_rule = refl

begin_rule : rule 1 clean Begin ≡ record {
  refusals = None ∷ [];
  allocates = false;
  reply = Done;
  after = λ cost. pending (true ∷ false ∷ []);
  touches = [];
}
begin_rule = refl

-- the three shapes of a rule, each with a refusal of its own
a_read : reads clean (Some Pruned ∷ []) true Done ≡ record {
  refusals = Some Pruned ∷ [];
  allocates = true;
  reply = Done;
  after = λ cost. clean;
  touches = [];
}
a_read = refl

an_edit : edits 1 clean (Some Pruned ∷ []) false Done (Edit.Pop ∷ Edit.Push true ∷ []) ≡ record {
  refusals = Some WrongMode ∷ Some Pruned ∷ [];
  allocates = false;
  reply = Done;
  after = λ cost. pending (true ∷ true ∷ []);
  touches = 1 ∷ 1 ∷ [];
}
an_edit = refl

a_turn : sets_state (Some Pruned ∷ []) false Done (λ cost. empty_state cost) ≡ record {
  refusals = Some Pruned ∷ [];
  allocates = false;
  reply = Done;
  after = λ cost. empty_state cost;
  touches = [];
}
a_turn = refl

-- ---- replies

-- a pop replies the last bit
popped_bit : reply_of 1 (pending (true ∷ false ∷ true ∷ [])) Pop ≡ Bit true
popped_bit = refl

-- the length is 8 plus 2 outside the batch, and 8 plus 3 in it
current_length : reply_of 1 clean Len ≡ Number 10
current_length = refl

pending_length : reply_of 1 (pending (true ∷ false ∷ true ∷ [])) Len ≡ Number 11
pending_length = refl

pruned_count : reply_of 1 clean PrunedChunks ≡ Number 1
pruned_count = refl

-- in a batch the count of the pending bitmap
pending_count : reply_of 1 (unkept (beyond_one []) (record { pruned = 0; bits = [] })) PrunedChunks ≡ Number 0
pending_count = refl

-- position 9 outside a batch, and in a batch that has set it
current_bit : reply_of 1 clean (Get 9) ≡ Bit false
current_bit = refl

pending_bit : reply_of 1 (pending (true ∷ true ∷ [])) (Get 9) ≡ Bit true
pending_bit = refl

-- of all positions only 8 is set
set_positions : reply_of 1 clean (Ones 0 99) ≡ Positions (Some (8 ∷ []))
set_positions = refl

-- the encoding: one pruned chunk, two bits, and the byte 1
abbrev pub input_of_two : List ℕ
input_of_two = 0 ∷ 0 ∷ 0 ∷ 0 ∷ 0 ∷ 0 ∷ 0 ∷ 1 ∷ 0 ∷ 0 ∷ 0 ∷ 0 ∷ 0 ∷ 0 ∷ 0 ∷ 2 ∷ 1 ∷ []

encoded : reply_of 1 clean Encode ≡ Bytes (Some input_of_two)
unfolding pruned_encoding encoding
encoded = refl

-- at a kept number, and at one that is not kept
kept : reply_of 1 clean (At 5) ≡ Snapshot (Some (beyond_one (true ∷ false ∷ [])))
kept = refl

not_kept : reply_of 1 clean (At 6) ≡ Snapshot None
not_kept = refl

-- these reply Done
start_done : reply_of 1 clean (Start 7) ≡ Done
start_done = refl

begin_done : reply_of 1 clean Begin ≡ Done
begin_done = refl

push_done : reply_of 1 (pending []) (Push true) ≡ Done
push_done = refl

set_done : reply_of 1 (pending (true ∷ [])) (Set 8 false) ≡ Done
set_done = refl

commit_done : reply_of 1 (pending []) (Commit 6) ≡ Done
commit_done = refl

abort_done : reply_of 1 (pending []) Abort ≡ Done
abort_done = refl

-- the bits 1, 0, 1 after one pruned chunk, and two bytes left
pub read : decoded 1 input_of_three ≡ Read (beyond_one (true ∷ false ∷ true ∷ [])) 2
unfolding pruned_encoding encoding pruned_in bits_in
read = refl

-- a decode of it may reply this or NoMemory, and nothing else
may_be_read : IsDecoded 1 (λ k. true) input_of_three (Read (beyond_one (true ∷ false ∷ true ∷ [])) 2)
unfolding pruned_error pruned_encoding encoding pruned_in bits_in
may_be_read = inl refl

may_run_out_of_memory : IsDecoded 1 (λ k. true) input_of_three (Refused NoMemory)
unfolding pruned_error pruned_encoding encoding pruned_in bits_in
may_run_out_of_memory = inr refl

is_not_done : IsDecoded 1 (λ k. true) input_of_three Done → ⊥
unfolding pruned_error pruned_encoding encoding pruned_in bits_in
is_not_done (inl e) = cc
is_not_done (inr e) = cc

-- a short input is reported as such, and never as NoMemory
is_short : IsDecoded 1 (λ k. true) [] (Refused (Codec (Some EndOfBuffer)))
unfolding pruned_error
is_short = refl

is_not_out_of_memory : IsDecoded 1 (λ k. true) [] (Refused NoMemory) → ⊥
unfolding pruned_error
is_not_out_of_memory e = cc

-- a decode replies the same in a batch
decode_reply : (input : Vec ℕ) (range : RangeCfg)
    → input.items ≡ input_of_three
    → reply_of 1 (pending []) (Decode input range) ≡ Read (beyond_one (true ∷ false ∷ true ∷ [])) 2
decode_reply input range e = ap (decoded 1) e ∙ read

-- ---- states

-- seven chunks are pruned, and all else is dropped
seven_pruned : empty_state 7 ≡ record { current = record { pruned = 7; bits = [] }; pending = None; history = []; costs = []; last = None }
seven_pruned = refl

started : state_after 1 clean (Start 7) 0 ≡ record { current = record { pruned = 7; bits = [] }; pending = None; history = []; costs = []; last = None }
started = refl

-- a batch begins with the current bits pending
begun : state_after 1 clean Begin 0 ≡ pending (true ∷ false ∷ [])
begun = refl

-- edits change the pending bits
push_leaves : state_after 1 (pending (true ∷ false ∷ [])) (Push true) 0 ≡ pending (true ∷ false ∷ true ∷ [])
push_leaves = refl

pop_leaves : state_after 1 (pending (true ∷ false ∷ [])) Pop 0 ≡ pending (true ∷ [])
pop_leaves = refl

set_leaves : state_after 1 (pending (true ∷ false ∷ [])) (Set 9 true) 0 ≡ pending (true ∷ true ∷ [])
set_leaves = refl

-- a commit under 6 at a cost of 2: the pending bits are current, and kept after the earlier commits
commit_leaves : state_after 1 (pending (true ∷ [])) (Commit 6) 2 ≡ record {
  current = beyond_one (true ∷ []);
  pending = None;
  history = (5, two_bits) ∷ (6, beyond_one (true ∷ [])) ∷ [];
  costs = (5, 1) ∷ (6, 2) ∷ [];
  last = Some 6;
}
commit_leaves = refl

-- outside a batch it would keep the current bits
committed_clean : committed clean 6 0 ≡ record {
  current = two_bits;
  pending = None;
  history = (5, two_bits) ∷ (6, two_bits) ∷ [];
  costs = (5, 1) ∷ (6, 0) ∷ [];
  last = Some 6;
}
committed_clean = refl

-- an abort restores the state before the batch
abort_leaves : state_after 1 (pending (true ∷ [])) Abort 0 ≡ clean
abort_leaves = refl

-- a read changes nothing
len_leaves : state_after 1 clean Len 0 ≡ clean
len_leaves = refl

pruned_chunks_leaves : state_after 1 clean PrunedChunks 0 ≡ clean
pruned_chunks_leaves = refl

get_leaves : state_after 1 clean (Get 8) 0 ≡ clean
get_leaves = refl

ones_leaves : state_after 1 clean (Ones 0 9) 0 ≡ clean
ones_leaves = refl

encode_leaves : state_after 1 clean Encode 0 ≡ clean
encode_leaves = refl

at_leaves : state_after 1 clean (At 5) 0 ≡ clean
at_leaves = refl

decode_leaves : (input : Vec ℕ) (range : RangeCfg) → state_after 1 clean (Decode input range) 0 ≡ clean
decode_leaves input range = refl

-- ---- touched chunks

-- a push at length 10 touches chunk 1, and at length 16 chunk 2
push_touches : touches 1 (pending (true ∷ false ∷ [])) (Push true) ≡ 1 ∷ []
push_touches = refl

push_touches_the_next : touches 1 (pending (true ∷ true ∷ true ∷ true ∷ true ∷ true ∷ true ∷ true ∷ [])) (Push true) ≡ 2 ∷ []
push_touches_the_next = refl

-- a pop at length 16 touches chunk 1, which has the last bit, and at length 17 chunk 2
pop_touches : touches 1 (pending (true ∷ true ∷ true ∷ true ∷ true ∷ true ∷ true ∷ true ∷ [])) Pop ≡ 1 ∷ []
pop_touches = refl

pop_touches_the_last : touches 1 (pending (true ∷ true ∷ true ∷ true ∷ true ∷ true ∷ true ∷ true ∷ true ∷ [])) Pop ≡ 2 ∷ []
pop_touches_the_last = refl

-- a set touches the chunk of its position, and a read touches none
set_touches : touches 1 (pending (true ∷ false ∷ [])) (Set 9 true) ≡ 1 ∷ []
set_touches = refl

get_touches_none : touches 1 (pending (true ∷ false ∷ [])) (Get 9) ≡ []
get_touches_none = refl

-- a push in a batch that has touched chunk 0
one_more_touched : touched_after 1 (touched (true ∷ []) (0 ∷ [])) (Push true) ≡ 0 ∷ 1 ∷ []
one_more_touched = refl

-- no chunk is touched at the begin of a batch and after its end
none_touched_yet : touched_after 1 (record { state = clean; touched = 4 ∷ [] }) Begin ≡ []
none_touched_yet = refl

none_touched_after_a_commit : touched_after 1 (touched (true ∷ []) (1 ∷ [])) (Commit 6) ≡ []
none_touched_after_a_commit = refl

none_touched_after_an_abort : touched_after 1 (touched (true ∷ []) (1 ∷ [])) Abort ≡ []
none_touched_after_an_abort = refl

-- the machine after a push, and after a commit at a cost of 1
after_a_push : after 1 (touched (true ∷ []) (1 ∷ [])) (Push false) 0 ≡ touched (true ∷ false ∷ []) (1 ∷ 1 ∷ [])
after_a_push = refl

after_an_abort : after 1 (touched (true ∷ []) (1 ∷ [])) Abort 0 ≡ record { state = clean; touched = [] }
after_an_abort = refl

-- ---- two commits, under 5 and 7

abbrev pub two_kept : State
two_kept = record {
  current = beyond_one (true ∷ []);
  pending = None;
  history = (5, two_bits) ∷ (7, beyond_one (true ∷ [])) ∷ [];
  costs = (5, 1) ∷ (7, 2) ∷ [];
  last = Some 7;
}

-- reads of them
ones_of_the_first : reply_of 1 two_kept (OnesAt 5 0 99) ≡ Positions (Some (8 ∷ []))
ones_of_the_first = refl

ones_of_none : reply_of 1 two_kept (OnesAt 6 0 99) ≡ Positions None
ones_of_none = refl

bytes_of_the_first : reply_of 1 two_kept (EncodeAt 5) ≡ Bytes (Some input_of_two)
unfolding pruned_encoding encoding
bytes_of_the_first = refl

bytes_of_none : reply_of 1 two_kept (EncodeAt 6) ≡ Bytes None
bytes_of_none = refl

kept_numbers : reply_of 1 two_kept Commits ≡ Positions (Some (5 ∷ 7 ∷ []))
kept_numbers = refl

kept_or_not : (reply_of 1 two_kept (Exists 5) ≡ Bit true) × (reply_of 1 two_kept (Exists 6) ≡ Bit false)
kept_or_not = (refl, refl)

ends_of_them : (reply_of 1 two_kept Latest ≡ Maybe (Some 7)) × (reply_of 1 two_kept Earliest ≡ Maybe (Some 5))
ends_of_them = (refl, refl)

ends_of_none : (reply_of 1 (empty_state 7) Latest ≡ Maybe None) × (reply_of 1 (empty_state 7) Earliest ≡ Maybe None)
ends_of_none = (refl, refl)

what_they_cost : reply_of 1 two_kept Entries ≡ Wide 3
what_they_cost = refl

-- the chunk of position 9 has the bits 1, 0
chunk_of_nine : reply_of 1 clean (Chunk 9) ≡ ReplyValue.Chunk (1 ∷ [])
chunk_of_nine = refl

-- a drop before 7 drops one commit, before 5 none, and before 8 both; the last number is unchanged
one_dropped : (reply_of 1 two_kept (DropBefore 7) ≡ Number 1) × (state_after 1 two_kept (DropBefore 7) 0 ≡ record two_kept { history = (7, beyond_one (true ∷ [])) ∷ []; costs = (7, 2) ∷ [] })
one_dropped = (refl, refl)

none_dropped : (reply_of 1 two_kept (DropBefore 5) ≡ Number 0) × (dropped_before two_kept 5 ≡ two_kept)
none_dropped = (refl, refl)

all_dropped : reply_of 1 two_kept (DropBefore 8) ≡ Number 2
all_dropped = refl

all_cleared : state_after 1 two_kept Clear 0 ≡ record two_kept { history = []; costs = [] }
all_cleared = refl

-- after a rewind to 5 its bits are current, 7 is dropped, and 5 is the last number
rewound_to_five : rewound two_kept 5 ≡ clean
rewound_to_five = refl

rewound_to_seven : state_after 1 two_kept (Rewind 7) 0 ≡ two_kept
rewound_to_seven = refl

-- a byte pushed at length 10 extends it to 18, in the chunks 1 and 2
byte_leaves : state_after 1 (pending (true ∷ false ∷ [])) (PushByte 5) 0 ≡ pending (true ∷ false ∷ true ∷ false ∷ true ∷ false ∷ false ∷ false ∷ false ∷ false ∷ [])
byte_leaves = refl

byte_touches : touches 1 (pending (true ∷ false ∷ [])) (PushByte 5) ≡ 1 ∷ 1 ∷ 1 ∷ 1 ∷ 1 ∷ 1 ∷ 2 ∷ 2 ∷ []
byte_touches = refl

chunk_leaves : state_after 1 (pending []) (PushChunk (3 ∷ [])) 0 ≡ pending (true ∷ true ∷ false ∷ false ∷ false ∷ false ∷ false ∷ false ∷ [])
chunk_leaves = refl

-- a prune to 17 drops chunk 1
prune_leaves : state_after 1 (pending (replicate 9 true)) (Prune 17) 0 ≡ record (pending []) { pending = Some (record { pruned = 2; bits = true ∷ [] }) }
prune_leaves = refl

prune_touches : touches 1 (pending (replicate 9 true)) (Prune 17) ≡ 1 ∷ []
prune_touches = refl
