-- Steps and runs of the abstract machine, with chunks of one byte.
use Rattle.std.specs.Prelude.{◌≡◌, ℕ, ◌||◌, nat_eq, Bool, true, false, List, [], ◌∷◌, Option, Some, None, map, length, slice_index, unwrap_or}
use Rattle.std.specs.Global.{Vec}
use Rattle.std.proofs.Common.{refl, ap, sym, ◌∙◌, inl, inr, arith}
use Rattle.std.proofs.lemmas.Bool.{false≢true}
use Rattle.bitmap_core.specs.PrunedBits.{PrunedBits}
use Rattle.bitmap_core.specs.declared.bitmap.codec.range.RangeCfg.{RangeCfg}
use Rattle.bitmap_core.specs.Decoding.DecodeError.{EndOfBuffer}
use Rattle.bitmap_session.specs.declared.command.Command.{Command}
use Rattle.bitmap_session.specs.declared.command.Command.TheVariants.{Begin, Push, Pop, Set, Commit, Len, Ones, At, Decode}
use Rattle.bitmap_session.specs.Replies.{ReplyValue}
use Rattle.bitmap_session.specs.Replies.ReplyValue.{Done, Bit, Number, Positions, Snapshot, Read, Refused}
use Rattle.bitmap_session.specs.Replies.Refusal.{WrongMode, NonMonotonicCommit, Codec, NoMemory}
use Rattle.bitmap_session.specs.Machine.{State, Machine, first_machine, Step, Run, Agrees, RunsOn, decoded}
use Rattle.bitmap_session.proofs.Examples.Refusals.{input_of_three, three_alone, no_bytes, admitted, of_bytes}
use Rattle.bitmap_session.proofs.Examples.Replies.{beyond_one, read}

-- some bits, nothing pruned
abbrev pub plain : List Bool → PrunedBits
plain v = record { pruned = 0; bits = v }

-- a machine outside a batch
abbrev pub clean : PrunedBits → List (ℕ × PrunedBits) → List (ℕ × ℕ) → Option ℕ → Machine
clean current history costs last = record { state = record { current = current; pending = None; history = history; costs = costs; last = last }; touched = [] }

-- a machine in a batch
abbrev pub batch : PrunedBits → PrunedBits → List (ℕ × PrunedBits) → List (ℕ × ℕ) → Option ℕ → List ℕ → Machine
batch current pending history costs last touched = record {
  state = record { current = current; pending = Some pending; history = history; costs = costs; last = last };
  touched = touched;
}

-- two bits pushed and committed under 1
abbrev pub first_commit : List (Command 1)
first_commit = Begin ∷ Push true ∷ Push false ∷ Commit 1 ∷ []

-- the bits 1, 0
abbrev pub one_zero : PrunedBits
one_zero = plain (true ∷ false ∷ [])

-- they are current and kept under 1, at the cost of one entry
abbrev pub one_kept : Machine
one_kept = clean one_zero ((1, one_zero) ∷ []) ((1, 1) ∷ []) (Some 1)

-- each command replies Done, and the commit costs one entry, for the chunk of both bits
first_run : Run 1 first_machine first_commit (Done ∷ Done ∷ Done ∷ Done ∷ []) one_kept
first_run = (
  batch (plain []) (plain []) [] [] None [],
  inl (refl, (0, omega arith, refl)),
  (
    batch (plain []) (plain (true ∷ [])) [] [] None (0 ∷ []),
    inl (refl, (0, omega arith, refl)),
    (
      batch (plain []) (plain (true ∷ false ∷ [])) [] [] None (0 ∷ 0 ∷ []),
      inl (refl, (0, omega arith, refl)),
      (
        one_kept,
        inl (refl, (1, omega arith, refl)),
        refl,
      ),
    ),
  ),
)

-- a batch on them
abbrev pub batch_on_it : List Bool → List ℕ → Machine
batch_on_it v touched = batch one_zero (plain v) ((1, one_zero) ∷ []) ((1, 1) ∷ []) (Some 1) touched

-- other bits are current and also kept under 2, at some cost
abbrev pub kept_besides : List Bool → ℕ → Machine
kept_besides v cost = clean (plain v) ((1, one_zero) ∷ (2, plain v) ∷ []) ((1, 1) ∷ (2, cost) ∷ []) (Some 2)

-- the first bit is cleared, and kept under 2 at no cost
abbrev pub two_kept : Machine
two_kept = kept_besides (false ∷ false ∷ []) 0

-- a second batch: a bit is cleared, one is pushed and popped, a kept number is refused, and a commit costs nothing
abbrev pub second_batch : List (Command 1)
second_batch = Begin ∷ Set 0 false ∷ Push true ∷ Pop ∷ Commit 1 ∷ Commit 2 ∷ []

abbrev pub second_returns : List ReplyValue
second_returns = Done ∷ Done ∷ Done ∷ Bit true ∷ Refused (NonMonotonicCommit 1 1) ∷ Done ∷ []

second_run : Run 1 one_kept second_batch second_returns two_kept
second_run = (
  batch_on_it (true ∷ false ∷ []) [],
  inl (refl, (0, omega arith, refl)),
  (
    batch_on_it (false ∷ false ∷ []) (0 ∷ []),
    inl (refl, (0, omega arith, refl)),
    (
      batch_on_it (false ∷ false ∷ true ∷ []) (0 ∷ 0 ∷ []),
      inl (refl, (0, omega arith, refl)),
      (
        batch_on_it (false ∷ false ∷ []) (0 ∷ 0 ∷ 0 ∷ []),
        inl (refl, (0, omega arith, refl)),
        (
          batch_on_it (false ∷ false ∷ []) (0 ∷ 0 ∷ 0 ∷ []),
          (refl, refl),
          (two_kept, inl (refl, (0, omega arith, refl)), refl),
        ),
      ),
    ),
  ),
)

-- reads of both commits, of one that is not kept, of set positions and of the length; then a push outside a batch
abbrev pub reads : List (Command 1)
reads = At 1 ∷ At 2 ∷ At 3 ∷ Ones 0 9 ∷ Len ∷ Push true ∷ []

abbrev pub read_returns : List ReplyValue
read_returns =
    Snapshot (Some one_zero)
    ∷ Snapshot (Some (plain (false ∷ false ∷ [])))
    ∷ Snapshot None
    ∷ Positions (Some [])
    ∷ Number 2
    ∷ Refused WrongMode
    ∷ []

third_run : Run 1 two_kept reads read_returns two_kept
third_run = (
  two_kept,
  inl (refl, (0, omega arith, refl)),
  (
    two_kept,
    inl (refl, (0, omega arith, refl)),
    (
      two_kept,
      inl (refl, (0, omega arith, refl)),
      (
        two_kept,
        inl (refl, (0, omega arith, refl)),
        (two_kept, inl (refl, (0, omega arith, refl)), (two_kept, (refl, refl), refl)),
      ),
    ),
  ),
)

-- a push may run out of memory, and then nothing changes
push_out_of_memory : Step 1 (batch_on_it [] []) (Push true) (Refused NoMemory) (batch_on_it [] [])
push_out_of_memory = inr (refl, (refl, refl))

-- a length is never refused with NoMemory
len_out_of_memory : Step 1 one_kept Len (Refused NoMemory) one_kept → ⊥
len_out_of_memory (inl a) = let e = a.0 in cc
len_out_of_memory (inr m) = false≢true m.0

-- an accepted push does not leave the bits unchanged
push_is_no_read : Step 1 (batch_on_it [] []) (Push true) Done (batch_on_it [] []) → ⊥
push_is_no_read (inl a) = let e = ap (λ m. m.touched) a.1.2 in cc
push_is_no_read (inr m) = let e = m.1.0 in cc

-- a command without a refusal is not refused, and one with a refusal is not accepted
set_in_bounds : Step 1 (batch_on_it (true ∷ []) []) (Set 0 true) (Refused WrongMode) (batch_on_it (true ∷ []) []) → ⊥
set_in_bounds (inl a) = let e = a.0 in cc
set_in_bounds (inr m) = let e = m.1.0 in cc

begin_in_a_batch : Step 1 (batch_on_it (true ∷ []) []) Begin Done (batch_on_it (true ∷ false ∷ []) []) → ⊥
begin_in_a_batch r = let e = r.0 in cc

-- a refused command does not lead to another machine
refused_and_changed : Step 1 one_kept (Push true) (Refused WrongMode) first_machine → ⊥
refused_and_changed r = let e : ◌≡◌ {A = ℕ} 0 1 = ap (λ (m : Machine). length m.state.history) r.1 in omega (arith, e)

-- one touched chunk costs at most one entry
dear_commit : Step 1 (batch_on_it (false ∷ []) (0 ∷ [])) (Commit 2) Done (kept_besides (false ∷ []) 2) → ⊥
dear_commit (inl a) = let e : 2 ≡ a.1.0 = ap (λ (m : Machine). slice_index (map (λ c. c.1) m.state.costs) 1) a.1.2 in omega (arith, a.1.1, e)
dear_commit (inr m) = let e = m.1.0 in cc

-- one touched chunk may cost two entries if the batch has popped down to no chunk
plus_one : Step 1 (batch_on_it [] (0 ∷ 0 ∷ [])) (Commit 2) Done (kept_besides [] 2)
plus_one = inl (refl, (2, omega arith, refl))

-- an input without a decode error is decoded with its last two bytes left, and an empty input is refused
three_are_read : (input : Vec ℕ)
    → input.items ≡ input_of_three
    → Step 1 one_kept (Decode input three_alone) (Read (beyond_one (true ∷ false ∷ true ∷ [])) 2) one_kept
three_are_read input e =
    rw (of_bytes three_alone input input_of_three e ∙ admitted) (inl (sym (ap (decoded 1) e ∙ read), (0, omega arith, refl)))

nothing_is_read : (input : Vec ℕ) (range : RangeCfg)
    → input.items ≡ []
    → Step 1 one_kept (Decode input range) (Refused (Codec (Some EndOfBuffer))) one_kept
nothing_is_read input range e = rw (of_bytes range input [] e ∙ no_bytes range) (refl, refl)

-- there is one reply per command
missing_reply : Run 1 first_machine (Begin ∷ []) [] first_machine → ⊥
missing_reply r = r

reply_too_many : Run 1 first_machine [] (Done ∷ []) first_machine → ⊥
reply_too_many r = r

-- the empty run ends in the machine that it begins in
empty_run : Run 1 one_kept [] [] one_kept
empty_run = refl

-- a session that has marked chunk 0 agrees with a machine that has touched 0 and 1, but not the other way round
more_touched : Agrees (batch_on_it [] (0 ∷ [])) (batch_on_it [] (1 ∷ 0 ∷ []))
more_touched = record { same = refl; within = λ q h. second (nat_eq q 1) (nat_eq q 0) h }
  where
    second : (a b : Bool) → (b || false) ≡ true → (a || (b || false)) ≡ true
    second true b e = refl
    second false b e = e

less_touched : Agrees (batch_on_it [] (0 ∷ 1 ∷ [])) (batch_on_it [] (0 ∷ [])) → ⊥
less_touched a = false≢true (a.within 1 refl)

-- a session does not agree with a machine with other bits
other_bits : Agrees (batch_on_it [] []) (batch_on_it (true ∷ []) []) → ⊥
other_bits a = let e : ◌≡◌ {A = ℕ} 0 1 = ap (λ (s : State). length (unwrap_or s.pending (plain [])).bits) a.same in omega (arith, e)

-- from each machine that agrees there is a run of no commands
no_commands : RunsOn 1 one_kept [] [] one_kept
no_commands before a = (before, a, refl)
