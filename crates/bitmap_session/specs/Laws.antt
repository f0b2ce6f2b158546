-- The laws of the abstract machine, about whole runs.
use Rattle.std.specs.Prelude.{◌≡◌, ℕ, ◌≤◌, List, [], ◌∷◌, ◌++◌, map, Option, IsSome, MatchOption}
use Rattle.std.specs.List.{All, filter}
use Rattle.std.specs.Map.{keys_of}
use Rattle.historical_bitmap.specs.History.{kept_under, latest, RiseInNumber}
use Rattle.bitmap_session.specs.declared.command.Command.{Command}
use Rattle.bitmap_session.specs.declared.command.Command.TheVariants.{Commit, Rewind}
use Rattle.bitmap_session.specs.Replies.{ReplyValue}
use Rattle.bitmap_session.specs.Replies.ReplyValue.{Done}
use Rattle.bitmap_session.specs.Machine.{State, Machine, Agrees, Run, RunsOn, Step, StepTo, is_kept}

-- the law of consecutive runs: two runs, of which the second goes on from where the first leads, are one run of all their commands
abbrev pub RunsJoin : ℕ → Type 0
RunsJoin N = (old mid new : Machine) (commands more : List (Command N))
    (replies others : List ReplyValue)
    → RunsOn N old commands replies mid
    → RunsOn N mid more others new
    → RunsOn N old (commands ++ more) (replies ++ others) new

-- the law of one step: a step of a session is a run of its one command, with its one reply
abbrev pub StepIsRun : ℕ → Type 0
StepIsRun N = (old new : Machine) (command : Command N) (reply : ReplyValue)
    → StepTo N Agrees old command reply new
    → RunsOn N old (command ∷ []) (reply ∷ []) new

-- steps of a session, each from where the one before leads, by these commands and with these replies
abbrev pub StepsOn : (N : ℕ) → Machine → List (Command N × ReplyValue) → Machine → Type 0
StepsOn N old [] new = new ≡ old
StepsOn N old (step ∷ steps) new = (mid : Machine) × StepTo N Agrees old step.0 step.1 mid
    × StepsOn N mid steps new

-- the law of consecutive steps: they are one run of their commands, with their replies
abbrev pub StepsAreRun : ℕ → Type 0
StepsAreRun N = (old new : Machine) (steps : List (Command N × ReplyValue))
    → StepsOn N old steps new
    → RunsOn N old (map (λ step. step.0) steps) (map (λ step. step.1) steps) new

-- an optional number is at least each number of a list; if there is none, the list is empty
abbrev pub IsGreatestOf : Option ℕ → List ℕ → Type 0
IsGreatestOf number numbers =
    MatchOption number (numbers ≡ []) (λ greatest. All (λ k. k ≤ greatest) numbers)

-- the kept numbers are strictly ascending, and none is above the last number; without a last number no commit is kept
pub record HasRisingNumbers (s : State) : Type 0 where
  pub rise : RiseInNumber s.history
  pub last : IsGreatestOf s.last (keys_of s.history)

-- the law of no commits: the numbers of a state that keeps no commit rise
abbrev pub NoCommitsRise : Type 0
NoCommitsRise = (s : State) → s.history ≡ [] → HasRisingNumbers s

-- the law of kept numbers: a run from a machine whose numbers rise leads to one whose numbers rise
abbrev pub NumbersRise : ℕ → Type 0
NumbersRise N = (old new : Machine) (commands : List (Command N)) (replies : List ReplyValue)
    → HasRisingNumbers old.state
    → Run N old commands replies new
    → HasRisingNumbers new.state

-- the law of kept numbers for a session: a run of its commands keeps its numbers rising
abbrev pub NumbersRiseOn : ℕ → Type 0
NumbersRiseOn N = (old new : Machine) (commands : List (Command N)) (replies : List ReplyValue)
    → HasRisingNumbers old.state
    → RunsOn N old commands replies new
    → HasRisingNumbers new.state

-- the law of the latest number: if the numbers rise, it is the greatest of them
abbrev pub LatestIsGreatest : Type 0
LatestIsGreatest = (s : State) → HasRisingNumbers s
    → IsGreatestOf (latest s.history) (keys_of s.history)

-- a run whose machines all keep a commit under the number, so that none of its commands is an accepted start
abbrev pub RunKeeping : (N : ℕ) → ℕ → Machine → List (Command N) → List ReplyValue → Machine
    → Type 0
RunKeeping N number old [] [] new = IsSome (kept_under old.state.history number) × (new ≡ old)
RunKeeping N number old (command ∷ commands) (reply ∷ replies) new =
    IsSome (kept_under old.state.history number)
    × ((mid : Machine) × (Step N old command reply mid
    × RunKeeping N number mid commands replies new))
RunKeeping N number old [] (reply ∷ replies) new = ⊥
RunKeeping N number old (command ∷ commands) [] new = ⊥

-- a rewind of the machine `left` leads back to an earlier machine: to its current bitmap, and to its history less the commits that `left` does not keep
pub record IsRewoundTo (earlier left now : Machine) : Type 0 where
  pub current : now.state.current ≡ earlier.state.current
  pub history : now.state.history
      ≡ filter (λ commit. is_kept left.state commit.0) earlier.state.history

-- the law of rewinding: after a commit to a machine whose numbers rise, a run that keeps it and an accepted rewind to it, the machine is rewound to the commit
abbrev pub Rewinding : ℕ → Type 0
Rewinding N = (number : ℕ) (before committed left back : Machine) (commands : List (Command N))
    (replies : List ReplyValue)
    → HasRisingNumbers before.state
    → Step N before (Commit number) Done committed
    → RunKeeping N number committed commands replies left
    → Step N left (Rewind number) Done back
    → IsRewoundTo committed left back
