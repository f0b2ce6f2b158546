-- A run is extended by another run, or by one step.
use Rattle.std.proofs.Common.{ℕ, ◌+◌, ◌<◌, ◌≤◌, List, [], ◌∷◌, ◌++◌, length, take, map, get_or, refl}
use Rattle.std.proofs.lemmas.List.{take_all, take_more, map-append}
use Rattle.bitmap_session.specs.declared.command.Command.{Command}
use Rattle.bitmap_session.specs.declared.reply.Reply.{Reply}
use Rattle.bitmap_session.specs.Replies.{ReplyValue}
use Rattle.bitmap_session.specs.Machine.{Machine, Agrees, StepTo, Run, RunsOn}
use Rattle.bitmap_session.specs.Laws.{RunsJoin, StepIsRun, StepsAreRun}
use Rattle.bitmap_session.specs.Abstraction.{value_of}
use Rattle.bitmap_session.proofs.Simulates.{simulates}

-- a run followed by a run is a run
Run-append : (N : ℕ) (old mid new : Machine) (commands more : List (Command N)) (replies others : List ReplyValue)
    → Run N old commands replies mid
    → Run N mid more others new
    → Run N old (commands ++ more) (replies ++ others) new
Run-append N old mid new [] more [] others r s = rw (← r) s
Run-append N old mid new (c ∷ cs) more (a ∷ rest) others r s = (r.0, r.1, Run-append N r.0 mid new cs more rest others r.2 s)
Run-append N old mid new [] more (a ∷ rest) others r s = absurd r
Run-append N old mid new (c ∷ cs) more [] others r s = absurd r

-- a session that runs some commands and then more runs them all
pub runs_join : (N : ℕ) → RunsJoin N
runs_join N old mid new commands more replies others r s before a =
    let first = r before a in
    let second = s first.0 first.1 in
    (second.0, second.1, Run-append N before first.0 second.0 commands more replies others first.2 second.2)

-- a session that takes a step runs its command
pub step_is_run : (N : ℕ) → StepIsRun N
step_is_run N old new command reply step before a =
    let next = simulates N old new before command reply a step in
    (next.0, next.1, (next.0, next.2, refl))

-- a session that takes some steps runs their commands
pub steps_are_run : (N : ℕ) → StepsAreRun N
steps_are_run N old new [] steps before a = (before, rw steps a, refl)
steps_are_run N old new (call ∷ calls) steps before a =
    let next = simulates N old steps.0 before call.0 call.1 a steps.1 in
    let rest = steps_are_run N steps.0 new calls steps.2 next.0 next.1 in
    (rest.0, rest.1, (next.0, next.2, rest.2))

-- a session that has run the first i commands and takes a step by the next one has run i + 1
pub RunsOn-more : {N : ℕ} (old mid new : Machine) (commands : List (Command N)) (i : ℕ) (d : Command N) (had : List (Reply N)) (reply : Reply N)
    → i < length commands
    → RunsOn N old (take i commands) (map value_of had) mid
    → StepTo N Agrees mid (get_or commands i d) (value_of reply) new
    → RunsOn N old (take (i + 1) commands) (map value_of (had ++ reply ∷ [])) new
RunsOn-more {N = N} old mid new commands i d had reply h r s = λ before a.
    let so_far = r before a in
    let command = get_or commands i d in
    let next = simulates N mid new so_far.0 command (value_of reply) so_far.1 s in
    let run = Run-append N before so_far.0 next.0 (take i commands) (command ∷ []) (map value_of had) (value_of reply ∷ []) so_far.2 (next.0, next.2, refl) in
    (next.0, next.1, rw (take_more commands i d h, map-append value_of had (reply ∷ [])) run)

-- a session that has run as many commands as there are has run them all
pub RunsOn-all : {N : ℕ} (old new : Machine) (commands : List (Command N)) (i : ℕ) (replies : List ReplyValue)
    → length commands ≤ i
    → RunsOn N old (take i commands) replies new
    → RunsOn N old commands replies new
RunsOn-all old new commands i replies h r = let e = take_all i commands h in rw e at r
