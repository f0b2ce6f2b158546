-- A call that edits a batch is a run of one command for each edit.
use Rattle.std.proofs.Common.{◌≡◌, ℕ, ◌+◌, List, [], ◌∷◌, ◌++◌, map, Option, Some, None, true, refl, sym, ap, subst, ◌∙◌, inl, inr, arith, append_assoc, append-nil, length}
use Rattle.std.specs.Prelude.{MatchOption, is_some, unwrap_or}
use Rattle.std.specs.Option.{option_or}
use Rattle.std.proofs.lemmas.Bool.{cases_Bool, false≢true, lt-leb}
use Rattle.bitmap_core.specs.PrunedBits.{PrunedBits, bit_len, pruned_bits}
use Rattle.historical_bitmap.specs.Edits.{AllAccepted, Edit, IsAccepted, after, after_all, touched, touches}
use Rattle.bitmap_session.specs.Edits.{EditCall, EditsAreRun, Makes, command_of, replies_to, reply_to}
use Rattle.bitmap_session.specs.Machine.{Machine, Run, RunsOn, State, Step, edited, first, is_dirty, shown, wants_batch}
use Rattle.bitmap_session.specs.Replies.{Refusal}
use Rattle.bitmap_session.proofs.Edits.Calls.{EditsBy}
use Rattle.bitmap_session.proofs.Simulates.{within_both}
use Rattle.bitmap_session.proofs.Steps.{fits_u64, not_below, not_zero}

-- a machine in a batch: a state with a pending bitmap, and the touched chunks
abbrev machine_at : State → PrunedBits → List ℕ → Machine
machine_at s b t = record { state = edited s b; touched = t }

-- the command of an accepted edit is accepted, and makes the edit
one_edit : (N : ℕ) (s : State) (b : PrunedBits) (t : List ℕ) (edit : Edit)
    → IsAccepted N b edit
    → Step N (machine_at s b t) (command_of N edit) (reply_to b edit) (machine_at s (after N b edit) (t ++ touches N b edit))
one_edit N s b t (Edit.Push value) fits = rw (fits_u64 (bit_len N b + 1) fits) (inl (refl, (0, omega arith, refl)))
one_edit N s b t Edit.Pop some = rw (not_zero (length b.bits) some) (inl (refl, (0, omega arith, refl)))
one_edit N s b t (Edit.Set position value) retained =
    rw (lt-leb (bit_len N b) position retained.1, not_below position (pruned_bits N b) retained.0) (inl (refl, (0, omega arith, refl)))
one_edit N s b t (Edit.Prune position) within =
    let dropped = touches N b (Edit.Prune position) in
    let all = ap (λ xs. machine_at s (after N b (Edit.Prune position)) (t ++ xs)) (sym (append-nil dropped)) in
    rw (not_below (bit_len N b) position within) (inl (refl, (0, omega arith, all)))

run_edits : (N : ℕ) (s : State) (b : PrunedBits) (t : List ℕ) (these : List Edit)
    → AllAccepted N b these
    → Run N (machine_at s b t) (map (command_of N) these) (replies_to N b these) (machine_at s (after_all N b these) (t ++ touched N b these))
run_edits N s b t [] accepted = ap (λ xs. machine_at s b xs) (append-nil t)
run_edits N s b t (edit ∷ these) accepted =
    let next = after N b edit in
    let so_far = t ++ touches N b edit in
    let rest = run_edits N s next so_far these accepted.1 in
    let joined = append_assoc t (touches N b edit) (touched N next these) in (
      machine_at s next so_far,
      one_edit N s b t edit accepted.0,
      subst (λ xs. Run N (machine_at s next so_far) (map (command_of N) these) (replies_to N next these) (machine_at s (after_all N next these) xs)) joined rest,
    )

-- a state in a batch has its visible bitmap pending
is_pending : (p : Option PrunedBits) (c : PrunedBits) → is_some p ≡ true → Some (unwrap_or p c) ≡ p
is_pending None c h = absurd (false≢true h)
is_pending (Some b) c h = refl

in_batch : (s : State) → is_dirty s ≡ true → edited s (shown s) ≡ s
in_batch s h = ap (λ p. record s { pending = p }) (is_pending s.pending s.current h)

-- the edits that are made are a run of their commands
made_run : (N : ℕ) (old new : Machine) (these : List Edit)
    → is_dirty old.state ≡ true
    → Makes N old these new
    → RunsOn N old (map (command_of N) these) (replies_to N (shown old.state) these) new
made_run N old new these batch made before agrees =
    let b = shown old.state in
    let same = ap (λ (s : State). record { state = s; touched = before.touched }) (in_batch old.state batch ∙ agrees.same) in
    let last = machine_at old.state (after_all N b these) (before.touched ++ touched N b these) in
    let both = within_both old.touched before.touched (touched N b these) agrees.within in (
      last,
      record { same = made.agrees.same; within = λ q h. both q (made.agrees.within q h) },
      subst (λ (m : Machine). Run N m (map (command_of N) these) (replies_to N b these) last) same (run_edits N old.state b before.touched these made.accepted),
    )

-- a refused call is a run of no command
none_run : (N : ℕ) (old new : Machine) → new ≡ old → RunsOn N old [] [] new
none_run N old new same before agrees = (before, rw same agrees, refl)

-- a call that is not refused has a batch
has_batch : (s : State) (rest : Option Refusal) → option_or (wants_batch s) rest ≡ None → is_dirty s ≡ true
has_batch s rest e = elim (cases_Bool (is_dirty s)) [
  | inl batch ↦ batch
  | inr outside ↦ let refusal = rw outside at e in cc
]

run_by : (N : ℕ) (old new : Machine) (call : EditCall) (why r : Option Refusal)
    → first (wants_batch old.state ∷ call.refusals) ≡ r
    → EditsBy N old call why new r
    → MatchOption why
    (RunsOn N old (map (command_of N) call.edits) (replies_to N (shown old.state) call.edits) new)
    (λ refusal. RunsOn N old [] [] new)
run_by N old new call why (Some refusal) e h = rw h.0 (none_run N old new h.1)
run_by N old new call why None e (inl h) = rw h.0 (made_run N old new call.edits (has_batch old.state (first call.refusals) e) h.1)
run_by N old new call why None e (inr h) = rw h.1 (none_run N old new h.2)

-- the law of many edits
pub edits_are_run : (N : ℕ) → EditsAreRun N
edits_are_run N old new call why edits = run_by N old new (call old.state) why (first (wants_batch old.state ∷ (call old.state).refusals)) refl edits
