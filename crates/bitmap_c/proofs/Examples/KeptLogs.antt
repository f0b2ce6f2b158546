-- Sessions with a log, and calls on it.
use Rattle.std.specs.Prelude.{◌≡◌, [], ◌∷◌, None, Some, Ok, Err}
use Rattle.std.proofs.Common.{refl, inr}
use Rattle.commit_log.specs.Logs.{LogView}
use Rattle.bitmap_core.specs.PrunedBits.{PrunedBits}
use Rattle.bitmap_session.specs.Machine.{Machine, first_machine}
use Rattle.bitmap_c.specs.declared.any.AnySession.TheVariants.{Width1, Width8}
use Rattle.bitmap_c.specs.Logged.{Begins, CallsApplyLogged, Ends, Forgets, of_log}
use Rattle.bitmap_c.specs.Making.{Copies}
use Rattle.bitmap_c.specs.Widths.{KeepsLog, log_of}

-- one byte was not forgotten, of 33
abbrev log : LogView
log = record { bytes = 7 ∷ []; place = record { at = 33; digest = 5 } }

abbrev forgotten : LogView
forgotten = record { bytes = []; place = record { at = 33; digest = 5 } }

abbrev no_bits : PrunedBits
no_bits = record { pruned = 0; bits = [] }

abbrev in_batch : Machine
in_batch = record { state = record { current = no_bits; pending = Some no_bits; history = []; costs = []; last = None }; touched = [] }

-- ---- reads

empty_handle : of_log None (λ l. l.place.at) ≡ Err 15
empty_handle = refl

no_log : of_log (Some (Width8 first_machine None)) (λ l. l.place.at) ≡ Err 26
no_log = refl

position : of_log (Some (Width8 first_machine (Some log))) (λ l. l.place.at) ≡ Ok 33
position = refl

digest : of_log (Some (Width1 in_batch (Some log))) (λ l. l.place.digest) ≡ Ok 5
digest = refl

-- ---- a log that begins, ends and is forgotten

-- a log comes before a batch as the reason why none begins
begun_before : Begins 25 8 in_batch (Some log) (Some log)
begun_before = (refl, refl)

not_begun_in_a_batch : Begins 1 8 in_batch None None
not_begun_in_a_batch = (refl, refl)

ended : Ends 0 8 in_batch (Some log) None
ended = (refl, refl)

not_ended : Ends 26 8 in_batch None None
not_ended = (refl, refl)

-- the position and the digest stay
forgets : Forgets 0 8 in_batch (Some log) (Some forgotten)
forgets = (refl, refl)

nothing_to_forget : Forgets 26 8 in_batch None None
nothing_to_forget = (refl, refl)

-- ---- a copy has no log

log_of_a_session : log_of (Width8 first_machine (Some log)) ≡ Some log
log_of_a_session = refl

copied_without_log : Copies (Some (Width8 in_batch (Some log))) None 0 (Some (Width8 in_batch None))
copied_without_log = inr (refl, (Width8 in_batch None, refl, refl))

same_log : KeepsLog (Width8 first_machine (Some log)) (Width8 in_batch (Some log))
same_log = (refl, refl)

delta_to_an_empty_handle : CallsApplyLogged None (1 ∷ []) 15 None
delta_to_an_empty_handle = (refl, refl)
