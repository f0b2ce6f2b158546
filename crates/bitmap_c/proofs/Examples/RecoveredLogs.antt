-- The statuses of logs that are not recovered, and what the call does with a handle.
use Rattle.std.specs.Prelude.{◌≡◌, [], ◌∷◌, None, Some, Ok, Err, alloc_error}
use Rattle.std.proofs.Common.{refl, inl, inr}
use Rattle.bitmap_core.specs.PrunedBits.{PrunedBits}
use Rattle.log_frames.specs.Header.{header_at}
use Rattle.log_frames.specs.declared.header.HeaderError.TheVariants as header_errors
use Rattle.commit_log.specs.Base.{Base}
use Rattle.commit_log.specs.Entries.Entry.{Clear}
use Rattle.commit_log.specs.Logs.{LogView, place_of}
use Rattle.commit_log.specs.declared.base.BaseError.TheVariants as base_errors
use Rattle.commit_log.specs.declared.base.Past.TheVariants.{KeptUnder}
use Rattle.commit_log.specs.declared.error.EntryError.TheVariants.{NoSuchCommit}
use Rattle.commit_log.specs.declared.recovery.Damage.TheVariants as damages
use Rattle.commit_log.specs.declared.recovery.RecoverError.TheVariants.{Damaged, Header, Memory, NoBase}
use Rattle.bitmap_session.specs.Machine.{Machine, first_machine}
use Rattle.bitmap_c.specs.declared.any.AnySession.TheVariants.{Width8}
use Rattle.bitmap_c.specs.Recovered.{IsRecoveredOrNot, KeepsEntries, RecoversLog, as_logged, good_or, log_at}
use Rattle.bitmap_c.specs.Statuses.{recover_status}

-- ---- the statuses

cut_off_header : recover_status (Header header_errors.Short) ≡ 20
cut_off_header = refl

no_log : recover_status (Header header_errors.NotALog) ≡ 19
no_log = refl

cut_off_base : recover_status NoBase ≡ 20
cut_off_base = refl

damaged_head : recover_status (Damaged 148 damages.Head) ≡ 21
damaged_head = refl

damaged_body : recover_status (Damaged 148 damages.Digest) ≡ 21
damaged_body = refl

no_base : recover_status (Damaged 32 (damages.Base base_errors.Tag)) ≡ 22
no_base = refl

no_entry : recover_status (Damaged 90 (damages.Entry NoSuchCommit)) ≡ 22
no_entry = refl

out_of_memory : recover_status (Memory alloc_error) ≡ 13
out_of_memory = refl

-- ---- the number of good bytes

before_the_damage : good_or (Damaged 148 damages.Head) 7 ≡ 148
before_the_damage = refl

as_it_was : good_or NoBase 7 ≡ 7
as_it_was = refl

-- ---- what a log is recovered to

-- a log of 33 bytes, of which none are to be written
abbrev log : LogView
log = record { bytes = []; place = record { at = 33; digest = 5 } }

with_its_log : as_logged (Ok (Width8 first_machine (Some log), 33)) ≡ Ok ((first_machine, Some log), 33)
with_its_log = refl

abbrev no_bits : PrunedBits
no_bits = record { pruned = 0; bits = [] }

-- a base that is kept under 3, and the machine after a clear
abbrev base : Base
base = record { bits = no_bits; past = KeptUnder 3 0 }

abbrev cleared : Machine
cleared = record { state = record { current = no_bits; pending = None; history = []; costs = []; last = Some 3 }; touched = [] }

kept_after_a_clear : KeepsEntries 8 base (Clear ∷ []) cleared (Some (log_at (place_of 8 base (Clear ∷ []))))
kept_after_a_clear = (refl, refl)

-- ---- handles

-- a full handle comes before a width that there is not
full_before_the_width : RecoversLog (Some (Width8 first_machine None)) 3 (1 ∷ []) 16 7 7 (Some (Width8 first_machine None))
full_before_the_width = (refl, refl, refl)

no_such_width : RecoversLog None 3 (1 ∷ []) 17 7 7 None
no_such_width = (refl, refl, refl)

-- an allocation may always fail, and the number is unchanged then
not_allocated : IsRecoveredOrNot 8 (1 ∷ []) 13 7 7 None
not_allocated = inr (refl, inl (refl, refl))

short_header : header_at 8 (1 ∷ []) ≡ Err header_errors.Short
unfolding header_at
short_header = refl

not_recovered : IsRecoveredOrNot 8 (1 ∷ []) 20 7 7 None
not_recovered = inr (refl, inr (Header header_errors.Short, refl, refl, short_header))
