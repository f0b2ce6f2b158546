-- The statuses of histories, deltas and edits of many bits, and what calls do with a handle.
use Rattle.std.specs.Prelude.{◌≡◌, true, [], ◌∷◌, None, Some, alloc_error}
use Rattle.std.proofs.Common.{refl}
use Rattle.bitmap_core.specs.PrunedBits.{PrunedBits}
use Rattle.bitmap_core.specs.declared.bitmap.codec.error.CodecError.TheVariants.{EndOfBuffer, InvalidLength}
use Rattle.log_frames.specs.declared.header.HeaderError.TheVariants as header_errors
use Rattle.commit_log.specs.declared.base.BaseError.TheVariants as base_errors
use Rattle.commit_log.specs.declared.deltas.DeltaError.TheVariants as delta_errors
use Rattle.commit_log.specs.declared.error.EntryError.TheVariants.{Number}
use Rattle.commit_log.specs.declared.reading.HistoryError.TheVariants as history_errors
use Rattle.bitmap_session.specs.Edits.{lengthens, shortens}
use Rattle.bitmap_session.specs.Machine.{Machine, first_machine}
use Rattle.bitmap_session.specs.Replies.Refusal.{OutOfBounds, WrongMode}
use Rattle.bitmap_session.specs.declared.session.saved.ApplyDeltaError.TheVariants as apply_errors
use Rattle.bitmap_c.specs.declared.any.AnySession.TheVariants.{Width8}
use Rattle.bitmap_c.specs.Bulk.{CallsEdit, CallsEditChunk, CallsSetMany, edit_status}
use Rattle.bitmap_c.specs.Statuses.{apply_status, delta_status, history_status}

-- ---- histories
cut_off_header : history_status (history_errors.Header header_errors.Short) ≡ 20
cut_off_header = refl

no_history : history_status (history_errors.Header header_errors.NotALog) ≡ 19
no_history = refl

other_width : history_status (history_errors.Header (header_errors.Width 8)) ≡ 19
other_width = refl

cut_off : history_status history_errors.Short ≡ 20
cut_off = refl

damaged_body : history_status history_errors.BadDigest ≡ 21
damaged_body = refl

-- a base with a number of bits that is not admitted is out of range, and one whose bitmap is cut off is not accepted
bits_of_base : history_status (history_errors.Base (base_errors.State (InvalidLength 3))) ≡ 23
bits_of_base = refl

no_bitmap : history_status (history_errors.Base (base_errors.State EndOfBuffer)) ≡ 22
no_bitmap = refl

no_base : history_status (history_errors.Base base_errors.Tag) ≡ 22
no_base = refl

too_many_commits : history_status (history_errors.Count 5) ≡ 23
too_many_commits = refl

no_commit : history_status (history_errors.Entry Number) ≡ 22
no_commit = refl

-- ---- deltas
short_delta : delta_status delta_errors.Short ≡ 20
short_delta = refl

other_version : delta_status (delta_errors.Version 2) ≡ 19
other_version = refl

another_base : delta_status delta_errors.NotAtBase ≡ 24
another_base = refl

in_a_batch : apply_status apply_errors.InBatch ≡ 1
in_a_batch = refl

delta_out_of_memory : apply_status (apply_errors.Delta (delta_errors.Memory alloc_error)) ≡ 13
delta_out_of_memory = refl

-- ---- edits
accepted_edit : edit_status None ≡ 0
accepted_edit = refl

refused_edit : edit_status (Some OutOfBounds) ≡ 2
refused_edit = refl

-- ---- handles
abbrev no_bits : PrunedBits
no_bits = record { pruned = 0; bits = [] }

abbrev in_batch : Machine
in_batch = record { state = record { current = no_bits; pending = Some no_bits; history = []; costs = []; last = None }; touched = [] }

-- outside a batch the length cannot be changed, and in one no bit can be removed if there is none
not_extended : CallsEdit (Some (Width8 first_machine None)) (λ N. lengthens N 9) 27 (Some (Width8 first_machine None))
not_extended = (Width8 first_machine None, refl, (Some WrongMode, refl, ((refl, refl), (refl, refl))))

edit_of_an_empty_handle : CallsEdit None (λ N. shortens N 9) 15 None
edit_of_an_empty_handle = (refl, refl)

-- the size of the bytes is looked at before the mode
chunk_of_another_size : CallsEditChunk 3 None (λ N. shortens N 9) 15 None
chunk_of_another_size = (refl, refl)

positions_of_an_empty_handle : CallsSetMany None (3 ∷ []) true 7 7 15 None
positions_of_an_empty_handle = (refl, refl, refl)
