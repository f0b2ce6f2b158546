use Rattle.std.proofs.Common.{◌≡◌, ◌++◌, ℕ, List, length, take, drop, sym, ap, ◌∙◌, arith}
use Rattle.std.proofs.lemmas.List.{take_at}
use Rattle.bitmap_core.specs.PrunedBits.{PrunedBits, bit_len}
use Rattle.log_frames.specs.Digest.{digest}
use Rattle.log_frames.specs.Frames.{be64}
use Rattle.commit_log.specs.Delta.{encode_delta, replaced}
use Rattle.commit_log.specs.Entries.{Change}
use Rattle.historical_bitmap.specs.Changes.{listed}
use Rattle.commit_log.proofs.DeltaBytes.{begun, finished, length-out, replaced_is}
use Rattle.commit_log.proofs.Fits.{listed_fits}
use Rattle.commit_log.proofs.deltas.delta_bytes.Goals as goal

-- the change to a bitmap that lists some chunks
abbrev with_list : ℕ → ℕ → PrunedBits → List ℕ → Change
with_list n number newer xs = record { number = number; len = bit_len n newer; pruned = newer.pruned; chunks = listed n newer xs }

pub split_at-requires : goal.split_at-requires
split_at-requires g c =
    let n = g.row.N in
    let older = c.args.older.now in
    let newer = c.args.newer.now in
    let change = with_list n c.args.to newer c.args.changes in
    let is = begun n c.args.from (bit_len n older) older.pruned c.to_be_bytes.result change c.new-out.result.items c.push_older.new.out.items c.extend_from_slice.new.self.items c.push_change.new.out.items
    c.new-out.ensures.items c.in_ok-push_older.ensures c.in_ok-extend_from_slice.ensures.items c.in_ok-push_change.ensures in
    let long = length-out n c.args.from (bit_len n older) older.pruned c.to_be_bytes.result change c.push_change.new.out.items (ap length c.to_be_bytes.ensures) is in
    omega (arith, long, ap length c.deref.ensures.value)

pub returns : goal.returns
returns g c =
    let n = g.row.N in
    let from = c.args.from in
    let older = c.args.older.now in
    let newer = c.args.newer.now in
    let gap = c.to_be_bytes.result in
    let change = with_list n c.args.to newer c.args.changes in
    let out = c.push_change.new.out.items in
    let done = c.deref-2.result.now in
    let value = c.digest_of_replaced-replaced.result in
    let size : length gap ≡ 8 = ap length c.to_be_bytes.ensures in
    let is = begun n from (bit_len n older) older.pruned gap change c.new-out.result.items c.push_older.new.out.items c.extend_from_slice.new.self.items out
    c.new-out.ensures.items c.in_ok-push_older.ensures c.in_ok-extend_from_slice.ensures.items c.in_ok-push_change.ensures in
    let fits = listed_fits n newer c.args.changes c.len.ensures.lawful.width.positive (omega (arith, c.len.ensures.lawful.len_fits)) in
    let value-is = replaced_is n from (bit_len n older) older.pruned gap change out size is older value c.split_at.result.1.now fits (c.split_at.ensures.back ∙ ap (drop 80) c.deref.ensures.value) c.digest_of_replaced-replaced.ensures in
    let long : length c.replace_number.new.bytes ≡ c.push_change.new.out.len = omega (arith, c.replace_number.auto.bytes, c.deref_mut.ensures.len) in
    let here : done ≡ c.replace_number.new.bytes = c.deref-2.ensures.value ∙ take_at c.replace_number.new.bytes (drop (length c.replace_number.new.bytes) out) c.push_change.new.out.len long in
    let replaced-in : done ≡ take 48 out ++ (be64 value ++ drop 56 out) = here ∙ c.replace_number.ensures ∙ ap (λ (x : List ℕ). take 48 x ++ (be64 value ++ drop 56 x)) c.deref_mut.ensures.value in
    let last : c.extend_from_slice-2.new.self.items ≡ done ++ be64 c.digest_of-digest.result =
    c.in_ok-extend_from_slice-2.ensures.items ∙ ap (λ (x : List ℕ). x ++ c.to_be_bytes-2.result) (sym c.deref-2.ensures.value) ∙ ap (λ (x : List ℕ). done ++ x) c.to_be_bytes-2.ensures in
    let whole = finished n from (bit_len n older) older.pruned gap change out size is value c.digest_of-digest.result done c.extend_from_slice-2.new.self.items replaced-in c.digest_of-digest.ensures last in
    whole
    ∙ ap (λ (k : ℕ). encode_delta n (record { number = from; len = bit_len n older; pruned = older.pruned; replaced_digest = k; change = change })) value-is
    ∙ ap (λ (xs : List ℕ). encode_delta n (record { number = from; len = bit_len n older; pruned = older.pruned; replaced_digest = digest (replaced n older (listed n newer xs)); change = with_list n c.args.to newer xs })) c.requires
