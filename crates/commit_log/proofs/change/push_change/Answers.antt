use Rattle.std.proofs.Common.{ℕ, ◌++◌, List, refl, ◌∙◌}
use Rattle.std.specs.Int.{w64, to_be_bytes}
use Rattle.std.specs.List.{flat_map}
use Rattle.log_frames.proofs.Frames.{four}
use Rattle.commit_log.specs.Entries.{encode_change, encode_chunk}
use Rattle.historical_bitmap.specs.Changes.{listed}
use Rattle.commit_log.proofs.change.push_change.Goals as goal

pub returns : goal.returns
unfolding encode_change
returns g c =
    let out = c.args.out.now.items in
    let chunks : List ℕ = flat_map encode_chunk (listed g.row.N c.args.newer.now c.args.changes) in
    four out out c.extend_from_slice.new.self.items c.extend_from_slice-2.new.self.items c.extend_from_slice-3.new.self.items c.push_chunks.new.out.items
    c.to_be_bytes.result c.to_be_bytes-2.result c.to_be_bytes-3.result chunks
    refl c.in_ok-extend_from_slice.ensures.items c.in_ok-extend_from_slice-2.ensures.items c.in_ok-extend_from_slice-3.ensures.items c.in_ok-push_chunks.ensures
    ∙ (λ i. out ++ (c.to_be_bytes.ensures i ++ (c.to_be_bytes-2.ensures i ++ (c.to_be_bytes-3.ensures i ++ chunks))))
    ∙ (λ i. out ++ (to_be_bytes w64 c.args.number ++ (to_be_bytes w64 (c.len.ensures.value i) ++ (to_be_bytes w64 (c.pruned_chunks.ensures.value i) ++ chunks))))
