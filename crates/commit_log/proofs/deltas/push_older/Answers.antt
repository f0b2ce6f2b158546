use Rattle.std.proofs.Common.{◌++◌, ◌∙◌}
use Rattle.log_frames.specs.Frames.{be64}
use Rattle.commit_log.specs.Delta.{magic, older_fields}
use Rattle.commit_log.proofs.DeltaBytes.{six}
use Rattle.commit_log.proofs.deltas.push_older.Goals as goal

pub returns : goal.returns
unfolding older_fields
returns g c =
    let out = c.args.out.now.items in
    six out c.extend_from_slice.new.self.items c.extend_from_slice-2.new.self.items c.extend_from_slice-3.new.self.items c.extend_from_slice-4.new.self.items c.extend_from_slice-5.new.self.items
    c.extend_from_slice-6.new.self.items magic c.to_be_bytes.result c.to_be_bytes-2.result c.to_be_bytes-3.result c.to_be_bytes-4.result c.to_be_bytes-5.result
    c.in_ok-extend_from_slice.ensures.items c.in_ok-extend_from_slice-2.ensures.items c.in_ok-extend_from_slice-3.ensures.items c.in_ok-extend_from_slice-4.ensures.items
    c.in_ok-extend_from_slice-5.ensures.items c.in_ok-extend_from_slice-6.ensures.items
    ∙ (λ i. out ++ (magic ++ (c.to_be_bytes.ensures i ++ (c.to_be_bytes-2.ensures i ++ (c.to_be_bytes-3.ensures i ++ (c.to_be_bytes-4.ensures i ++ c.to_be_bytes-5.ensures i))))))
    ∙ (λ i. out ++ (magic ++ (be64 1 ++ (be64 g.row.N ++ (be64 c.args.from ++ (be64 (c.len.ensures.value i) ++ be64 (c.pruned_chunks.ensures.value i)))))))
