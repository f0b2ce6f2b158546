use Rattle.std.proofs.Common.{refl, sym, ◌∙◌}
use Rattle.commit_log.specs.Entries.{all_chunks}
use Rattle.commit_log.proofs.Replaced.{hashed_all, hashed_some}
use Rattle.commit_log.proofs.digest.digest_of_replaced.Goals as goal

pub loop-index-preserved-in-Some-bytes_at : goal.loop-index-preserved-in-Some-bytes_at
loop-index-preserved-in-Some-bytes_at g c =
    let n = g.row.N in
    let old = g.S.RetainedChunks.bits c.args.older.now in
    sym (hashed_some n old c.loop-index.hasher c.in-Some.index c.in-Some.field-0-1.now (all_chunks n c.loop-index.rest.now) (all_chunks n c.in-Some.after.now) c.in-Some.ensures.some
    c.in-Some-bytes_at.bytes c.write.new.self c.in-Some-bytes_at.ensures c.write.ensures) ∙ c.loop-index.invariant

pub returns : goal.returns
returns g c =
    let n = g.row.N in
    let old = g.S.RetainedChunks.bits c.args.older.now in
    hashed_all n old c.loop-index.hasher (all_chunks n c.loop-index.rest.now) (all_chunks n c.args.chunks.now) c.finish.result (c.in_default.ensures.none refl) c.finish.ensures c.loop-index.invariant
