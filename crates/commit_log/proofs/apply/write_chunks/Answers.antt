use Rattle.std.proofs.Common.{arith, refl}
use Rattle.commit_log.specs.Entries.{all_chunks}
use Rattle.commit_log.proofs.Making.{write_begun, may_write, write_more, all_written}
use Rattle.commit_log.proofs.apply.write_chunks.Goals as goal

pub loop-index-init : goal.loop-index-init
loop-index-init g c = write_begun g.row.N c.args.batch.now (all_chunks g.row.N c.args.chunks.now) c.requires.ascend

pub write_chunk-requires : goal.write_chunk-requires
write_chunk-requires g c =
    let may = may_write g.row.N c.args.batch.now c.loop-index.batch (all_chunks g.row.N c.args.chunks.now) (all_chunks g.row.N c.loop-index.rest.now) (all_chunks g.row.N c.in-Some.after.now) (c.in-Some.index, c.in-Some.bytes.now) c.loop-index.invariant c.in-Some.ensures.some in
    (omega arith, (omega arith, (omega (arith, c.len.ensures.width.fits), may)))

pub loop-index-preserved : goal.loop-index-preserved
loop-index-preserved g c = write_more g.row.N c.args.batch.now c.loop-index.batch c.write_chunk.new.batch (all_chunks g.row.N c.args.chunks.now) (all_chunks g.row.N c.loop-index.rest.now) (all_chunks g.row.N c.in-Some.after.now) (c.in-Some.index, c.in-Some.bytes.now) c.loop-index.invariant c.in-Some.ensures.some c.in_ok-write_chunk.ensures.made

pub returns-clause-made : goal.returns-clause-made
returns-clause-made g c = all_written g.row.N c.args.batch.now c.loop-index.batch (all_chunks g.row.N c.args.chunks.now) (all_chunks g.row.N c.loop-index.rest.now) c.loop-index.invariant (c.in_default.ensures.none refl)
