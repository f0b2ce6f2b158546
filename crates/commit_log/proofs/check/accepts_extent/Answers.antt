use Rattle.std.proofs.Common.{arith}
use Rattle.commit_log.proofs.Checks.{covers_is, covers_not, decides_false, decides_true}
use Rattle.commit_log.proofs.check.accepts_extent.Goals as goal

pub returns-then-change-pruned : goal.returns-then-change-pruned
returns-then-change-pruned g c = decides_false (λ h. omega (arith, h.rises, c.if-change-pruned.true, c.pruned_chunks-pruned.ensures))

pub returns-then-change-whole : goal.returns-then-change-whole
returns-then-change-whole g c = decides_false (λ h. covers_not g.row.N c.args.change.now.pruned c.args.change.now.len c.chunk_index-whole.result c.len.ensures.width.positive c.chunk_index-whole.ensures c.if-change-whole.true h.covers)

pub returns : goal.returns
returns g c = decides_true (record {
  rises = omega (arith, c.if-change-pruned.false, c.pruned_chunks-pruned.ensures);
  covers = covers_is g.row.N c.args.change.now.pruned c.args.change.now.len c.chunk_index-whole.result c.len.ensures.width.positive c.chunk_index-whole.ensures c.if-change-whole.false;
})
