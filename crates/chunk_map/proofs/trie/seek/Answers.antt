use Rattle.std.proofs.Common.{◌<◌, ◌/◌, length, arith}
use Rattle.chunk_map.specs.Trie.{IsNode, digit_in, node_at}
use Rattle.chunk_map.proofs.Paths.{way_next}
use Rattle.chunk_map.proofs.trie.seek.Goals as goal

pub loop-link-preserved : goal.loop-link-preserved
loop-link-preserved c =
    let within : c.loop-link.link / 2 < length c.args.nodes.now = c.loop-link.invariant.within c.loop-link-test.true in
    let n : IsNode c.args.nodes.now c.loop-link.link = record { odd = c.loop-link-test.true; within = within } in
    record {
      within = (c.requires.forest (c.loop-link.link / 2) within).within (digit_in (node_at c.args.nodes.now (c.loop-link.link / 2)) c.args.key) (omega arith);
      way = way_next c.args.nodes.now c.args.root c.args.key c.loop-link.owner c.loop-link.link n c.if-prefix-node.false c.loop-link.invariant.way;
    }
