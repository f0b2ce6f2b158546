use Rattle.authenticated_bitmap.proofs.BatchDigests.{tried_push_digests, tried_push_whole}
use Rattle.authenticated_bitmap.proofs.node_target.DirtyBitMap32AppendNodes.push_node.Goals as goal

pub returns-clause-ok : goal.returns-clause-ok
returns-clause-ok c =
    tried_push_digests c.args.self.now c.try_push_chunk.new.self c.requires.ready c.args.digest.now c.known.ensures c.try_push_chunk.result c.try_push_chunk.ensures.ok

pub returns-clause-ready : goal.returns-clause-ready
returns-clause-ready c =
    tried_push_whole c.args.self.now c.try_push_chunk.new.self c.requires.ready c.args.digest.now c.known.ensures c.try_push_chunk.result c.try_push_chunk.ensures.ok c.try_push_chunk.ensures.err
