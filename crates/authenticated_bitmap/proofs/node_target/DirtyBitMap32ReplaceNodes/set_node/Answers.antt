use Rattle.authenticated_bitmap.proofs.BatchDigests.{tried_set_digests, tried_set_size, tried_set_whole}
use Rattle.authenticated_bitmap.proofs.node_target.DirtyBitMap32ReplaceNodes.set_node.Goals as goal

pub returns-clause-ok : goal.returns-clause-ok
returns-clause-ok c =
    tried_set_digests c.args.self.now c.try_set_chunk.new.self c.requires.ready c.args.digest.now c.known.ensures c.args.place c.requires.within c.try_set_chunk.result c.try_set_chunk.ensures.whole

pub returns-clause-size : goal.returns-clause-size
returns-clause-size c =
    tried_set_size c.args.self.now c.try_set_chunk.new.self c.requires.ready c.args.digest.now c.known.ensures c.args.place c.requires.within c.try_set_chunk.result c.try_set_chunk.ensures.whole c.try_set_chunk.ensures.err

pub returns-clause-ready : goal.returns-clause-ready
returns-clause-ready c =
    tried_set_whole c.args.self.now c.try_set_chunk.new.self c.requires.ready c.args.digest.now c.known.ensures c.args.place c.requires.within c.try_set_chunk.result c.try_set_chunk.ensures.whole c.try_set_chunk.ensures.err
