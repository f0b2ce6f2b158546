use Rattle.authenticated_bitmap.specs.Stored.{nodes}
use Rattle.authenticated_bitmap.proofs.BatchDigests.{count_in, has_whole, same_base}
use Rattle.authenticated_bitmap.proofs.node_edits.append_leaf_in_batch.Goals as goal

pub push_leaf-requires-clause-ready : goal.push_leaf-requires-clause-ready
push_leaf-requires-clause-ready g c = has_whole c.args.stored.now (nodes c.args.n) c.requires.pruned c.requires.count

pub push_leaf-requires-clause-count : goal.push_leaf-requires-clause-count
push_leaf-requires-clause-count g c = count_in c.args.stored.now (nodes c.args.n) c.requires.count

pub returns-clause-base : goal.returns-clause-base
returns-clause-base g c = c.push_leaf.ensures.rest c.args.stored.now (same_base c.args.stored.now)
