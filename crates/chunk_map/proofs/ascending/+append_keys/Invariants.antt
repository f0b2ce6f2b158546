use Rattle.std.proofs.Common.{◌-◌, ◌%◌, ◌≤◌}
use Rattle.chunk_map.specs.Ascending.{AppendsAscending, LeadsBelow}
use Rattle.chunk_map.specs.Trie.{height_of}
use Rattle.chunk_map.proofs.ascending.+append_keys.Given as goal

abbrev pub decreases-append_keys : goal.decreases-append_keys
decreases-append_keys l = height_of l.nodes.now l.link (l.link % 2)

abbrev pub invariant-loop-digit : goal.invariant-loop-digit
invariant-loop-digit l = record {
  within : l.digit ≤ 16;
  so_far : AppendsAscending (LeadsBelow l.nodes l.keys l.link l.digit) l.fn.out.items l.out.items;
}

abbrev pub decreases-loop-digit : goal.decreases-loop-digit
decreases-loop-digit l = 16 - l.digit
