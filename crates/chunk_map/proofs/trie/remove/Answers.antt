use Rattle.std.proofs.Common.{◌≡◌, ◌-◌, length, slice_index, arith, ap, ◌∙◌}
use Rattle.std.proofs.lemmas.List.{length-set}
use Rattle.chunk_map.proofs.Removed.{dropped_last}
use Rattle.chunk_map.proofs.trie.remove.Goals as goal

pub returns-then-place-len-clause-trie : goal.returns-then-place-len-clause-trie
returns-then-place-len-clause-trie c =
    rw c.drop_last.ensures
    (dropped_last _ _ _ c.args.place (rw c.deref.ensures.value at c.take_link-link.ensures.partial) (omega arith))

pub returns-clause-trie : goal.returns-clause-trie
returns-clause-trie c =
    let keys = c.args.keys.now.items in
    let n : length c.move_last.new.keys.items ≡ length keys = ap length c.move_last.ensures.keys ∙ length-set keys c.args.place (slice_index keys (length keys - 1)) in
    rw c.drop_last-2.ensures (dropped_last _ _ _ (length keys - 1) c.move_last.ensures.partial (omega arith))
