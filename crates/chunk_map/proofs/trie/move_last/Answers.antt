use Rattle.std.proofs.Common.{◌≡◌, ℕ, ◌+◌, ◌-◌, ◌*◌, length, slice_index, slice_index_or, arith, ap, ◌∙◌}
use Rattle.std.proofs.lemmas.List.{get_or_read}
use Rattle.chunk_map.specs.Trie.{IsEnd, IsWay}
use Rattle.chunk_map.proofs.Removed.{end_way, moved_in_list}
use Rattle.chunk_map.proofs.trie.move_last.Goals as goal

pub returns-clause-partial : goal.returns-clause-partial
returns-clause-partial c =
    let nodes = c.args.nodes.now.items in
    let keys = c.args.keys.now.items in
    let n : ℕ = length keys - 1 in
    let at : c.len-last.result - 1 ≡ n = omega arith in
    let key_is : c.index-key.result.now ≡ slice_index keys n = get_or_read keys n c.index-key.result.now (omega arith) (c.index-key.ensures ∙ ap (λ i. slice_index_or keys i c.index-key.result.now) at) 0 in
    let end : IsEnd nodes c.args.root.now (slice_index keys n) c.seek-end.result.owner c.seek-end.result.link = rw (c.deref.ensures.value, key_is) at c.seek-end.ensures in
    let way : IsWay nodes c.args.root.now (slice_index keys n) c.seek-end.result.owner (2 * n + 2) = end_way _ _ _ _ _ _ _ end (c.requires.partial.found n (omega arith) (λ e. absurd (omega arith))) in
    rw (c.put_link.ensures.nodes, c.put_link.ensures.root, key_is) (moved_in_list _ _ _ _ c.args.place n c.args.link c.requires.link c.requires.partial way (omega arith) (omega arith))
