use Rattle.std.proofs.Common.{ap, sym, ◌∙◌, ◌*◌}
use Rattle.authenticated_bitmap.specs.LeafDigests.{bitmap_of}
use Rattle.authenticated_bitmap.specs.Root.{chunk_digests}
use Rattle.authenticated_bitmap.specs.Stored.{nodes}
use Rattle.authenticated_history.proofs.StoredReads.{are_stored, leaves_fit, root_read, size}
use Rattle.authenticated_history.proofs.reading.root_from.Goals as goal

pub tree_from_bitmap-tree-requires-clause-few : goal.tree_from_bitmap-tree-requires-clause-few
tree_from_bitmap-tree-requires-clause-few g c =
    leaves_fit c.chunk_count.result c.len.result (g.T.Readable.meaning c.args.stored.now) c.len.ensures.value c.len.ensures.lawful (c.requires.size ∙ ap (λ k. 256 * nodes k) (sym c.chunk_count.ensures))

pub tree_from_bitmap-tree-requires-clause-count : goal.tree_from_bitmap-tree-requires-clause-count
tree_from_bitmap-tree-requires-clause-count g c = c.requires.size ∙ ap (λ k. 256 * nodes k) (sym c.chunk_count.ensures)

pub returns : goal.returns
returns g c s t len_is pruned_is m_is a =
    let H = g.D.Digest.digest_of c.args.hash.now in
    let n = g.row.N in
    let m = g.T.Readable.meaning c.args.stored.now in
    let pos = c.requires.width.positive in
    root_read H n pos s t m a m_is c.args.len c.chunk_count.result len_is c.chunk_count.ensures c.args.pruned c.tree_from_bitmap-tree.result c.root_digest.result pruned_is
    (c.tree_from_bitmap-tree.ensures (chunk_digests H (bitmap_of n s t)) (size H n pos s t m a m_is c.args.len c.chunk_count.result len_is c.chunk_count.ensures) (are_stored H n pos s t m a m_is c.args.len c.chunk_count.result len_is c.chunk_count.ensures)) c.root_digest.ensures
