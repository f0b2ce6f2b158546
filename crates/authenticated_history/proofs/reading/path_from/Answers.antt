use Rattle.std.proofs.Common.{ap, sym, ◌∙◌, ◌*◌}
use Rattle.authenticated_bitmap.specs.LeafDigests.{bitmap_of}
use Rattle.authenticated_bitmap.specs.Root.{chunk_digests}
use Rattle.authenticated_bitmap.specs.Stored.{nodes}
use Rattle.authenticated_history.proofs.StoredReads.{are_stored, leaves_fit, size}
use Rattle.authenticated_history.proofs.reading.path_from.Goals as goal

pub prove_from_bitmap-requires-clause-few : goal.prove_from_bitmap-requires-clause-few
prove_from_bitmap-requires-clause-few g c =
    leaves_fit c.chunk_count.result c.len.result (g.T.Readable.meaning c.args.stored.now) c.len.ensures.value c.len.ensures.lawful (c.requires.size ∙ ap (λ k. 256 * nodes k) (sym c.chunk_count.ensures))

pub prove_from_bitmap-requires-clause-count : goal.prove_from_bitmap-requires-clause-count
prove_from_bitmap-requires-clause-count g c = c.requires.size ∙ ap (λ k. 256 * nodes k) (sym c.chunk_count.ensures)

pub returns : goal.returns
returns g c s t len_is m_is a =
    let H = g.D.Digest.digest_of c.args.hash.now in
    let n = g.row.N in
    let m = g.T.Readable.meaning c.args.stored.now in
    let pos = c.requires.width.positive in
    c.prove_from_bitmap.ensures (chunk_digests H (bitmap_of n s t)) (size H n pos s t m a m_is c.args.len c.chunk_count.result len_is c.chunk_count.ensures) (are_stored H n pos s t m a m_is c.args.len c.chunk_count.result len_is c.chunk_count.ensures)
