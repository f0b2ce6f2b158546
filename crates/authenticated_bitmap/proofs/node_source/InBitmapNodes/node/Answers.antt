use Rattle.std.proofs.Common.{◌<◌, [], length, get_or, ap, arith, ◌∙◌}
use Rattle.authenticated_bitmap.specs.StoredBitmap.{full_chunks}
use Rattle.authenticated_bitmap.proofs.StoredChunks.{count_full, shown_full}
use Rattle.authenticated_bitmap.proofs.node_source.InBitmapNodes.node.Goals as goal

pub get_chunk-digest-requires : goal.get_chunk-digest-requires
get_chunk-digest-requires g c =
    let m = g.B.Readable.meaning c.self.inside.chunks.now in
    let below : c.args.place < length (full_chunks m) = omega (arith, c.requires, ap length c.self.view_is) in
    (omega arith, (omega (arith, c.self.invariant), omega (arith, below, count_full m)))

pub returns : goal.returns
returns g c =
    let m = g.B.Readable.meaning c.self.inside.chunks.now in
    shown_full m c.args.place c.get_chunk-digest.result c.known.ensures (omega (arith, c.requires, ap length c.self.view_is)) c.get_chunk-digest.ensures
    ∙ ap (λ xs. get_or xs c.args.place []) c.self.view_is
