use Rattle.std.proofs.Common.{[], arith}
use Rattle.std.proofs.lemmas.List.{get_or_read}
use Rattle.bitmap_core.proofs.Meanings.Plain.{plain_has, plain_shows}
use Rattle.bitmap_core.proofs.bitmap.readable.dense.BitMapReadable.get_chunk.Goals as goal

pub index-requires : goal.index-requires
index-requires g c = omega (arith, plain_has _ _ _ _ _ c.self.view_is c.self.invariant.count c.requires.1, c.self.inside.chunks.ok.0)

pub returns : goal.returns
returns g c =
    let cached = c.self.invariant in
    plain_shows _ _ _ _ _ _ cached.width.positive c.self.view_is
    (get_or_read _ _ _ (plain_has _ _ _ _ _ c.self.view_is cached.count c.requires.1) c.index.ensures [])
