use Rattle.std.proofs.Common.{◌-◌, ◌*◌, ◌/◌, ◌∙◌, [], ap, arith}
use Rattle.std.proofs.lemmas.List.{get_or_read}
use Rattle.bitmap_core.proofs.Meanings.Plain.{plain_has_last, plain_shows}
use Rattle.bitmap_core.proofs.bitmap.readable.dense.BitMapReadable.last_chunk.Goals as goal

pub index-requires : goal.index-requires
index-requires g c =
    let place = c.chunk_index.ensures ∙ ap (λ x. (x - 1) / (8 * g.row.N)) c.len-last.ensures.value in
    omega (arith, place, plain_has_last _ _ _ _ c.self.view_is c.self.invariant.count (omega arith), c.self.inside.chunks.ok.0)

pub returns-clause-chunk : goal.returns-clause-chunk
returns-clause-chunk g c =
    let cached = c.self.invariant in
    let place = c.chunk_index.ensures ∙ ap (λ x. (x - 1) / (8 * g.row.N)) c.len-last.ensures.value in
    plain_shows _ _ _ _ _ _ cached.width.positive c.self.view_is
    (get_or_read _ _ _ (plain_has_last _ _ _ _ c.self.view_is cached.count (omega arith)) (rw place at c.index.ensures) [])
