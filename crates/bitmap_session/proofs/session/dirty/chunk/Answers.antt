use Rattle.bitmap_session.specs.Abstraction.{dirty}
use Rattle.bitmap_session.proofs.Steps.{chunk_shown, no_refusal_of}
use Rattle.bitmap_session.proofs.session.dirty.chunk.Goals as goal

pub returns-in-Ok : goal.returns-in-Ok
returns-in-Ok g c =
    let retained = no_refusal_of g.row.N (dirty g.row.N c.args.bitmap.now).state _ _ c.args.position c.len.ensures.value c.pruned_bits.ensures c.in-Ok.ensures.why in
    chunk_shown g.row.N c.args.position _ c.args.bitmap.now retained c.get_chunk.ensures
