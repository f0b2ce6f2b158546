use Rattle.std.proofs.Common.{◌∙◌}
use Rattle.bitmap_core.proofs.Meanings.Plain.{shown_bit}
use Rattle.bitmap_core.proofs.bitmap.readable.Readable.get_bit.Goals as goal

pub returns : goal.returns
returns g c =
    let positive = c.len.ensures.lawful.width.positive in
    let meaning = g.Self.Readable.meaning c.args.self.now in
    c.get_bit.ensures
    ∙ shown_bit _ (meaning) c.get_chunk-chunk.result c.args.bit positive c.requires.1 c.get_chunk-chunk.ensures
