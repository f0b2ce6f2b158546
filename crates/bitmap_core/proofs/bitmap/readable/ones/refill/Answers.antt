use Rattle.std.proofs.Common.{refl}
use Rattle.bitmap_core.specs.Meaning.{seen_as}
use Rattle.bitmap_core.proofs.Words.Loaded.{left_same}
use Rattle.bitmap_core.proofs.bitmap.readable.ones.refill.Goals as goal

pub returns-then-not-is_empty-clause-left : goal.returns-then-not-is_empty-clause-left
returns-then-not-is_empty-clause-left g c =
    let cursor = c.args.cursor.now in
    left_same (seen_as c.args.wanted (g.B.Readable.meaning c.args.readable.now)) cursor.base cursor.word cursor.next cursor.next c.args.end c.requires.used refl
