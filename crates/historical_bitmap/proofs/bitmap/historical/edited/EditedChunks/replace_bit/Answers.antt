use Rattle.std.proofs.Common.{Some, ap, sym, ◌∙◌}
use Rattle.historical_bitmap.proofs.Lists.Maps.{not_some}
use Rattle.historical_bitmap.proofs.EditedChunks.ReplacedChunk.{replaced_sorted, replaces_bit}
use Rattle.historical_bitmap.proofs.bitmap.historical.edited.EditedChunks.replace_bit.Goals as goal

pub returns-in-Some-clause-bit : goal.returns-in-Some-clause-bit
returns-in-Some-clause-bit g c = rw (sym c.in-Some.ensures.value) (ap Some c.replace_bit.ensures.old)

pub returns-in-Some-clause-none : goal.returns-in-Some-clause-none
returns-in-Some-clause-none g c = λ none. absurd (not_some c.in-Some.chunk.now (c.in-Some.ensures.value ∙ none))

pub returns-in-Some-clause-some : goal.returns-in-Some-clause-some
returns-in-Some-clause-some g c = replaces_bit g.row.N c.args.self.now c.args.index c.args.bit c.args.value c.in-Some.chunk.now c.replace_bit.new.chunk (sym c.in-Some.ensures.value) c.replace_bit.ensures.new

pub returns-in-Some-clause-sorted : goal.returns-in-Some-clause-sorted
returns-in-Some-clause-sorted g c = replaced_sorted c.args.self.now c.args.index c.replace_bit.new.chunk c.get_mut.ensures.sorted
