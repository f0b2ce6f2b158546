use Rattle.bitmap_core.specs.PrunedBits.{chunk, truncated}
use Rattle.historical_bitmap.proofs.EditedChunks.Appended.{ok_map}
use Rattle.historical_bitmap.proofs.EditedChunks.ReplacedChunk.{writes_new}
use Rattle.historical_bitmap.proofs.bitmap.historical.edited.EditedChunks.write_first.Goals as goal

pub returns-clause-ok : goal.returns-clause-ok
returns-clause-ok g c = ok_map c.insert.result (λ put. (c.first_with.result, writes_new g.row.N (chunk g.row.N (truncated g.row.N c.args.current.now c.args.len) c.args.index) c.args.self.now c.insert.new.self c.args.index c.args.bit c.args.value c.first_with.result c.requires.absent c.first_with.ensures put)) c.insert.ensures.ok
