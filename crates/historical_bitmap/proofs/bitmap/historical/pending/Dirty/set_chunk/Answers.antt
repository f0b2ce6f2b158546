use Rattle.std.proofs.Common.{Some, ap, ◌∙◌, subst}
use Rattle.chunk_map.specs.Entries.{Puts}
use Rattle.historical_bitmap.proofs.Pending.WholeChunks.{chunk_of_write}
use Rattle.historical_bitmap.proofs.bitmap.historical.pending.Dirty.set_chunk.Goals as goal

pub returns-clause-ok : goal.returns-clause-ok
returns-clause-ok g c =
    let v = c.self.view_is in
    let put : Puts c.args.self.now.edited c.replace.new.self c.args.index (Some c.cut.new.bytes) = subst (λ es. Puts es c.replace.new.self c.args.index (Some c.cut.new.bytes)) (c.settle.ensures.value ∙ ap (λ l. l.edited) v) c.in_ok-replace.ensures.ok in
    rw c.settle.ensures.chunk (chunk_of_write g.row.N c.args.self.now _ c.args.index c.args.chunk.now c.cut.new.bytes c.requires.starts (ap (λ l. l.len) v) (ap (λ l. l.pruned) v) (ap (λ l. l.captured) v) c.cut.ensures.known (rw (c.chunk_width.ensures, c.len-len.ensures.value) at c.cut.ensures.bits) put)
