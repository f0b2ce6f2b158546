use Rattle.std.proofs.Common.{◌+◌, ◌*◌, ◌%◌, ◌≤◌, sym, refl, arith}
use Rattle.historical_bitmap.proofs.Pending.Writes.{appends_byte}
use Rattle.historical_bitmap.proofs.bitmap.historical.pending.Dirty.put_byte.Goals as goal

pub returns-clause-done : goal.returns-clause-done
returns-clause-done g c =
    let space : c.self.inside.len % (8 * g.row.N) + 8 ≤ 8 * g.row.N = let h = rw (c.chunk_width.ensures, c.chunk_width-2.ensures) at c.if-chunk_width-len-lt8.false in omega (arith, h) in
    let set = rw c.chunk_index-index.ensures at c.join_byte.ensures.written c.if-not-join_byte.false in
    rw (sym c.self.view_is) (λ e b fits. appends_byte g.row.N b _ c.args.byte c.self.invariant.width.positive fits space _ refl refl refl set)
