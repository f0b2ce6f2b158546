use Rattle.std.proofs.Common.{◌≡◌, ◌*◌, ◌%◌, ◌<◌, arith, sym}
use Rattle.historical_bitmap.proofs.Pending.Truncates.{cuts_between, cuts_inside}
use Rattle.historical_bitmap.proofs.bitmap.historical.cached_word.cut_to.Goals as goal

pub returns-then-kept-eq0-clause-cuts : goal.returns-then-kept-eq0-clause-cuts
returns-then-kept-eq0-clause-cuts g c =
    rw (← c.settle.ensures.value, c.settle.ensures.chunk)
    (cuts_between g.row.N c.args.total c.settle.new.chunks c.drop_from.new.self c.requires.width.positive (rw c.chunk_width.ensures at c.if-kept-eq0.true) (rw c.chunk_index-index.ensures at c.drop_from.ensures.dropped))

pub returns-else-kept-eq0-clause-cuts : goal.returns-else-kept-eq0-clause-cuts
returns-else-kept-eq0-clause-cuts g c =
    let other : c.args.total % (8 * g.row.N) ≡ 0 → ⊥ = rw c.chunk_width.ensures at c.if-kept-eq0.false in
    let inside : 0 < c.args.total % (8 * g.row.N) = omega (arith, other) in
    rw (← c.settle.ensures.value, c.settle.ensures.chunk)
    (cuts_inside g.row.N c.args.total c.settle.new.chunks c.drop_from-else-kept-eq0.new.self c.cut.new.self c.requires.width.positive inside (rw c.chunk_index-index.ensures at c.drop_from-else-kept-eq0.ensures.dropped)
    (rw (c.chunk_width.ensures, c.chunk_index-index.ensures) at c.cut.ensures.here) (rw c.chunk_index-index.ensures at c.cut.ensures.others))
