use Rattle.std.proofs.Common.{◌≡◌, ℕ, ◌+◌, ◌-◌, ◌<◌, ◌≤◌, List, [], length, get_or, arith, subst, sym}
use Rattle.bitmap_core.specs.Meaning.{pruned_meaning, ShowsChunk}
use Rattle.historical_bitmap.proofs.History.Gathered.{end_fits, unkept_shows}
use Rattle.historical_bitmap.proofs.History.InPlace.{current_has}
use Rattle.historical_bitmap.proofs.History.KeptCommits.{can_undo_past}
use Rattle.historical_bitmap.proofs.bitmap.historical.gathered.BitMap+N+Clean.unchanged_around.Goals as goal

pub chunks_around-first-requires : goal.chunks_around-first-requires
chunks_around-first-requires g c =
    let all = can_undo_past g.row.N c.args.number c.self.inside.commits c.self.inside.current c.self.invariant.1.rise c.self.invariant.1.undo in
    let none = rw (← c.self.view_is) at c.requires.unchanged c.args.chunk c.requires.low c.requires.high in
    let has = rw (← c.self.view_is) at c.requires.retained c.args.chunk c.requires.low c.requires.high in
    (omega arith, (omega (arith, c.len.ensures.width.fits), current_has g.row.N c.args.number c.self.inside.commits c.self.inside.current c.args.chunk c.len.ensures.width.positive all none has))

pub part_between-requires : goal.part_between-requires
part_between-requires g c = (
  omega (arith, c.len.ensures.width.fits),
  end_fits g.row.N c.chunks_around-first.result.1 (length c.chunks_around-first.result.0.now) c.len.result c.len.ensures.width.positive (omega arith) (omega arith)
      (λ i h. omega (arith, c.len.ensures.value, (c.chunks_around-first.ensures.retained i h).1)),
)

pub returns-clause-included : goal.returns-clause-included
returns-clause-included g c = λ h.
    let some : 0 < length c.chunks_around-first.result.0.now = omega (arith, h, c.part_between.ensures.within, c.part_between.ensures.end) in
    let around = c.chunks_around-first.ensures.included some in
    c.part_between.ensures.all c.args.chunk c.requires.low c.requires.high around.0 around.1

pub returns-clause-retained : goal.returns-clause-retained
returns-clause-retained g c = λ i h.
    c.requires.retained (c.part_between.result.1 + i) (omega (arith, c.part_between.ensures.low (omega (arith, h)))) (omega (arith, h, c.part_between.ensures.high (omega (arith, h))))

pub returns-clause-shown : goal.returns-clause-shown
returns-clause-shown g c = λ i h.
    let part = c.part_between in
    let whole = c.chunks_around-first in
    let at : ℕ = part.result.1 - whole.result.1 + i in
    let all = can_undo_past g.row.N c.args.number c.self.inside.commits c.self.inside.current c.self.invariant.1.rise c.self.invariant.1.undo in
    let low : c.args.low ≤ part.result.1 + i = omega (arith, part.ensures.low (omega (arith, h))) in
    let high : part.result.1 + i < c.args.high = omega (arith, h, part.ensures.high (omega (arith, h))) in
    let none = rw (← c.self.view_is) at c.requires.unchanged (part.result.1 + i) low high in
    let has = rw (← c.self.view_is) at c.requires.retained (part.result.1 + i) low high in
    let place : whole.result.1 + at ≡ part.result.1 + i = omega (arith, part.ensures.within) in
    let shows = subst (λ (j : ℕ). ShowsChunk g.row.N (pruned_meaning g.row.N c.self.inside.current) j (get_or whole.result.0.now at [])) place
    (whole.ensures.shown at (omega (arith, h, part.ensures.within, part.ensures.end))) in
    let same = subst (λ (bytes : List ℕ). ShowsChunk g.row.N (pruned_meaning g.row.N c.self.inside.current) (part.result.1 + i) bytes) (sym (part.ensures.same i h)) shows in
    rw (← c.self.view_is) (unkept_shows g.row.N c.args.number c.self.inside.commits c.self.inside.current (part.result.1 + i) (get_or part.result.0.now i []) c.len.ensures.width.positive all none has.0 same)
