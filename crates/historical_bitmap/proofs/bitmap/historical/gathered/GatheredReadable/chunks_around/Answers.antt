use Rattle.std.proofs.Common.{ℕ, ◌<◌, ◌≤◌, arith}
use Rattle.historical_bitmap.proofs.History.Gathered.{retained_within, unnamed_unkept, within_retained}
use Rattle.historical_bitmap.proofs.bitmap.historical.gathered.GatheredReadable.chunks_around.Goals as goal

pub stretch_around-low-requires-clause-end : goal.stretch_around-low-requires-clause-end
stretch_around-low-requires-clause-end g c =
    let s = c.self.inside in
    let has = rw (← c.self.view_is) at c.requires in
    omega (arith, c.chunk_count-end.ensures, (retained_within g.row.N s.number s.of.now.commits s.of.now.current s.len s.pruned s.changed.entries s.indices.items c.self.invariant c.args.chunk has).1)

pub unchanged_around-requires : goal.unchanged_around-requires
unchanged_around-requires g c =
    let s = c.self.inside in
    let ends = c.stretch_around-low in
    let has = λ (i : ℕ) (l : ends.result.0 ≤ i) (h : i < ends.result.1). within_retained g.row.N s.number s.of.now.commits s.of.now.current s.len s.pruned s.changed.entries s.indices.items c.self.invariant i
    (omega (arith, l, ends.ensures.first.0)) (omega (arith, h, ends.ensures.end.1, c.chunk_count-end.ensures)) in (
      omega arith,
      (
        omega (arith, c.self.invariant.extent.width.fits),
        (
          ends.ensures.first.1,
          (
            omega (arith, ends.ensures.end.0, c.if-high-chunk.false),
            (
              has,
              λ i l h. unnamed_unkept g.row.N s.number s.of.now.commits s.of.now.current s.len s.pruned s.changed.entries s.indices.items c.self.invariant i
                  (rw c.deref.ensures.value at ends.ensures.free i l h) (has i l h),
            ),
          ),
        ),
      ),
    )

pub returns-clause-retained : goal.returns-clause-retained
returns-clause-retained g c = λ i h. rw (← c.self.view_is) (c.unchanged_around.ensures.retained i h)
