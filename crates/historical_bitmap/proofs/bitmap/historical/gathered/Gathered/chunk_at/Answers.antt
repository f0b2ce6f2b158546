use Rattle.std.proofs.Common.{arith, ◌∙◌}
use Rattle.historical_bitmap.proofs.History.Gathered.{gathered_is}
use Rattle.historical_bitmap.proofs.bitmap.historical.gathered.Gathered.chunk_at.Goals as goal

pub kept_or_current-requires : goal.kept_or_current-requires
kept_or_current-requires g c =
    let s = c.self.inside in
    let has = rw (← c.self.view_is) at c.requires in (
      omega arith,
      (
        omega (arith, c.self.invariant.extent.width.fits),
        (has, c.bytes_of-kept.ensures ∙ gathered_is g.row.N s.number s.of.now.commits s.of.now.current s.len s.pruned s.changed.entries s.indices.items c.self.invariant c.args.chunk has),
      ),
    )
