use Rattle.std.proofs.Common.{◌≤◌, sym}
use Rattle.bitmap_core.specs.PrunedBits.{bit_len, pruned_bits}
use Rattle.historical_bitmap.specs.Replaced.{replaced_record}
use Rattle.historical_bitmap.proofs.History.AddedCommit.{history_more, kept_more}
use Rattle.historical_bitmap.proofs.History.Replaced.{replaced_can_undo, replaced_leads_back}
use Rattle.historical_bitmap.proofs.bitmap.historical.replaced.BitMap+N+Clean.commit_replaced.Goals as goal

pub invariant_of-result : goal.invariant_of-result
invariant_of-result g c =
    let pos = c.bitmap.invariant.width.positive in
    let gone : bit_len g.row.N c.self.inside.current ≤ pruned_bits g.row.N c.args.bitmap = rw (sym c.self.view_is) at c.requires in (
      tt,
      kept_more g.row.N c.self.inside.commits c.keep_replaced.new.commits c.self.inside.last c.args.number (replaced_record g.row.N c.self.inside.current c.args.bitmap) c.self.inside.current c.args.bitmap pos c.ranges.number.fits
          (sym c.in_default.ensures) c.self.invariant.1 c.in-Ok.ensures.ok (replaced_leads_back g.row.N c.self.inside.current c.args.bitmap pos gone) (replaced_can_undo g.row.N c.self.inside.current c.args.bitmap pos gone),
    )

pub returns-clause-history : goal.returns-clause-history
returns-clause-history g c =
    let pos = c.bitmap.invariant.width.positive in
    let gone : bit_len g.row.N c.self.inside.current ≤ pruned_bits g.row.N c.args.bitmap = rw (sym c.self.view_is) at c.requires in
    rw (← c.self.view_is) (history_more g.row.N c.self.inside.commits c.keep_replaced.new.commits c.self.inside.last c.args.number (replaced_record g.row.N c.self.inside.current c.args.bitmap) c.self.inside.current c.args.bitmap pos c.ranges.number.fits
    (sym c.in_default.ensures) c.self.invariant.1 c.in-Ok.ensures.ok (replaced_leads_back g.row.N c.self.inside.current c.args.bitmap pos gone))
