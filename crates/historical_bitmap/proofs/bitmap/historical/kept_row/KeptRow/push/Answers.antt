use Rattle.historical_bitmap.proofs.History.Positions.{rise_push}
use Rattle.historical_bitmap.proofs.bitmap.historical.kept_row.KeptRow.push.Goals as goal

pub invariant_of-self-2 : goal.invariant_of-self-2
invariant_of-self-2 g c = record {
  width = c.self.invariant.width;
  rise = rw c.in_ok-push_back.ensures.items (rise_push c.self.inside.bytes.items c.args.number c.args.bytes c.self.invariant.rise (rw (← c.self.view_is) at c.requires));
}
