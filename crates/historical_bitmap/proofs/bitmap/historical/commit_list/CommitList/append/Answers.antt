use Rattle.std.proofs.Common.{◌≡◌, ap, arith, ◌∙◌}
use Rattle.historical_bitmap.specs.History.{before_latest}
use Rattle.historical_bitmap.proofs.History.Positions.{before_pushed, popped_again, rise_push}
use Rattle.historical_bitmap.proofs.Index.Latest.{latest_rises}
use Rattle.historical_bitmap.proofs.bitmap.historical.commit_list.CommitList.append.Goals as goal

pub index_last-requires : goal.index_last-requires
index_last-requires g c =
    let old = c.self.inside.commits.items in
    let more = c.in_ok-push_back.ensures.items in
    let earlier : before_latest c.push_back.new.self.items ≡ old = ap before_latest more ∙ before_pushed old (c.args.number, c.args.diff) in (
      omega (arith, c.self.invariant.width.fits),
      (
        omega arith,
        (
          c.self.invariant.width,
          (
            rw more (rise_push old c.args.number c.args.diff c.self.invariant.rise (rw (← c.self.view_is) at c.requires.number)),
            (rw more (latest_rises old (c.args.number, c.args.diff) c.requires.entries), rw earlier c.self.invariant.is_index),
          ),
        ),
      ),
    )

pub invariant_of-self-in-Ok : goal.invariant_of-self-in-Ok
invariant_of-self-in-Ok g c = record {
  width = c.self.invariant.width;
  rise = rw c.in_ok-push_back.ensures.items (rise_push c.self.inside.commits.items c.args.number c.args.diff c.self.invariant.rise (rw (← c.self.view_is) at c.requires.number));
  is_index = c.in-Ok.ensures.ok;
}

pub invariant_of-self-in_default : goal.invariant_of-self-in_default
invariant_of-self-in_default g c =
    let old = c.self.inside.commits.items in
    let pushed = c.push_back.new.self in
    let more = c.in_ok-push_back.ensures.items in
    let earlier : before_latest pushed.items ≡ old = ap before_latest more ∙ before_pushed old (c.args.number, c.args.diff) in
    let back : c.pop_back.new.self.items ≡ old = c.pop_back.ensures.rest ∙ popped_again old pushed.items (c.args.number, c.args.diff) pushed.len more (omega arith) in
    record {
      width = c.self.invariant.width;
      rise = rw back c.self.invariant.rise;
      is_index = rw back (rw earlier at c.in_default.ensures.err);
    }
