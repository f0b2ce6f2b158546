use Rattle.std.proofs.Common.{[], ◌∷◌, ◌++◌, refl, sym, arith, append_assoc, append-nil, ◌∙◌}
use Rattle.bitmap_session.proofs.Runs.{RunsOn-all, RunsOn-more}
use Rattle.bitmap_session.proofs.session.Session.run.Goals as goal

pub loop-command-init : goal.loop-command-init
loop-command-init g c = record {
  run = ([], c.in_ok-reserve.ensures.items ∙ sym (append-nil _), λ before agrees. (before, agrees, refl));
  space = omega (arith, c.in_ok-reserve.ensures.ok, c.in_ok-reserve.ensures.len, c.in_ok-reserve.ensures.items);
}

pub loop-command-preserved : goal.loop-command-preserved
loop-command-preserved g c =
    let so_far = c.loop-command.invariant.run in
    let reply = c.serve-reply.result in
    record {
      run = (
        so_far.0 ++ reply ∷ [],
        rw (c.push_reserved.ensures.items, so_far.1, append_assoc) refl,
        RunsOn-more _ _ _ _ _ c.command-item.result so_far.0 reply c.loop-command-test.true so_far.2 (rw (← c.command-item.is) c.serve-reply.ensures),
      );
      space = omega arith;
    }

pub returns-clause-run : goal.returns-clause-run
returns-clause-run g c =
    let so_far = c.loop-command.invariant.run in
    (so_far.0, so_far.1, RunsOn-all _ _ _ _ _ c.loop-command-test.false so_far.2)
