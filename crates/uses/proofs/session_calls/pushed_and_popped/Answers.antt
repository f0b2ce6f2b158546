use Rattle.std.proofs.Common.{[], ◌∷◌, true}
use Rattle.bitmap_session.specs.declared.command.Command.TheVariants.{Pop, Push}
use Rattle.bitmap_session.specs.Abstraction.{value_of}
use Rattle.uses.proofs.session_calls.pushed_and_popped.Goals as goal

pub returns : goal.returns
returns c =
    let one = c.a_step_is_a_run.ensures.one in
    let first = one _ _ (Push true) (value_of c.push-pushed.result) c.push-pushed.ensures in
    let second = one _ _ Pop (value_of c.serve-popped.result) c.serve-popped.ensures in
    c.consecutive_runs_join.ensures _ _ _ (Push true ∷ []) (Pop ∷ []) (value_of c.push-pushed.result ∷ []) (value_of c.serve-popped.result ∷ []) first second
