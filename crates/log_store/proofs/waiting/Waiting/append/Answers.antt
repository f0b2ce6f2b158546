use Rattle.std.proofs.Common.{length, ap, arith, length-append}
use Rattle.log_frames.specs.Frames.{frame}
use Rattle.log_frames.proofs.Frames.{length-frame}
use Rattle.log_store.proofs.waiting.Waiting.append.Goals as goal

pub returns-clause-few : goal.returns-clause-few
returns-clause-few c =
    let last = frame c.self.inside.place c.args.body.now in
    omega (arith, ap length c.in_ok-self-inside.ensures.items, length-append c.self.inside.bytes.items last, length-frame c.self.inside.place c.args.body.now)
