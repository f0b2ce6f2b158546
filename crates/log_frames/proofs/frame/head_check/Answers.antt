use Rattle.std.proofs.Common.{◌++◌, ap, ◌∙◌}
use Rattle.log_frames.specs.Digest.{digest}
use Rattle.log_frames.specs.Frames.{be64}
use Rattle.log_frames.proofs.frame.head_check.Goals as goal

pub returns : goal.returns
returns c =
    c.digest_of_both.ensures
    ∙ ap (λ x. digest (x ++ c.to_be_bytes-2.result)) c.to_be_bytes.ensures
    ∙ ap (λ x. digest (be64 c.args.place.at ++ x)) c.to_be_bytes-2.ensures
