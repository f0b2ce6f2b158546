use Rattle.log_frames.proofs.Frames.{cut}
use Rattle.log_frames.proofs.laws.any_prefix_is_cut_at_a_frame.Goals as goal

pub returns : goal.returns
returns c = λ place bodies m h le. cut place bodies m h le
