use Rattle.log_frames.proofs.Frames.{at-counts}
use Rattle.log_frames.proofs.laws.places_count_bytes.Goals as goal

pub returns : goal.returns
returns c = λ place bodies. at-counts place bodies
