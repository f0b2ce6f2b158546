use Rattle.log_frames.proofs.Frames.{one_reading}
use Rattle.log_frames.proofs.laws.only_one_reading.Goals as goal

pub returns : goal.returns
returns c = λ place bytes bodies others rest after why other s t. one_reading place bytes bodies others rest after why other s t
