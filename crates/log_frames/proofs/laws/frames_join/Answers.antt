use Rattle.log_frames.proofs.Frames.{frames-append, place_after-append}
use Rattle.log_frames.proofs.laws.frames_join.Goals as goal

pub returns-clause-bytes : goal.returns-clause-bytes
returns-clause-bytes c = λ place bodies others. frames-append place bodies others

pub returns-clause-after : goal.returns-clause-after
returns-clause-after c = λ place bodies others. place_after-append place bodies others
