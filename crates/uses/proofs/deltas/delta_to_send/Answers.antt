use Rattle.historical_bitmap.specs.View.{history_of}
use Rattle.uses.proofs.SentDeltas.{returned_delta}
use Rattle.uses.proofs.deltas.delta_to_send.Goals as goal

pub returns : goal.returns
returns c = λ older newer order e f.
    returned_delta (λ bytes. bytes.items) 8 (history_of 8 c.args.versions.now) c.args.from c.args.to older newer c.delta.result order e f (c.delta.ensures.step older newer order e f) c.delta.ensures.value
