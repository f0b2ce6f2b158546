use Rattle.std.proofs.Common.{Option, None, Some, IfSome, IsSome, refl, arith}
use Rattle.log_store.proofs.FramesRead.{only_shut, reads_more, stops_shut}
use Rattle.log_store.proofs.unfinished.before_gate.Goals as goal

-- of what is there if anything is, more
more_if : {A : Type 0} (found : Option A) (P Q : A → Type 0) (S : Type 0) → IfSome found P → (IsSome found → S) → ((x : A) → P x → S → Q x) → IfSome found Q
more_if None P Q S p s q = tt
more_if (Some x) P Q S p s q = q x p (s refl)

pub loop-frame-preserved : goal.loop-frame-preserved
loop-frame-preserved c =
    let frame = c.in-Ok-next_frame.frame in
    record {
      reads = reads_more c.args.width c.args.bytes.now c.loop-frame.rest.now frame.body.now frame.rest.now c.loop-frame.place frame.next c.loop-frame.invariant.reads c.in-Ok-next_frame.ensures.parts c.in-Ok-next_frame.ensures.body c.in-Ok-next_frame.ensures.next;
      end = omega (arith, c.in-Ok-next_frame.ensures.end, c.loop-frame.invariant.end);
    }

pub returns-in-Err-clause-found : goal.returns-in-Err-clause-found
returns-in-Err-clause-found c =
    more_if c.up_to_gate.result _ _ _ c.up_to_gate.ensures.some c.up_to_gate.ensures.shut
    (λ good is shut. stops_shut c.args.width c.args.bytes.now c.loop-frame.rest.now good.now c.loop-frame.place _ c.loop-frame.invariant.reads c.in-Err.ensures.exact shut is)

pub returns-in-Err-clause-none : goal.returns-in-Err-clause-none
returns-in-Err-clause-none c none good k =
    c.up_to_gate.ensures.none none (only_shut c.args.width c.args.bytes.now c.loop-frame.rest.now good c.loop-frame.place _ c.loop-frame.invariant.reads c.in-Err.ensures.exact k)
