use Rattle.std.proofs.Common.{◌++◌, length, ap, ◌∙◌}
use Rattle.log_frames.specs.Frames.{be64, head_check, frame}
use Rattle.log_frames.proofs.Frames.{four}
use Rattle.log_frames.proofs.frame.push_frame.Goals as goal

pub returns-clause-items : goal.returns-clause-items
unfolding frame
returns-clause-items c =
    let out = c.args.out.now.items in
    let body = c.args.body.now in
    four out c.reserve.new.self.items c.append_number.new.out.items c.append_number-2.new.out.items c.append.new.out.items c.append_number-3.new.out.items
    (be64 (length body)) (be64 c.head_check.result) body (be64 c.chained-digest.result)
    c.reserve.ensures.items c.append_number.ensures.items c.append_number-2.ensures.items c.append.ensures.items c.append_number-3.ensures.items
    ∙ ap (λ n. out ++ (be64 (length body) ++ (be64 n ++ (body ++ be64 c.chained-digest.result)))) c.head_check.ensures
    ∙ ap (λ n. out ++ (be64 (length body) ++ (be64 (head_check c.args.place (length body)) ++ (body ++ be64 n)))) c.chained-digest.ensures
