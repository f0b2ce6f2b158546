use Rattle.std.proofs.Common.{◌++◌, ap, ◌∙◌}
use Rattle.log_frames.specs.Frames.{be64}
use Rattle.log_frames.specs.Header.{magic, header}
use Rattle.log_frames.proofs.Frames.{four}
use Rattle.log_frames.proofs.header.push_header.Goals as goal

pub returns-clause-items : goal.returns-clause-items
unfolding header
returns-clause-items c =
    let width = c.args.width in
    let out = c.args.out.now.items in
    four out c.reserve.new.self.items c.append.new.out.items c.append_number.new.out.items c.append_number-2.new.out.items c.append_number-3.new.out.items
    magic (be64 1) (be64 width) (be64 c.fields_digest-digest.result)
    c.reserve.ensures.items c.append.ensures.items c.append_number.ensures.items c.append_number-2.ensures.items c.append_number-3.ensures.items
    ∙ ap (λ n. out ++ (magic ++ (be64 1 ++ (be64 width ++ be64 n)))) c.fields_digest-digest.ensures
