use Rattle.std.proofs.Common.{◌≡◌, sym, ◌∙◌, rules}
use Rattle.bitmap_core.specs.Decoding.{admits, pruned_error}
use Rattle.bitmap_c.specs.Making.{between}
use Rattle.bitmap_c.proofs.Ranges.{same_error}
use Rattle.bitmap_c.proofs.making.read_session.Goals as goal

pub returns-in_err-session-clause-refused : goal.returns-in_err-session-clause-refused
returns-in_err-session-clause-refused g c =
    let bytes = c.args.bytes.now in
    let same : pruned_error g.row.N (between c.args.least c.args.most) bytes ≡ pruned_error g.row.N (admits c.between-range.result) bytes =
    same_error g.row.N (between c.args.least c.args.most) (admits c.between-range.result) bytes (λ len. sym (c.between-range.ensures len)) in
    rw same (search rules)

pub returns-clause-accepted : goal.returns-clause-accepted
returns-clause-accepted g c =
    same_error g.row.N (between c.args.least c.args.most) (admits c.between-range.result) c.args.bytes.now (λ len. sym (c.between-range.ensures len))
    ∙ c.in_ok-session.ensures.accepted
