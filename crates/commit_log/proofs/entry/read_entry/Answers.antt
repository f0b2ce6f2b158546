use Rattle.std.proofs.Common.{ap, subst, ◌∙◌, arith}
use Rattle.commit_log.specs.Entries.{Gives, decode_entry, view_entry}
use Rattle.commit_log.proofs.Entries.{is_encoded, is_fitting, entry-again}
use Rattle.commit_log.proofs.entry.read_entry.Goals as goal

pub returns-clause-encoded : goal.returns-clause-encoded
returns-clause-encoded g c = is_encoded g.row.N c.args.bytes.now c.read_kind.result (λ i. omega (arith, c.type_inv.bytes i)) c.read_kind.ensures

pub returns-clause-fits : goal.returns-clause-fits
returns-clause-fits g c = is_fitting g.row.N c.args.bytes.now c.read_kind.result (λ i. omega (arith, c.type_inv.bytes i)) c.read_kind.ensures

pub returns-clause-only : goal.returns-clause-only
returns-clause-only g c = λ e fits is. subst (λ f. Gives (view_entry g.row.N) c.read_kind.result f) (ap (decode_entry g.row.N) is ∙ entry-again g.row.N e fits) c.read_kind.ensures
