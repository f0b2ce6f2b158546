use Rattle.std.proofs.Common.{subst, sym}
use Rattle.log_store.specs.Sequences.{IsSequence}
use Rattle.log_store.proofs.Sequenced.{in_a_row, no_call}
use Rattle.log_store.proofs.laws.sequences.sequences_in_a_row.Goals as goal

pub returns-clause-more : goal.returns-clause-more
returns-clause-more g c states further state later one two =
    in_a_row g.row.N g.D.Device states further state later c.args.old.now c.args.mid.now c.args.new.now one two

pub returns-clause-refused : goal.returns-clause-refused
returns-clause-refused g c states state calls left =
    subst (λ log. IsSequence g.row.N g.D.Device c.args.old.now states state log) (sym left.1) calls

pub returns-clause-none : goal.returns-clause-none
returns-clause-none g c state h writes =
    no_call g.row.N g.D.Device state c.args.mid.now (λ f works left. g.met.D.Device.only_now c.args.mid.now.device f works left) h
