use Rattle.log_store.proofs.Stored.{in_a_row, nothing}
use Rattle.log_store.proofs.laws.calls_in_a_row.Goals as goal

pub returns-clause-more : goal.returns-clause-more
returns-clause-more g c base begun further more kept now last state later one two =
    in_a_row g.row.N g.D.Device base begun further more kept now last state later c.args.old.now c.args.mid.now c.args.new.now one two

pub returns-clause-none : goal.returns-clause-none
returns-clause-none g c base begun kept state h =
    nothing g.row.N g.D.Device base begun kept state c.args.old.now (λ f works left. g.met.D.Device.only_now c.args.old.now.device f works left) h
