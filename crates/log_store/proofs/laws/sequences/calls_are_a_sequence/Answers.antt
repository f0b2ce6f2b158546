use Rattle.log_store.proofs.Sequenced.{calls}
use Rattle.log_store.proofs.laws.sequences.calls_are_a_sequence.Goals as goal

pub returns : goal.returns
returns g c base begun further kept now state later h writes becomes =
    calls g.row.N g.D.Device base begun further kept now state later c.args.old.now c.args.new.now h writes becomes
