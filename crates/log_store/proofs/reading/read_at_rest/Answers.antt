use Rattle.log_store.proofs.AtRest.{read_leaves, read_rests}
use Rattle.log_store.proofs.reading.read_at_rest.Goals as goal

pub returns-clause-rests : goal.returns-clause-rests
returns-clause-rests g c rest =
    read_rests g.D.Device c.args.device.now c.read_all.new.self rest (c.read_all.ensures.behaves rest.works) (c.read_all.ensures.seen rest.works) (c.read_all.ensures.crash rest.works)

pub returns-clause-any_moment : goal.returns-clause-any_moment
returns-clause-any_moment g c rest =
    let old = c.args.device.now in
    read_leaves g.D.Device old c.read_all.new.self rest (λ f left. g.met.D.Device.only_now old f rest.works left) (c.read_all.ensures.time rest.works) (c.read_all.ensures.crash rest.works)
