use Rattle.commit_log.proofs.Making.{truncated_made}
use Rattle.commit_log.proofs.apply.shrink.Goals as goal

pub returns : goal.returns
returns g c = truncated_made g.row.N c.args.len c.args.batch.now c.truncate.new.self _ c.requires.from c.requires.to c.truncate.ensures.run c.truncate.ensures.pending
