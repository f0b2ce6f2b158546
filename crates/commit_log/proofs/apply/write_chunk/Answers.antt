use Rattle.std.proofs.Common.{sym, subst}
use Rattle.commit_log.specs.Making.{IsOn}
use Rattle.commit_log.proofs.Making.{replaced_made, same_on}
use Rattle.commit_log.proofs.apply.write_chunk.Goals as goal

pub returns-in_err-try_set_chunk-clause-on : goal.returns-in_err-try_set_chunk-clause-on
returns-in_err-try_set_chunk-clause-on g c = subst (IsOn c.args.batch.now) (sym c.in_err-try_set_chunk.ensures.err) (same_on c.args.batch.now)

pub returns-clause-on : goal.returns-clause-on
returns-clause-on g c = (replaced_made g.row.N c.args.index c.args.bytes.now c.args.batch.now c.try_set_chunk.new.self _ c.in_ok-try_set_chunk.ensures.ok c.in_ok-try_set_chunk.ensures.whole).on

pub returns-clause-made : goal.returns-clause-made
returns-clause-made g c = replaced_made g.row.N c.args.index c.args.bytes.now c.args.batch.now c.try_set_chunk.new.self _ c.in_ok-try_set_chunk.ensures.ok c.in_ok-try_set_chunk.ensures.whole
