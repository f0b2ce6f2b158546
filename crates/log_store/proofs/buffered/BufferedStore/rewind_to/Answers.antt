use Rattle.std.proofs.Common.{[], ◌∷◌, ◌++◌}
use Rattle.commit_log.specs.Entries.Entry.{Rewind}
use Rattle.commit_log.specs.Kept.{kept_of}
use Rattle.log_store.proofs.BufferedLogs.{buffered_more}
use Rattle.log_store.proofs.buffered.BufferedStore.rewind_to.Goals as goal

pub returns-in-Ok-clause-waits : goal.returns-in-Ok-clause-waits
returns-in-Ok-clause-waits g c base begun waiting kept h =
    let n = g.row.N in
    buffered_more n g.D.Device base begun waiting (waiting ++ Rewind c.args.number ∷ []) kept (kept_of n c.args.self.bitmap) (kept_of n c.in-Ok.bitmap) c.args.self.log c.args.self.waiting c.rewind_waiting.new.waiting h (c.in-Ok.ensures.waits base begun waiting)
