use Rattle.std.proofs.Common.{ap}
use Rattle.commit_log.specs.Kept.{kept_of}
use Rattle.commit_log.specs.Logs.{LogView}
use Rattle.log_store.proofs.BufferedLogs.{buffered_none}
use Rattle.log_store.proofs.store.Store.into_buffered.Goals as goal

pub returns-clause-buffered : goal.returns-clause-buffered
returns-clause-buffered g c base begun kept h =
    let n = g.row.N in
    let none = c.none-waiting.ensures in
    buffered_none n g.D.Device base begun kept (kept_of n c.args.self.bitmap) c.args.self.log c.none-waiting.result h (ap (λ (w : LogView). w.bytes) none) (λ writes. ap (λ (w : LogView). w.place) none)
