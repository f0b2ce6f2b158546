use Rattle.std.proofs.Common.{◌∷◌, [], ap}
use Rattle.commit_log.specs.Kept.{after}
use Rattle.commit_log.specs.Logs.{LogView}
use Rattle.log_store.proofs.Stored.{stored_none}
use Rattle.log_store.proofs.stored_log.StoredLog.append.Goals as goal

pub returns-clause-kept : goal.returns-clause-kept
returns-clause-kept g c base begun kept state e h fits accepted is =
    let n = g.row.N in
    let none = c.none-waiting.ensures in
    c.append_all.ensures.kept base begun (e ∷ []) kept state (after n state e) h
    (λ writes. c.in-Ok.ensures.waits base begun [] state e (stored_none n g.D.Device base begun kept state c.args.self.now c.none-waiting.result h writes (ap (λ (w : LogView). w.bytes) none) (ap (λ (w : LogView). w.place) none)) fits accepted is)

pub returns-clause-fails : goal.returns-clause-fails
returns-clause-fails g c base begun kept state e h fits accepted is =
    let n = g.row.N in
    let none = c.none-waiting.ensures in
    c.append_all.ensures.fails base begun (e ∷ []) kept state (after n state e) h
    (λ writes. c.in-Ok.ensures.waits base begun [] state e (stored_none n g.D.Device base begun kept state c.args.self.now c.none-waiting.result h writes (ap (λ (w : LogView). w.bytes) none) (ap (λ (w : LogView). w.place) none)) fits accepted is)
