use Rattle.std.proofs.Common.{◌+◌, ◌++◌, length, take, ap, sym, ◌∙◌}
use Rattle.commit_log.specs.Kept.{kept_of}
use Rattle.commit_log.specs.Logs.{LogView, state_of}
use Rattle.log_store.proofs.BufferedLogs.{buffered_none, synced_none}
use Rattle.log_store.proofs.buffered.BufferedStore.sync.Goals as goal

pub returns-then-is_empty-clause-keeps : goal.returns-then-is_empty-clause-keeps
returns-then-is_empty-clause-keeps g c base begun waiting kept h =
    let n = g.row.N in
    let old = c.args.self.now in
    synced_none n g.D.Device base begun waiting kept (kept_of n old.bitmap) old.log old.waiting (λ f works left. g.met.D.Device.only_now old.log.device f works left) h c.if-self.false (c.is_empty.ensures c.if-is_empty.true)

pub returns-then-is_empty-clause-empty : goal.returns-then-is_empty-clause-empty
returns-then-is_empty-clause-empty g c base begun waiting kept h =
    let n = g.row.N in
    let old = c.args.self.now in
    let none = c.is_empty.ensures c.if-is_empty.true in
    let done = synced_none n g.D.Device base begun waiting kept (kept_of n old.bitmap) old.log old.waiting (λ f works left. g.met.D.Device.only_now old.log.device f works left) h c.if-self.false none in
    buffered_none n g.D.Device base (begun ++ waiting) (kept + length waiting) (kept_of n old.bitmap) old.log old.waiting done.stored none (λ writes. (h.waits writes).place ∙ sym (done.stored.written writes).1.place)

pub returns-in-Err-clause-fails : goal.returns-in-Err-clause-fails
returns-in-Err-clause-fails g c base begun waiting kept h =
    let n = g.row.N in
    let old = c.args.self.now in
    c.in-Err.ensures.fails base begun waiting kept (state_of n base (take kept begun)) (kept_of n old.bitmap) h.stored h.waits

pub returns-clause-keeps : goal.returns-clause-keeps
returns-clause-keeps g c base begun waiting kept h =
    let n = g.row.N in
    let old = c.args.self.now in
    c.in_default.ensures.kept base begun waiting kept (state_of n base (take kept begun)) (kept_of n old.bitmap) h.stored h.waits

pub returns-clause-empty : goal.returns-clause-empty
returns-clause-empty g c base begun waiting kept h =
    let n = g.row.N in
    let old = c.args.self.now in
    let done = returns-clause-keeps g c base begun waiting kept h in
    buffered_none n g.D.Device base (begun ++ waiting) (kept + length waiting) (kept_of n old.bitmap) c.append_all.new.self c.forget.new.self done.stored (ap (λ (w : LogView). w.bytes) c.forget.ensures)
    (λ writes. ap (λ (w : LogView). w.place) c.forget.ensures ∙ ap (λ (w : LogView). w.place) c.append_all.ensures.waits ∙ sym c.in_default.ensures.place)
