use Rattle.std.proofs.Common.{◌∷◌, [], ℕ, ap, ◌∙◌}
use Rattle.std.proofs.lemmas.Result.{on_ok_weaker}
use Rattle.commit_log.specs.Logs.{LogView}
use Rattle.log_frames.specs.declared.frame.Place.{Place}
use Rattle.log_store.specs.Gate.{closed}
use Rattle.log_store.proofs.stored_log.StoredLog.append_all.Goals as goal

pub returns-clause-kept : goal.returns-clause-kept
returns-clause-kept g c base begun more kept state made h waits =
    c.append_frames-appended.ensures.kept base begun more kept state made c.args.waiting.now h (waits c.if-self.false) (c.bytes.ensures ∙ ap (λ (w : LogView). w.bytes) c.in-Ok.ensures.ok) (ap (λ (e : ℕ × Place). e.1) c.end-end.ensures)

pub returns-clause-fails : goal.returns-clause-fails
returns-clause-fails g c base begun more kept state made h waits =
    c.append_frames-appended.ensures.fails base begun more kept state made c.args.waiting.now h (waits c.if-self.false) (c.bytes.ensures ∙ ap (λ (w : LogView). w.bytes) c.in-Ok.ensures.ok) (ap (λ (e : ℕ × Place). e.1) c.end-end.ensures)

pub returns-clause-waits : goal.returns-clause-waits
returns-clause-waits g c = c.cut_back.ensures c.args.waiting.now (closed ∷ []) (ap (λ (w : LogView). w.bytes) c.in-Ok.ensures.ok) c.end-end.ensures

pub returns-clause-place : goal.returns-clause-place
returns-clause-place g c = on_ok_weaker c.append_frames-appended.result (λ is. is ∙ ap (λ (e : ℕ × Place). e.1) c.end-end.ensures) c.append_frames-appended.ensures.place
