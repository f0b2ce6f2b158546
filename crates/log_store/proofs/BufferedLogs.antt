-- A log on a device, and entries that wait.
use Rattle.std.proofs.Common.{◌≡◌, ℕ, ◌+◌, false, List, [], ◌++◌, length, take, sym, ap, subst, ◌∙◌, arith}
use Rattle.std.proofs.lemmas.List.{append-nil}
use Rattle.commit_log.specs.Base.{Base}
use Rattle.commit_log.specs.Entries.{Entry}
use Rattle.commit_log.specs.Kept.{Kept}
use Rattle.commit_log.specs.Logs.{LogView, state_of}
use Rattle.log_store.specs.Buffered.{IsBuffered, IsWaiting}
use Rattle.log_store.specs.Store.{Becomes, IsStored}
use Rattle.log_store.specs.declared.device.Device.{Ghosts}
use Rattle.log_store.specs.declared.stored_log.StoredLog.{StoredLog}
use Rattle.log_store.proofs.Stored.{all, nothing, stored_none}
use Rattle.log_store.proofs.WaitingFrames.{none_waits}

module _ {D : Type 0} (n : ℕ) (g : Ghosts D) (base : Base) where
  -- no entry waits
  pub buffered_none : (begun : List Entry) (kept : ℕ) (state : Kept) (log : StoredLog D) (held : LogView) → IsStored n g base begun kept state log → held.bytes ≡ [] → (log.is_read_only ≡ false → held.place ≡ log.place) → IsBuffered n g base begun kept [] state log held
  buffered_none begun kept state log held h none place = record {
    stored = subst (λ (s : Kept). IsStored n g base begun kept s log) h.state_is h;
    waits = λ writes. stored_none n g base begun kept state log held h writes none (place writes);
  }

  -- one more entry waits
  pub buffered_more : (begun waiting more : List Entry) (kept : ℕ) (state made : Kept) (log : StoredLog D) (held after : LogView) → IsBuffered n g base begun kept waiting state log held
      → (IsWaiting n base begun waiting state held → IsWaiting n base begun more made after) → IsBuffered n g base begun kept more made log after
  buffered_more begun waiting more kept state made log held after h step = record { stored = h.stored; waits = λ writes. step (h.waits writes) }

  -- a sync of no bytes
  pub synced_none : (begun waiting : List Entry) (kept : ℕ) (state : Kept) (log : StoredLog D) (held : LogView) → ((c : List ℕ) → g.behaves log.device → g.left_since log.device (g.moment log.device) c → g.may_leave log.device c)
      → IsBuffered n g base begun kept waiting state log held → log.is_read_only ≡ false → held.bytes ≡ [] → Becomes n g base begun kept log waiting (kept + length waiting) state log
  synced_none begun waiting kept state log held now h writes none =
      let w = h.waits writes in
      let empty : waiting ≡ [] = none_waits n base begun waiting state held w none in
      let entries : take kept begun ≡ begun ++ waiting = all begun kept (h.stored.written writes).0 ∙ sym (append-nil begun) ∙ ap (λ (es : List Entry). begun ++ es) (sym empty) in
      let made : state_of n base (take kept begun) ≡ state = ap (state_of n base) entries ∙ sym w.state_is in
      let same : kept ≡ kept + 0 = omega arith in
      subst (λ (es : List Entry). Becomes n g base begun kept log es (kept + length es) state log) (sym empty)
      (subst (λ (k : ℕ). Becomes n g base begun kept log [] k state log) same
      (subst (λ (s : Kept). Becomes n g base begun kept log [] kept s log) made (nothing n g base begun kept (state_of n base (take kept begun)) log now h.stored)))
