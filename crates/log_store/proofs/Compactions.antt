-- A log that is replaced by the history of its state: what a crash leaves, and what it is opened to.
use Rattle.std.proofs.Common.{◌≡◌, inl, inr, ⊎_elim, ℕ, List, [], ◌∷◌, ◌++◌, length, take, sym, ap, subst, ◌∙◌, arith}
use Rattle.std.proofs.lemmas.List.{take_all}
use Rattle.commit_log.specs.Base.{Base}
use Rattle.commit_log.specs.Entries.{Entry}
use Rattle.commit_log.specs.History.{HasLog, IsHistory, history_base, history_bytes, history_entries, history_place}
use Rattle.commit_log.specs.Kept.{Kept}
use Rattle.commit_log.specs.Logs.{IsLog, log_bytes, place_of, state_of}
use Rattle.log_store.specs.Compacted.{IsCompacted, IsCompacting}
use Rattle.log_store.specs.Gate.{closed}
use Rattle.log_store.specs.Moments.{IsAtRest, IsEither, LeavesOnly}
use Rattle.log_store.specs.Opened.{OpensTo}
use Rattle.log_store.specs.Store.{IsStored}
use Rattle.log_store.specs.declared.device.Device.{Ghosts}
use Rattle.log_store.specs.declared.stored_log.StoredLog.{StoredLog}
use Rattle.log_store.proofs.Moments.{unchanged, weaker}
use Rattle.log_store.proofs.Reopening.{whole_log, whole_torn}

module _ {D : Type 0} (n : ℕ) (g : Ghosts D) where
  -- a device at rest that has the history of a state
  pub compacted : (s : Kept) (log : StoredLog D) → IsLog n (history_base s) (history_entries n s) → state_of n (history_base s) (history_entries n s) ≡ s → IsAtRest g log.device
      → g.seen log.device ≡ history_bytes n s ++ closed ∷ [] → log.place ≡ history_place n s → IsCompacted n g s log
  compacted s log is_log made rest bytes place =
      let base : Base = history_base s in
      let entries : List Entry = history_entries n s in
      let every : take (length entries) entries ≡ entries = take_all (length entries) entries (omega arith) in
      let stored = whole_log n g base entries (length entries) s log is_log (omega arith) (sym made ∙ ap (state_of n base) (sym every)) rest (bytes ∙ ap (λ (es : List Entry). log_bytes n base es ++ closed ∷ []) (sym every)) (place ∙ ap (place_of n base) (sym every)) in
      subst (λ (es : List Entry). IsStored n g base es (length entries) s log) every stored

  -- while it is not written yet
  pub not_compacted : (base : Base) (begun : List Entry) (kept : ℕ) (state s : Kept) (log : StoredLog D) → ((c : List ℕ) → g.behaves log.device → g.left_since log.device (g.moment log.device) c → g.may_leave log.device c) → IsStored n g base begun kept state log
      → LeavesOnly g log.device log.device (IsCompacting n base begun kept s)
  not_compacted base begun kept state s log now h = unchanged g log.device (IsCompacting n base begun kept s) (λ c left. now c h.works left) (λ c left. inl (h.crash c left))

  -- while it is
  pub compacting : (base : Base) (begun : List Entry) (kept : ℕ) (state s : Kept) (old : StoredLog D) (new : D) (bytes : List ℕ) → HasLog n s → IsHistory s → IsStored n g base begun kept state old → (g.seen old.device ≡ log_bytes n base begun ++ closed ∷ []) → bytes ≡ history_bytes n s ++ closed ∷ []
      → LeavesOnly g old.device new (IsEither (g.seen old.device) bytes) → LeavesOnly g old.device new (IsCompacting n base begun kept s)
  compacting base begun kept state s old new bytes has ends h seen is calls =
      weaker g old.device new (IsEither (g.seen old.device) bytes) (IsCompacting n base begun kept s) calls
      (λ c either. ⊎_elim (λ (was : c ≡ g.seen old.device). inl (whole_torn n base begun kept c h.within (was ∙ seen))) (λ (now : c ≡ bytes). inr (has, ends, now ∙ is)) either)

  -- a log that is opened with all of its entries has the state that they make
  pub opens_same : (base : Base) (entries : List Entry) (kept : ℕ) (state : Kept) (log : StoredLog D) → kept ≡ length entries → OpensTo n g base entries kept state log → state ≡ state_of n base entries
  opens_same base entries kept state log all h =
      let first : List Entry = take h.count entries in
      let every : first ≡ entries = take_all h.count entries (omega (arith, all, h.least_is)) in
      h.stored.state_is ∙ ap (state_of n base) (take_all h.count first (omega (arith, all, h.least_is, ap length every)) ∙ every)
