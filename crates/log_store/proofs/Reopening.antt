-- A log on a device that is opened, and what a crash leaves while it is.
use Rattle.std.proofs.Common.{◌≡◌, inl, inr, ℕ, ◌^◌, ◌<◌, ◌≤◌, List, [], ◌∷◌, ◌++◌, length, take, drop, refl, sym, ap, subst, ◌∙◌, arith, length-append}
use Rattle.std.proofs.lemmas.List.{drop_at, length-take-le, take_all, take_at}
use Rattle.log_frames.specs.declared.frame.Place.{Place}
use Rattle.commit_log.specs.Base.{Base}
use Rattle.commit_log.specs.Entries.{Entry}
use Rattle.commit_log.specs.Kept.{Kept}
use Rattle.commit_log.specs.Logs.{IsLog, log_bytes, place_of, state_of}
use Rattle.commit_log.proofs.Appended.{IsLog-take}
use Rattle.commit_log.proofs.LogBytes.{place_counts}
use Rattle.log_store.specs.Gate.{IsShutting, closed}
use Rattle.log_store.specs.Moments.{IsAtRest, LeavesOnly}
use Rattle.log_store.specs.Opened.{OpensTo, RecoversTo}
use Rattle.log_store.specs.Store.{IsStored, IsTornLog}
use Rattle.log_store.specs.declared.device.Device.{Ghosts}
use Rattle.log_store.specs.declared.stored_log.StoredLog.{StoredLog}
use Rattle.log_store.proofs.FramesRead.{closed_unfinished, few_unfinished}
use Rattle.log_store.proofs.Moments.{joined, weaker}

-- a whole log, and a closed gate after it
pub whole_torn : (n : ℕ) (base : Base) (entries : List Entry) (kept : ℕ) (c : List ℕ) → kept ≤ length entries → c ≡ log_bytes n base entries ++ closed ∷ [] → IsTornLog n base entries kept c
whole_torn n base entries kept c within is =
    let every : take (length entries) entries ≡ entries = take_all (length entries) entries (omega arith) in
    record {
      count = length entries;
      least_is = within;
      within = omega arith;
      rest = closed ∷ [];
      is = is ∙ ap (λ (es : List Entry). log_bytes n base es ++ closed ∷ []) (sym every);
      unfinished = closed_unfinished (place_of n base (take (length entries) entries)) [] (omega arith);
    }

-- what a crash leaves while a closed gate is put in the place of the rest
pub shutting_torn : (n : ℕ) (base : Base) (entries : List Entry) (kept : ℕ) (bytes c : List ℕ) → length bytes < 2 ^ 63 → (h : IsTornLog n base entries kept bytes) → IsShutting (log_bytes n base (take h.count entries)) h.rest c → IsTornLog n base entries kept c
shutting_torn n base entries kept bytes c small h s =
    let place : Place = place_of n base (take h.count entries) in
    elim s.2 [
      | inl same ↦ record {
        count = h.count;
        least_is = h.least_is;
        within = h.within;
        rest = h.rest;
        unfinished = h.unfinished;
        is = s.1 ∙ ap (λ (x : List ℕ). log_bytes n base (take h.count entries) ++ x) same;
      }
      | inr other ↦ elim other [
        | inl few ↦ record {
          count = h.count;
          least_is = h.least_is;
          within = h.within;
          rest = s.0;
          is = s.1;
          unfinished = few_unfinished place s.0 (omega (arith, few));
        }
        | inr shut ↦ record {
          count = h.count;
          least_is = h.least_is;
          within = h.within;
          rest = closed ∷ shut.0;
          is = s.1 ∙ ap (λ (x : List ℕ). log_bytes n base (take h.count entries) ++ x) shut.1;
          unfinished = closed_unfinished place shut.0 (omega (arith, shut.2, small, ap length h.is, length-append (log_bytes n base (take h.count entries)) h.rest));
        }
      ]
    ]

-- what a crash has left of a log is read up to the state after the entries that are whole in it
pub recovers_to : (n : ℕ) (base : Base) (entries : List Entry) (kept : ℕ) (c : List ℕ) → IsLog n base entries → IsTornLog n base entries kept c → RecoversTo n base entries kept c
recovers_to n base entries kept c log h = record {
  count = h.count;
  least_is = h.least_is;
  within = h.within;
  reads = record {
    rest = h.rest;
    reads = record { base = base; entries = take h.count entries; begins = record { whole = h.is; log = IsLog-take n base entries h.count log }; state_is = refl; place_is = refl };
    unfinished = h.unfinished;
  };
}

module _ {D : Type 0} (n : ℕ) (g : Ghosts D) (base : Base) where
  -- a device at rest that has the bytes of a log and a closed gate
  pub whole_log : (entries : List Entry) (k : ℕ) (state : Kept) (log : StoredLog D) → IsLog n base entries → k ≤ length entries → state ≡ state_of n base (take k entries) → IsAtRest g log.device
      → g.seen log.device ≡ log_bytes n base (take k entries) ++ closed ∷ [] → log.place ≡ place_of n base (take k entries) → IsStored n g base (take k entries) k state log
  whole_log entries k state log is_log within state_is rest bytes place =
      let first : List Entry = take k entries in
      let size : k ≡ length first = sym (length-take-le k entries within) in
      let every : take k first ≡ first = take_all k first (omega (arith, size)) in
      record {
        log_is = IsLog-take n base entries k is_log;
        within = omega (arith, size);
        state_is = state_is ∙ ap (state_of n base) (sym every);
        works = rest.works;
        crash = λ c left. whole_torn n base first k c (omega (arith, size)) (rest.only c left ∙ bytes);
        written = λ now. (size, record { rest = rest; bytes = bytes; place = place });
      }

  -- a log that is opened
  pub opens_to : (entries : List Entry) (kept : ℕ) (c : List ℕ) (state : Kept) (log : StoredLog D) → IsLog n base entries → (h : IsTornLog n base entries kept c)
      → state ≡ state_of n base (take h.count entries) → log.place ≡ place_of n base (take h.count entries) → IsAtRest g log.device
      → g.seen log.device ≡ take log.place.at c ++ closed ∷ [] → OpensTo n g base entries kept state log
  opens_to entries kept c state log is_log h state_is place rest seen =
      let whole : List ℕ = log_bytes n base (take h.count entries) in
      let at : log.place.at ≡ length whole = ap (λ (p : Place). p.at) place ∙ place_counts n base (take h.count entries) in
      let good : take log.place.at c ≡ whole = ap (take log.place.at) h.is ∙ take_at whole h.rest log.place.at (sym at) in
      record {
        count = h.count;
        least_is = h.least_is;
        within = h.within;
        stored = whole_log entries h.count state log is_log h.within state_is rest (seen ∙ ap (λ (x : List ℕ). x ++ closed ∷ []) good) place;
      }

  -- what a crash leaves while the device is read
  pub reading_leaves : (entries : List Entry) (kept : ℕ) (old mid : D) → LeavesOnly g old mid (λ c. c ≡ g.seen old) → IsTornLog n base entries kept (g.seen old) → LeavesOnly g old mid (IsTornLog n base entries kept)
  reading_leaves entries kept old mid read torn =
      weaker g old mid (λ c. c ≡ g.seen old) (IsTornLog n base entries kept) read (λ c is. subst (IsTornLog n base entries kept) (sym is) torn)

  -- and while a closed gate is put in the place of a frame that is not finished
  pub opening_leaves : (entries : List Entry) (kept : ℕ) (old mid new : D) (place : Place) → length (g.seen old) < 2 ^ 63 → (h : IsTornLog n base entries kept (g.seen old)) → place ≡ place_of n base (take h.count entries) → LeavesOnly g old mid (λ c. c ≡ g.seen old)
      → LeavesOnly g mid new (IsShutting (take place.at (g.seen old)) (drop place.at (g.seen old))) → LeavesOnly g old new (IsTornLog n base entries kept)
  opening_leaves entries kept old mid new place small h place_is read shutting =
      let whole : List ℕ = log_bytes n base (take h.count entries) in
      let at : place.at ≡ length whole = ap (λ (p : Place). p.at) place_is ∙ place_counts n base (take h.count entries) in
      let good : take place.at (g.seen old) ≡ whole = ap (take place.at) h.is ∙ take_at whole h.rest place.at (sym at) in
      let left : drop place.at (g.seen old) ≡ h.rest = ap (drop place.at) h.is ∙ drop_at whole h.rest place.at (sym at) in
      joined g old mid new (λ c. c ≡ g.seen old) (IsShutting (take place.at (g.seen old)) (drop place.at (g.seen old))) (IsTornLog n base entries kept) read shutting
      (λ c is. subst (IsTornLog n base entries kept) (sym is) h)
      (λ c s. shutting_torn n base entries kept (g.seen old) c small h (subst (λ (x : List ℕ). IsShutting x h.rest c) good (subst (λ (y : List ℕ). IsShutting (take place.at (g.seen old)) y c) left s)))
