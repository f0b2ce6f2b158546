-- A store that is created: the log of an empty bitmap.
use Rattle.std.proofs.Common.{◌≡◌, inl, inr, ℕ, ◌^◌, ◌<◌, List, [], ◌∷◌, ◌++◌, length, ap, sym, subst, ◌∙◌, arith}
use Rattle.log_frames.specs.declared.frame.Place.{Place}
use Rattle.commit_log.specs.Base.{base_kept}
use Rattle.commit_log.specs.Kept.{Kept}
use Rattle.commit_log.specs.Logs.{IsLog, log_bytes, place_of}
use Rattle.log_store.specs.Device.{MayTear}
use Rattle.log_store.specs.Gate.{IsGated, closed}
use Rattle.log_store.specs.Moments.{IsAtRest, LeavesOnly}
use Rattle.log_store.specs.Opened.{IsBegun, IsNewStore, empty_base}
use Rattle.log_store.specs.Store.{IsStored}
use Rattle.log_store.specs.declared.device.Device.{Ghosts}
use Rattle.log_store.specs.declared.stored_log.StoredLog.{StoredLog}
use Rattle.log_store.proofs.Moments.{joined, weaker}
use Rattle.log_store.proofs.Reopening.{whole_log}

-- the log of an empty bitmap is a log, whose position fits 64 bits
empty_log : (n : ℕ) (place : Place) → place ≡ place_of n empty_base [] → place.at < 2 ^ 64 → IsLog n empty_base []
empty_log n place is fits =
    let at : place.at ≡ (place_of n empty_base []).at = ap (λ (p : Place). p.at) is in
    record {
      fits = record { number = omega arith; count = omega arith; len = omega arith; pruned = omega arith };
      small = omega (arith, at, fits);
      goes_on = tt;
    }

-- while the first closed gate is written
begun_gate : (bytes old c : List ℕ) → old ≡ [] → MayTear old (old ++ closed ∷ []) c → IsBegun bytes c
begun_gate bytes old c none torn = inl (subst (λ (x : List ℕ). MayTear x (x ++ closed ∷ []) c) none torn)

-- while bytes are written behind it
begun_bytes : (bytes : List ℕ) (first : ℕ) (rest c : List ℕ) → bytes ≡ first ∷ rest → IsGated [] first rest c → IsBegun bytes c
begun_bytes bytes first rest c is (inl shut) = inr (inl (shut.0, shut.1))
begun_bytes bytes first rest c is (inr whole) = inr (inr (whole ∙ sym is))

-- a log that is begun has no header, or is whole
pub new_store : (n : ℕ) (bytes c : List ℕ) → bytes ≡ log_bytes n empty_base [] ++ closed ∷ [] → IsBegun bytes c → IsNewStore n c
new_store n bytes c is (inl few) = inl (inl (omega (arith, few)))
new_store n bytes c is (inr (inl shut)) = inl (inr shut)
new_store n bytes c is (inr (inr whole)) = inr (whole ∙ is)

module _ {D : Type 0} (g : Ghosts D) where
  -- before the bytes are written
  pub nothing_begun : (old new : D) (n : ℕ) → g.seen old ≡ [] → LeavesOnly g old new (λ c. c ≡ g.seen old) → LeavesOnly g old new (IsNewStore n)
  nothing_begun old new n none calls = weaker g old new (λ c. c ≡ g.seen old) (IsNewStore n) calls (λ c is. inl (inl (omega (arith, ap length is, ap length none))))

  -- after the first closed gate
  pub gate_begun : (old mid : D) (bytes : List ℕ) → g.seen old ≡ [] → LeavesOnly g old mid (MayTear (g.seen old) (g.seen old ++ closed ∷ [])) → LeavesOnly g old mid (IsBegun bytes)
  gate_begun old mid bytes none calls = weaker g old mid (MayTear (g.seen old) (g.seen old ++ closed ∷ [])) (IsBegun bytes) calls (λ c torn. begun_gate bytes (g.seen old) c none torn)

  -- after the bytes
  pub bytes_begun : (old mid new : D) (bytes : List ℕ) (first : ℕ) (rest : List ℕ) → g.seen old ≡ [] → bytes ≡ first ∷ rest → LeavesOnly g old mid (MayTear (g.seen old) (g.seen old ++ closed ∷ [])) → LeavesOnly g mid new (IsGated [] first rest) → LeavesOnly g old new (IsBegun bytes)
  bytes_begun old mid new bytes first rest none is one two =
      joined g old mid new (MayTear (g.seen old) (g.seen old ++ closed ∷ [])) (IsGated [] first rest) (IsBegun bytes) one two (λ c torn. begun_gate bytes (g.seen old) c none torn) (λ c gated. begun_bytes bytes first rest c is gated)

  -- a store is read, and then its bytes are written
  pub store_begun : (old mid new : D) (n : ℕ) (bytes : List ℕ) → g.seen old ≡ [] → bytes ≡ log_bytes n empty_base [] ++ closed ∷ [] → LeavesOnly g old mid (λ c. c ≡ g.seen old) → LeavesOnly g mid new (IsBegun bytes) → LeavesOnly g old new (IsNewStore n)
  store_begun old mid new n bytes none is one two =
      joined g old mid new (λ c. c ≡ g.seen old) (IsBegun bytes) (IsNewStore n) one two (λ c same. inl (inl (omega (arith, ap length same, ap length none)))) (λ c begun. new_store n bytes c is begun)

module _ {D : Type 0} (n : ℕ) (g : Ghosts D) where
  pub created : (state : Kept) (log : StoredLog D) → state ≡ base_kept empty_base → IsAtRest g log.device → g.seen log.device ≡ log_bytes n empty_base [] ++ closed ∷ [] → log.place ≡ place_of n empty_base [] → log.place.at < 2 ^ 64
      → IsStored n g empty_base [] 0 state log
  created state log is rest bytes place fits = whole_log n g empty_base [] 0 state log (empty_log n log.place place fits) (omega arith) is rest bytes place
