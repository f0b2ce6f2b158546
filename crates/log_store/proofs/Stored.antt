-- A log on a device after entries are appended to it, or after the append has failed.
use Rattle.std.proofs.Common.{◌≡◌, inl, inr, ℕ, ◌+◌, ◌^◌, ◌<◌, ◌≤◌, Bool, true, false, List, [], ◌∷◌, ◌++◌, length, map, take, refl, sym, ap, subst, ◌∙◌, arith, append_assoc, length-append}
use Rattle.std.proofs.lemmas.Bool.{false≢true}
use Rattle.std.proofs.lemmas.List.{append-nil, take-append-le, take_all, take_at}
use Rattle.commit_log.specs.Base.{Base}
use Rattle.commit_log.specs.Entries.{Entry, encode_entry}
use Rattle.commit_log.specs.Kept.{Kept}
use Rattle.commit_log.specs.Logs.{LogView, log_bytes, place_of, state_of}
use Rattle.log_frames.specs.Frames.{frames}
use Rattle.log_store.specs.Buffered.{IsWaiting}
use Rattle.log_store.specs.Gate.{IsGated, IsUnfinished, closed}
use Rattle.log_store.specs.Moments.{IsAtRest, LeavesOnly}
use Rattle.log_store.specs.Store.{Becomes, IsTornLog, IsStored, Keeps}
use Rattle.log_store.specs.declared.device.Device.{Ghosts}
use Rattle.log_store.specs.declared.stored_log.StoredLog.{StoredLog}
use Rattle.log_store.proofs.FramesRead.{closed_unfinished}
use Rattle.log_store.proofs.Moments.{joined, unchanged, weaker}
use Rattle.log_store.proofs.Reopening.{whole_torn}
use Rattle.log_store.proofs.WaitingFrames.{log_bytes-append, waits_none}

-- what a bool is decides
not_both : (b : Bool) → b ≡ true → b ≡ false → ⊥
not_both b t f = false≢true (sym f ∙ t)

-- the first entries of a log with further ones
taken : (begun further : List Entry) (kept : ℕ) → kept ≤ length begun → take kept (begun ++ further) ≡ take kept begun
taken begun further kept le = take-append-le kept begun further le

-- all entries of a log
pub all : (begun : List Entry) (kept : ℕ) → kept ≡ length begun → take kept begun ≡ begun
all begun kept is = take_all kept begun (omega (arith, is))

-- what a crash leaves of a log of which fewer entries are asked for
torn_fewer : (n : ℕ) (base : Base) (entries : List Entry) (fewer kept : ℕ) (c : List ℕ) → fewer ≤ kept → IsTornLog n base entries kept c → IsTornLog n base entries fewer c
torn_fewer n base entries fewer kept c le h =
    record { count = h.count; least_is = omega (arith, le, h.least_is); within = h.within; rest = h.rest; is = h.is; unfinished = h.unfinished }

-- what a crash leaves of a log, as of one with further entries
torn_later : (n : ℕ) (base : Base) (begun later : List Entry) (kept : ℕ) (c : List ℕ) → IsTornLog n base begun kept c → IsTornLog n base (begun ++ later) kept c
torn_later n base begun later kept c h =
    let same : take h.count begun ≡ take h.count (begun ++ later) = sym (take-append-le h.count begun later h.within) in
    record {
      count = h.count;
      least_is = h.least_is;
      within = omega (arith, h.within, length-append begun later);
      rest = h.rest;
      is = h.is ∙ ap (λ (es : List Entry). log_bytes n base es ++ h.rest) same;
      unfinished = subst (λ (es : List Entry). IsUnfinished (place_of n base es) h.rest) same h.unfinished;
    }

module _ {D : Type 0} (n : ℕ) (g : Ghosts D) (base : Base) where
  -- no call
  pub nothing : (begun : List Entry) (kept : ℕ) (state : Kept) (log : StoredLog D) → ((c : List ℕ) → g.behaves log.device → g.left_since log.device (g.moment log.device) c → g.may_leave log.device c)
      → IsStored n g base begun kept state log → Becomes n g base begun kept log [] kept state log
  nothing begun kept state log now h =
      let same : begun ++ [] ≡ begun = append-nil begun in
      record {
        stored = subst (λ (es : List Entry). IsStored n g base es kept state log) (sym same) h;
        rises = omega arith;
        any_moment = subst (λ (es : List Entry). LeavesOnly g log.device log.device (IsTornLog n base es kept)) (sym same) (unchanged g log.device (IsTornLog n base begun kept) (λ c left. now c h.works left) h.crash);
      }

  -- the bytes of a log with the waiting entries
  with_frames : (begun more : List Entry) (made : Kept) (held : LogView) (first : ℕ) (rest : List ℕ) → IsWaiting n base begun more made held → first ∷ rest ≡ held.bytes ++ closed ∷ []
      → log_bytes n base begun ++ first ∷ rest ≡ log_bytes n base (begun ++ more) ++ closed ∷ []
  with_frames begun more made held first rest w is =
      let log : List ℕ = log_bytes n base begun in
      let behind : List ℕ = frames (place_of n base begun) (map encode_entry more) in
      ap (λ (x : List ℕ). log ++ x) (is ∙ ap (λ (x : List ℕ). x ++ closed ∷ []) w.bytes)
      ∙ sym (append_assoc log behind (closed ∷ []))
      ∙ ap (λ (x : List ℕ). x ++ closed ∷ []) (sym (log_bytes-append n base begun more))

  -- during an append of the frames of entries behind the gate
  during : (begun more : List Entry) (kept : ℕ) (state made : Kept) (held : LogView) (old : StoredLog D) (new : D) (first : ℕ) (rest : List ℕ) → IsStored n g base begun kept state old → IsWaiting n base begun more made held
      → first ∷ rest ≡ held.bytes ++ closed ∷ [] → LeavesOnly g old.device new (IsGated (log_bytes n base begun) first rest) → LeavesOnly g old.device new (IsTornLog n base (begun ++ more) kept)
  during begun more kept state made held old new first rest h w is calls =
      weaker g old.device new (IsGated (log_bytes n base begun) first rest) (IsTornLog n base (begun ++ more) kept) calls gated
    where
      few : length rest + 1 < 2 ^ 56
      few = omega (arith, w.few, ap length is, length-append held.bytes (closed ∷ []))

      -- the closed gate and any bytes behind it, or all frames
      gated : (c : List ℕ) → IsGated (log_bytes n base begun) first rest c → IsTornLog n base (begun ++ more) kept c
      gated c (inl shut) =
          let before : take (length begun) (begun ++ more) ≡ begun = take_at begun more (length begun) refl in
          record {
            count = length begun;
            least_is = h.within;
            within = omega (arith, length-append begun more);
            rest = closed ∷ shut.0;
            is = shut.1 ∙ ap (λ (es : List Entry). log_bytes n base es ++ closed ∷ shut.0) (sym before);
            unfinished = closed_unfinished (place_of n base (take (length begun) (begun ++ more))) shut.0 (omega (arith, shut.2, few));
          }
      gated c (inr whole) = whole_torn n base (begun ++ more) kept c (omega (arith, h.within, length-append begun more)) (whole ∙ with_frames begun more made held first rest w is)

  -- the entries were appended
  pub kept_entries : (begun more : List Entry) (kept : ℕ) (state made : Kept) (held : LogView) (old new : StoredLog D) (first : ℕ) (rest : List ℕ) → IsStored n g base begun kept state old → old.is_read_only ≡ false
      → IsWaiting n base begun more made held → first ∷ rest ≡ held.bytes ++ closed ∷ [] → LeavesOnly g old.device new.device (IsGated (log_bytes n base begun) first rest) → IsAtRest g new.device
      → g.seen new.device ≡ log_bytes n base begun ++ first ∷ rest → new.place ≡ held.place → Becomes n g base begun kept old more (kept + length more) made new
  kept_entries begun more kept state made held old new first rest h writes w is calls at_rest seen place =
      let entries : List Entry = begun ++ more in
      let size : kept + length more ≡ length entries = omega (arith, (h.written writes).0, length-append begun more) in
      let every : take (kept + length more) entries ≡ entries = all entries (kept + length more) size in
      let bytes_are : g.seen new.device ≡ log_bytes n base entries ++ closed ∷ [] = seen ∙ with_frames begun more made held first rest w is in
      record {
        stored = record {
          log_is = w.log_is;
          within = omega (arith, size);
          state_is = w.state_is ∙ ap (state_of n base) (sym every);
          works = at_rest.works;
          crash = λ c left. whole_torn n base entries (kept + length more) c (omega (arith, size)) (at_rest.only c left ∙ bytes_are);
          written = λ now. (size, record { rest = at_rest; bytes = bytes_are; place = place ∙ w.place });
        };
        rises = omega arith;
        any_moment = during begun more kept state made held old new.device first rest h w is calls;
      }

  -- the append failed, and nothing more is written
  pub begun_entries : (begun more : List Entry) (kept : ℕ) (state made : Kept) (held : LogView) (old new : StoredLog D) (first : ℕ) (rest : List ℕ) → IsStored n g base begun kept state old → IsWaiting n base begun more made held
      → first ∷ rest ≡ held.bytes ++ closed ∷ [] → LeavesOnly g old.device new.device (IsGated (log_bytes n base begun) first rest) → g.behaves new.device
      → ((c : List ℕ) → g.may_leave new.device c → g.left_since new.device (g.moment old.device) c) → new.is_read_only ≡ true → Becomes n g base begun kept old more kept state new
  begun_entries begun more kept state made held old new first rest h w is calls works now shut =
      let moments = during begun more kept state made held old new.device first rest h w is calls in
      record {
        stored = record {
          log_is = w.log_is;
          within = omega (arith, h.within, length-append begun more);
          state_is = h.state_is ∙ ap (state_of n base) (sym (taken begun more kept h.within));
          works = works;
          crash = λ c left. moments.each c (now c left);
          written = λ f. absurd (not_both new.is_read_only shut f);
        };
        rises = omega arith;
        any_moment = moments;
      }

  -- no entry waits after a log that is written to
  pub stored_none : (begun : List Entry) (kept : ℕ) (state : Kept) (log : StoredLog D) (held : LogView) → IsStored n g base begun kept state log → log.is_read_only ≡ false → held.bytes ≡ [] → held.place ≡ log.place → IsWaiting n base begun [] state held
  stored_none begun kept state log held h writes none place =
      let w = h.written writes in
      waits_none n base begun state held h.log_is (h.state_is ∙ ap (state_of n base) (all begun kept w.0)) none (place ∙ w.1.place)

  -- the entry was appended, and was not applied: nothing more is written
  pub unapplied : (begun : List Entry) (kept : ℕ) (state made : Kept) (e : Entry) (old mid new : StoredLog D) → IsStored n g base begun kept state old → Keeps n g base begun kept old e made mid
      → new.device ≡ mid.device → new.is_read_only ≡ true → Becomes n g base begun kept old (e ∷ []) kept state new
  unapplied begun kept state made e old mid new h done same closed =
      let fewer = λ (c : List ℕ) (left : g.may_leave mid.device c). torn_fewer n base (begun ++ e ∷ []) kept (kept + 1) c (omega arith) (done.stored.crash c left) in
      record {
        stored = record {
          log_is = done.stored.log_is;
          within = omega (arith, done.stored.within);
          state_is = h.state_is ∙ ap (state_of n base) (sym (taken begun (e ∷ []) kept h.within));
          works = subst (λ (d : D). g.behaves d) (sym same) done.stored.works;
          crash = subst (λ (d : D). (c : List ℕ) → g.may_leave d c → IsTornLog n base (begun ++ e ∷ []) kept c) (sym same) fewer;
          written = λ f. absurd (not_both new.is_read_only closed f);
        };
        rises = omega arith;
        any_moment = subst (λ (d : D). LeavesOnly g old.device d (IsTornLog n base (begun ++ e ∷ []) kept)) (sym same) done.any_moment;
      }

  -- calls, and further calls
  pub in_a_row : (begun further more : List Entry) (kept now last : ℕ) (state later : Kept) (old mid new : StoredLog D) → Becomes n g base begun kept old further now state mid → Becomes n g base (begun ++ further) now mid more last later new
      → Becomes n g base begun kept old (further ++ more) last later new
  in_a_row begun further more kept now last state later old mid new one two =
      let same : (begun ++ further) ++ more ≡ begun ++ (further ++ more) = append_assoc begun further more in
      let all : List Entry = (begun ++ further) ++ more in
      let moments : LeavesOnly g old.device new.device (IsTornLog n base all kept) =
      joined g old.device mid.device new.device (IsTornLog n base (begun ++ further) kept) (IsTornLog n base all now) (IsTornLog n base all kept) one.any_moment two.any_moment
      (λ c torn. torn_later n base (begun ++ further) more kept c torn)
      (λ c torn. torn_fewer n base all kept now c one.rises torn) in
      record {
        stored = subst (λ (es : List Entry). IsStored n g base es last later new) same two.stored;
        rises = omega (arith, one.rises, two.rises);
        any_moment = subst (λ (es : List Entry). LeavesOnly g old.device new.device (IsTornLog n base es kept)) same moments;
      }
