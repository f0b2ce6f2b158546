-- Calls of a store in a row, with compactions among them.
use Rattle.std.proofs.Common.{◌≡◌, ◌⊎◌, inl, inr, ⊎_elim, ℕ, zero, suc, ◌+◌, ◌-◌, ◌≤◌, Bool, false, true, List, [], ◌∷◌, ◌++◌, length, take, refl, sym, ap, subst, ◌∙◌, arith}
use Rattle.std.specs.Prelude.{Contains, Result, Ok, Err, IfErr, IfOk, IsErrOf, MatchResult, OnErr, OnOk}
use Rattle.std.proofs.Math.Seq.{take-append-add}
use Rattle.std.proofs.lemmas.Bool.{false≢true}
use Rattle.std.proofs.lemmas.List.{append-nil, take_all}
use Rattle.std.proofs.lemmas.List.Elements.{Contains-append_cases, Contains-append_left, Contains-append_right}
use Rattle.log_frames.specs.declared.frame.Place.{Place}
use Rattle.commit_log.specs.Base.{Base, base_kept}
use Rattle.commit_log.specs.Entries.{Entry}
use Rattle.commit_log.specs.History.{HasLog, IsHistory, history_base, history_entries}
use Rattle.commit_log.specs.Kept.{Kept, after, after_all}
use Rattle.commit_log.specs.Logs.{IsLog, log_bytes, place_of, state_of}
use Rattle.log_store.specs.Compacted.{IsCompacted, IsCompacting}
use Rattle.log_store.specs.Gate.{IsUnfinished}
use Rattle.log_store.specs.Moments.{LeavesOnly}
use Rattle.log_store.specs.Opened.{OpensTo}
use Rattle.log_store.specs.Sequences.{GoesOnWith, HasState, IsSequence, ReadsToOneOf, states_after}
use Rattle.log_store.specs.Store.{Becomes, Fails, IsStored, IsTornLog, Keeps, LeavesLog}
use Rattle.log_store.specs.declared.device.Device.{Ghosts}
use Rattle.log_store.specs.declared.error.StoreError.{StoreError}
use Rattle.log_store.specs.declared.error.StoreError.TheVariants.{ReadOnly, Number, NoSuchCommit, Memory, Device, NotApplied}
use Rattle.log_store.specs.declared.stored_log.StoredLog.{StoredLog}
use Rattle.log_store.proofs.Compactions.{opens_same}
use Rattle.log_store.proofs.Moments.{joined, unchanged, weaker}
use Rattle.log_store.proofs.Prefixes.{opens_with}
use Rattle.log_store.proofs.Reopening.{recovers_to, whole_torn}
use Rattle.log_store.proofs.Stored.{all}

-- ---- results

-- of what was found, more, and of an error
pub both : {A E : Type 0} (r : Result A E) (O P : A → Type 0) (Q : E → Type 0) → ((x : A) → O x → P x) → IfOk r O → IfErr r Q → MatchResult r P Q
both (Ok x) O P Q f p q = f x p
both (Err e) O P Q f p q = q

-- of what was found, from two facts
pub found : {A E : Type 0} (r : Result A E) (O M P : A → Type 0) (F : E → Type 0) → ((x : A) → O x → M x → P x) → IfOk r O → MatchResult r M F → IfOk r P
found (Ok x) O M P F f p m = f x p m
found (Err e) O M P F f p m = tt

-- of an error, more
pub failed : {A E : Type 0} (r : Result A E) (M : A → Type 0) (F Q : E → Type 0) → ((e : E) → F e → Q e) → MatchResult r M F → IfErr r Q
failed (Ok x) M F Q f m = tt
failed (Err e) M F Q f m = f e m

-- ---- states

-- the first of some elements
first_of_them : {X : Type 0} (x : X) (xs : List X) → Contains (x ∷ xs) x
first_of_them x xs = (0, omega arith, refl)

-- the only element
only_one : {X : Type 0} (x y : X) → Contains (x ∷ []) y → x ≡ y
only_one x y (zero, le, is) = is
only_one x y (suc k, le, is) = absurd (omega (arith, le))

-- an element is the first, or one of the others
first_or : {X : Type 0} (x : X) (xs : List X) (y : X) → Contains (x ∷ xs) y → (x ≡ y) ⊎ Contains xs y
first_or x xs y h = ⊎_elim (λ one. inl (only_one x y one)) (λ other. inr other) (Contains-append_cases (x ∷ []) xs y h)

-- the state after some entries is one of those that they make one after another
among_after : (n : ℕ) (s : Kept) (entries : List Entry) (m : ℕ) → Contains (s ∷ states_after n s entries) (after_all n s (take m entries))
among_after n s entries zero = first_of_them s (states_after n s entries)
among_after n s [] (suc m) = first_of_them s []
among_after n s (e ∷ es) (suc m) =
    let next : Kept = after n s e in
    Contains-append_right (s ∷ []) (next ∷ states_after n next es) (after_all n next (take m es)) (among_after n next es m)

after_all-append : (n : ℕ) (s : Kept) (entries later : List Entry) → after_all n s (entries ++ later) ≡ after_all n (after_all n s entries) later
after_all-append n s [] later = refl
after_all-append n s (e ∷ es) later = after_all-append n (after n s e) es later

-- so is that after some first entries of a log, among them all that were there before
among_further : (n : ℕ) (base : Base) (begun further : List Entry) (state : Kept) (count : ℕ) → state ≡ state_of n base begun → length begun ≤ count
    → Contains (state ∷ states_after n state further) (state_of n base (take count (begun ++ further)))
among_further n base begun further state count is le =
    let more : ℕ = count - length begun in
    let first : take count (begun ++ further) ≡ begun ++ take more further = ap (λ (k : ℕ). take k (begun ++ further)) (omega (arith, le)) ∙ take-append-add begun further more in
    let made : after_all n state (take more further) ≡ state_of n base (take count (begun ++ further)) =
    ap (λ (s : Kept). after_all n s (take more further)) is ∙ sym (after_all-append n (base_kept base) begun (take more further)) ∙ sym (ap (state_of n base) first) in
    subst (λ (s : Kept). Contains (state ∷ states_after n state further) s) made (among_after n state further more)

-- ---- bytes

-- what a crash leaves of a log is read up to one of its states
torn_reads : (n : ℕ) (base : Base) (entries : List Entry) (kept : ℕ) (states : List Kept) (c : List ℕ) → IsLog n base entries → ((count : ℕ) → kept ≤ count → count ≤ length entries → Contains states (state_of n base (take count entries)))
    → IsTornLog n base entries kept c → ReadsToOneOf n states c
torn_reads n base entries kept states c log each torn =
    let r = recovers_to n base entries kept c log torn in
    record { state = state_of n base (take r.count entries); place = place_of n base (take r.count entries); among = each r.count r.least_is r.within; reads = r.reads }

-- if all entries are kept, it is read up to the state that they make
whole_reads : (n : ℕ) (base : Base) (entries : List Entry) (kept : ℕ) (state : Kept) (c : List ℕ) → IsLog n base entries → kept ≡ length entries → state ≡ state_of n base entries → IsTornLog n base entries kept c → ReadsToOneOf n (state ∷ []) c
whole_reads n base entries kept state c log whole is torn =
    torn_reads n base entries kept (state ∷ []) c log (λ count le within.
    subst (λ (s : Kept). Contains (state ∷ []) s) (is ∙ ap (state_of n base) (sym (take_all count entries (omega (arith, whole, le))))) (first_of_them state [])) torn

-- bytes that are read up to one of some states are so to one of more states
pub reads_more : (n : ℕ) (states more : List Kept) (c : List ℕ) → ((s : Kept) → Contains states s → Contains more s) → ReadsToOneOf n states c → ReadsToOneOf n more c
reads_more n states more c so r = record { state = r.state; place = r.place; among = so r.state r.among; reads = r.reads }

-- bytes that are read up to a state are what a crash may leave of a log that makes it
pub reads_torn : (n : ℕ) (states : List Kept) (c : List ℕ) (r : ReadsToOneOf n states c) → IsTornLog n r.reads.reads.base r.reads.reads.entries (length r.reads.reads.entries) c
reads_torn n states c r =
    let read = r.reads.reads in
    let every : take (length read.entries) read.entries ≡ read.entries = take_all (length read.entries) read.entries (omega arith) in
    record {
      count = length read.entries;
      least_is = omega arith;
      within = omega arith;
      rest = r.reads.rest;
      is = read.begins.whole ∙ ap (λ (es : List Entry). log_bytes n read.base es ++ r.reads.rest) (sym every);
      unfinished = subst (λ (p : Place). IsUnfinished p r.reads.rest) (read.place_is ∙ ap (place_of n read.base) (sym every)) r.reads.unfinished;
    }

-- ---- logs

module _ {D : Type 0} (n : ℕ) (g : Ghosts D) where
  -- a log that is written to has the state that its entries make
  has_state : (base : Base) (begun : List Entry) (kept : ℕ) (state : Kept) (log : StoredLog D) → IsStored n g base begun kept state log → log.is_read_only ≡ false → HasState n g state log
  has_state base begun kept state log h writes = record { base = base; entries = begun; stored = subst (λ (k : ℕ). IsStored n g base begun k state log) (h.written writes).0 h }

  state_made : (state : Kept) (log : StoredLog D) (h : HasState n g state log) → state ≡ state_of n h.base h.entries
  state_made state log h = h.stored.state_is ∙ ap (state_of n h.base) (take_all (length h.entries) h.entries (omega arith))

  -- no call
  pub no_call : (state : Kept) (log : StoredLog D) → ((c : List ℕ) → g.behaves log.device → g.left_since log.device (g.moment log.device) c → g.may_leave log.device c) → HasState n g state log → IsSequence n g log.device (state ∷ []) state log
  no_call state log now h = record {
    among = first_of_them state [];
    stored = λ writes. h;
    any_moment = unchanged g log.device (ReadsToOneOf n (state ∷ [])) (λ c left. now c h.stored.works left)
        (λ c left. whole_reads n h.base h.entries (length h.entries) state c h.stored.log_is refl (state_made state log h) (h.stored.crash c left));
  }

  -- calls that append entries
  pub calls : (base : Base) (begun further : List Entry) (kept now : ℕ) (state later : Kept) (old new : StoredLog D) → IsStored n g base begun kept state old → old.is_read_only ≡ false → Becomes n g base begun kept old further now later new
      → IsSequence n g old.device (state ∷ states_after n state further) later new
  calls base begun further kept now state later old new h writes b =
      let states : List Kept = state ∷ states_after n state further in
      let whole : kept ≡ length begun = (h.written writes).0 in
      let made : state ≡ state_of n base begun = h.state_is ∙ ap (state_of n base) (all begun kept whole) in
      let each = λ (count : ℕ) (le : kept ≤ count). among_further n base begun further state count made (omega (arith, whole, le)) in
      record {
        among = subst (λ (s : Kept). Contains states s) (sym b.stored.state_is) (each now b.rises);
        stored = λ open_now. has_state base (begun ++ further) now later new b.stored open_now;
        any_moment = weaker g old.device new.device (IsTornLog n base (begun ++ further) kept) (ReadsToOneOf n states) b.any_moment
            (λ c torn. torn_reads n base (begun ++ further) kept states c b.stored.log_is (λ count le within. each count le) torn);
      }

  -- a sequence, and a further one
  pub in_a_row : (states further : List Kept) (state later : Kept) (old : D) (mid new : StoredLog D) → IsSequence n g old states state mid → IsSequence n g mid.device (state ∷ further) later new → IsSequence n g old (states ++ further) later new
  in_a_row states further state later old mid new one two =
      let all_states : List Kept = states ++ further in
      let more : (s : Kept) → Contains (state ∷ further) s → Contains all_states s =
      λ s h. ⊎_elim (λ (is : state ≡ s). Contains-append_left states further s (subst (λ (x : Kept). Contains states x) is one.among)) (λ (rest : Contains further s). Contains-append_right states further s rest) (first_or state further s h) in
      record {
        among = more later two.among;
        stored = two.stored;
        any_moment = joined g old mid.device new.device (ReadsToOneOf n states) (ReadsToOneOf n (state ∷ further)) (ReadsToOneOf n all_states) one.any_moment two.any_moment
            (λ c r. reads_more n states all_states c (λ s h. Contains-append_left states further s h) r)
            (λ c r. reads_more n (state ∷ further) all_states c more r);
      }

  -- what a crash leaves of a log that is replaced by the history of its state
  compacting_reads : (state : Kept) (log : StoredLog D) (c : List ℕ) → ((s : Kept) → IsHistory s → state_of n (history_base s) (history_entries n s) ≡ s) → ((s : Kept) → HasLog n s → IsLog n (history_base s) (history_entries n s))
      → (h : HasState n g state log) → IsCompacting n h.base h.entries (length h.entries) state c → ReadsToOneOf n (state ∷ []) c
  compacting_reads state log c made is_log h left =
      let base : Base = history_base state in
      let entries : List Entry = history_entries n state in
      ⊎_elim
      (λ (torn : IsTornLog n h.base h.entries (length h.entries) c). whole_reads n h.base h.entries (length h.entries) state c h.stored.log_is refl (state_made state log h) torn)
      (λ new. whole_reads n base entries (length entries) state c (is_log state new.0) refl (sym (made state new.1)) (whole_torn n base entries (length entries) c (omega arith) new.2))
      left

  -- what an error leaves of a log that is still written to
  after_error : (state : Kept) (old new : StoredLog D) (e : StoreError) → HasState n g state old → LeavesLog g old e new → new.is_read_only ≡ false → HasState n g state new
  after_error state old new ReadOnly h left writes = subst (λ (log : StoredLog D). HasState n g state log) (sym left.1) h
  after_error state old new (Number e) h left writes = subst (λ (log : StoredLog D). HasState n g state log) (sym left) h
  after_error state old new NoSuchCommit h left writes = subst (λ (log : StoredLog D). HasState n g state log) (sym left) h
  after_error state old new (Memory e) h left writes = subst (λ (log : StoredLog D). HasState n g state log) (sym left) h
  after_error state old new (Device e) h left writes = absurd (false≢true (sym writes ∙ left.0))
  after_error state old new (NotApplied e) h left writes = absurd (false≢true (sym writes ∙ left))

  -- what a compaction leaves of a log that is still written to
  pub after_compaction : {T : Type 0} (r : Result T StoreError) (state : Kept) (old new : StoredLog D) → HasState n g state old → OnOk r (IsCompacted n g state new) → IfErr r (λ e. LeavesLog g old e new) → new.is_read_only ≡ false → HasState n g state new
  after_compaction (Ok x) state old new h done left writes = record { base = history_base state; entries = history_entries n state; stored = done }
  after_compaction (Err e) state old new h done left writes = after_error state old new e h left writes

  -- and a compaction of a log that has grown
  pub after_compaction_if_grown : (r : Result Bool StoreError) (state : Kept) (old new : StoredLog D) → HasState n g state old → IfOk r (λ did. did ≡ true → IsCompacted n g state new) → IfOk r (λ did. did ≡ false → new ≡ old)
      → IfErr r (λ e. LeavesLog g old e new) → new.is_read_only ≡ false → HasState n g state new
  after_compaction_if_grown (Ok true) state old new h done same left writes = record { base = history_base state; entries = history_entries n state; stored = done refl }
  after_compaction_if_grown (Ok false) state old new h done same left writes = subst (λ (log : StoredLog D). HasState n g state log) (sym (same refl)) h
  after_compaction_if_grown (Err e) state old new h done same left writes = after_error state old new e h left writes

  -- a compaction of a log that is written to
  compaction : (state : Kept) (old new : StoredLog D) → ((s : Kept) → IsHistory s → state_of n (history_base s) (history_entries n s) ≡ s) → ((s : Kept) → HasLog n s → IsLog n (history_base s) (history_entries n s))
      → (h : HasState n g state old) → (new.is_read_only ≡ false → HasState n g state new) → LeavesOnly g old.device new.device (IsCompacting n h.base h.entries (length h.entries) state)
      → IsSequence n g old.device (state ∷ []) state new
  compaction state old new made is_log h stored moments = record {
    among = first_of_them state [];
    stored = stored;
    any_moment = weaker g old.device new.device (IsCompacting n h.base h.entries (length h.entries) state) (ReadsToOneOf n (state ∷ [])) moments (λ c left. compacting_reads state old c made is_log h left);
  }

  -- a sequence goes on with a compaction: a log that is written to is replaced, left alone or not written to, and a read-only one is left as it is
  pub compacts : (device : D) (states : List Kept) (state : Kept) (old new : StoredLog D) → ((s : Kept) → IsHistory s → state_of n (history_base s) (history_entries n s) ≡ s) → ((s : Kept) → HasLog n s → IsLog n (history_base s) (history_entries n s))
      → (HasState n g state old → new.is_read_only ≡ false → HasState n g state new) → ((h : HasState n g state old) → LeavesOnly g old.device new.device (IsCompacting n h.base h.entries (length h.entries) state)) → (old.is_read_only ≡ true → new ≡ old)
      → IsSequence n g device states state old → IsSequence n g device states state new
  compacts device states state old new made is_log stored moments same calls = by_mode old.is_read_only refl
    where
      by_mode : (b : Bool) → old.is_read_only ≡ b → IsSequence n g device states state new
      by_mode true read_only = subst (λ (log : StoredLog D). IsSequence n g device states state log) (sym (same read_only)) calls
      by_mode false writes =
          let h = calls.stored writes in
          subst (λ (all_states : List Kept). IsSequence n g device all_states state new) (append-nil states) (in_a_row states [] state state device old new calls (compaction state old new made is_log h (stored h) (moments h)))

  -- a call that fails only since the log is read-only leaves it as it is
  pub refused : {T : Type 0} (r : Result T StoreError) (old new : StoredLog D) → IsErrOf r ReadOnly → IfErr r (λ e. LeavesLog g old e new) → new ≡ old
  refused {T} r old new is left = (subst (λ (x : Result T StoreError). IfErr x (λ e. LeavesLog g old e new)) is left).1

  -- a log that is opened
  pub opened : (states : List Kept) (device : D) (state : Kept) (log : StoredLog D) (r : ReadsToOneOf n states (g.seen device)) → OpensTo n g r.reads.reads.base r.reads.reads.entries (length r.reads.reads.entries) state log → state ≡ r.state
  opened states device state log r opens =
      let read = r.reads.reads in
      opens_same n g read.base read.entries (length read.entries) state log refl opens ∙ sym read.state_is

  pub begins : (states : List Kept) (device : D) (state : Kept) (log : StoredLog D) (r : ReadsToOneOf n states (g.seen device)) → OpensTo n g r.reads.reads.base r.reads.reads.entries (length r.reads.reads.entries) state log
      → LeavesOnly g device log.device (IsTornLog n r.reads.reads.base r.reads.reads.entries (length r.reads.reads.entries)) → IsSequence n g device (state ∷ []) state log
  begins states device state log r opens moments =
      let read = r.reads.reads in
      let made : state ≡ state_of n read.base read.entries = opens_same n g read.base read.entries (length read.entries) state log refl opens in
      record {
        among = first_of_them state [];
        stored = λ writes. record { base = read.base; entries = read.entries; stored = opens_with n g read.base read.entries state log opens };
        any_moment = weaker g device log.device (IsTornLog n read.base read.entries (length read.entries)) (ReadsToOneOf n (state ∷ [])) moments
            (λ c torn. whole_reads n read.base read.entries (length read.entries) state c read.begins.log refl made torn);
      }

  -- a log that is not opened
  pub not_opened : (states : List Kept) (device left : D) (r : ReadsToOneOf n states (g.seen device)) → LeavesOnly g device left (IsTornLog n r.reads.reads.base r.reads.reads.entries (length r.reads.reads.entries)) → LeavesOnly g device left (ReadsToOneOf n states)
  not_opened states device left r moments =
      let read = r.reads.reads in
      weaker g device left (IsTornLog n read.base read.entries (length read.entries)) (ReadsToOneOf n states) moments
      (λ c torn. reads_more n (r.state ∷ []) states c (λ s one. subst (λ (x : Kept). Contains states x) (only_one r.state s one) r.among) (whole_reads n read.base read.entries (length read.entries) r.state c read.begins.log refl read.state_is torn))

  -- a sequence goes on with a call that appends an entry, or fails to, or is refused
  goes_on_with : (device : D) (states : List Kept) (state later : Kept) (e : Entry) (old new : StoredLog D) → (old.is_read_only ≡ true → (new ≡ old) × (later ≡ state))
      → ((base : Base) (begun : List Entry) (kept : ℕ) → IsStored n g base begun kept state old → (now : ℕ) × (Becomes n g base begun kept old [] now later new ⊎ Becomes n g base begun kept old (e ∷ []) now later new))
      → IsSequence n g device states state old → GoesOnWith n g device states state e later new
  goes_on_with device states state later e old new same outcome before = by_mode old.is_read_only refl
    where
      by_mode : (b : Bool) → old.is_read_only ≡ b → GoesOnWith n g device states state e later new
      by_mode true read_only =
          let kept_as_is = same read_only in
          inl (subst (λ (s : Kept). IsSequence n g device states s new) (sym kept_as_is.1) (subst (λ (log : StoredLog D). IsSequence n g device states state log) (sym kept_as_is.0) before))
      by_mode false writes =
          let h = before.stored writes in
          let did = outcome h.base h.entries (length h.entries) h.stored in
          let step = λ (further : List Entry) (b : Becomes n g h.base h.entries (length h.entries) old further did.0 later new).
          in_a_row states (states_after n state further) state later device old new before (calls h.base h.entries further (length h.entries) did.0 state later old new h.stored writes b) in
          ⊎_elim (λ none. inl (subst (λ (all_states : List Kept). IsSequence n g device all_states later new) (append-nil states) (step [] none))) (λ one. inr (step (e ∷ []) one)) did.1

  pub appends : {T : Type 0} (r : Result T StoreError) (device : D) (states : List Kept) (state later : Kept) (e : Entry) (old new : StoredLog D)
      → ((base : Base) (begun : List Entry) (kept : ℕ) → IsStored n g base begun kept state old → OnOk r (Keeps n g base begun kept old e later new))
      → ((base : Base) (begun : List Entry) (kept : ℕ) → IsStored n g base begun kept state old → OnErr r (Fails n g base begun kept old e later new))
      → OnErr r (later ≡ state) → IfErr r (λ why. LeavesLog g old why new) → (old.is_read_only ≡ true → IsErrOf r ReadOnly) → IsSequence n g device states state old → GoesOnWith n g device states state e later new
  appends {T} r device states state later e old new keeps fails same left read_only before =
      goes_on_with device states state later e old new
      (λ closed. (refused r old new (read_only closed) left, subst (λ (x : Result T StoreError). OnErr x (later ≡ state)) (read_only closed) same))
      (λ base begun kept h. by_result base begun kept r (keeps base begun kept h) (fails base begun kept h)) before
    where
      by_result : {U : Type 0} (base : Base) (begun : List Entry) (kept : ℕ) (x : Result U StoreError) → OnOk x (Keeps n g base begun kept old e later new) → OnErr x (Fails n g base begun kept old e later new)
          → (now : ℕ) × (Becomes n g base begun kept old [] now later new ⊎ Becomes n g base begun kept old (e ∷ []) now later new)
      by_result base begun kept (Ok v) k f = (kept + 1, inr k)
      by_result base begun kept (Err w) k f = (kept, f)

  -- the same of a call that takes a store, or a batch, and returns it with an error
  pub appends_moved : {A B : Type 0} (r : Result A (B × StoreError)) (device : D) (states : List Kept) (state : Kept) (e : Entry) (old : StoredLog D) (made : A → Kept) (log : A → StoredLog D) (unmade : B → Kept) (left : B → StoredLog D)
      → ((base : Base) (begun : List Entry) (kept : ℕ) → IsStored n g base begun kept state old → IfOk r (λ x. Keeps n g base begun kept old e (made x) (log x)))
      → ((base : Base) (begun : List Entry) (kept : ℕ) → IsStored n g base begun kept state old → IfErr r (λ p. Fails n g base begun kept old e (unmade p.0) (left p.0)))
      → IfErr r (λ p. unmade p.0 ≡ state) → IfErr r (λ p. LeavesLog g old p.1 (left p.0)) → (old.is_read_only ≡ true → MatchResult r (λ x. ⊥) (λ p. p.1 ≡ ReadOnly)) → IsSequence n g device states state old
      → MatchResult r (λ x. GoesOnWith n g device states state e (made x) (log x)) (λ p. GoesOnWith n g device states state e (unmade p.0) (left p.0))
  appends_moved (Ok x) device states state e old made log unmade left keeps fails same leaves read_only before =
      goes_on_with device states state (made x) e old (log x) (λ closed. absurd (read_only closed)) (λ base begun kept h. (kept + 1, inr (keeps base begun kept h))) before
  appends_moved (Err p) device states state e old made log unmade left keeps fails same leaves read_only before =
      goes_on_with device states state (unmade p.0) e old (left p.0) (λ closed. ((subst (λ (why : StoreError). LeavesLog g old why (left p.0)) (read_only closed) leaves).1, same)) (λ base begun kept h. (kept, fails base begun kept h)) before
