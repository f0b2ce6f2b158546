-- What a delta makes of a state, and why it is not applied.
use Rattle.std.proofs.Common.{◌≡◌, ℕ, ◌-◌, ◌^◌, ◌<◌, List, [], ◌∷◌, ◌++◌, Option, Some, None, Err, refl, sym, ap, subst, ◌∙◌, arith}
use Rattle.std.specs.Prelude.{alloc_error}
use Rattle.std.proofs.lemmas.Bool.{lt-leb, lt-ltb, ne_eqb}
use Rattle.bitmap_bytes.specs.Chunk.{IsWidth}
use Rattle.bitmap_core.specs.PrunedBits.{PrunedBits}
use Rattle.historical_bitmap.specs.Changes.{changed, listed}
use Rattle.historical_bitmap.specs.History.{kept_under}
use Rattle.historical_bitmap.specs.View.{commit_error}
use Rattle.log_frames.proofs.DigestRange.{digest-lt}
use Rattle.commit_log.specs.Accepted.{Accepts, IsChangeError}
use Rattle.commit_log.specs.Delta.{Brings, Delta, FitsDelta, IsDeltaError, IsStep, StartsAt, committed, decode_delta, delta_between, delta_of, encode_delta, replaced}
use Rattle.commit_log.specs.Entries.Entry.{Commit}
use Rattle.commit_log.specs.Kept.{Kept, after, applied, change_to}
use Rattle.commit_log.specs.declared.deltas.DeltaError.{DeltaError}
use Rattle.commit_log.specs.declared.deltas.DeltaError.TheVariants as errors
use Rattle.commit_log.specs.declared.error.EntryError.{EntryError}
use Rattle.commit_log.specs.declared.error.EntryError.TheVariants as reasons
use Rattle.commit_log.proofs.Applied.{applied_change}
use Rattle.commit_log.proofs.DeltaBytes.{Takes, bytes_err, delta-again, done, one_delta}
use Rattle.commit_log.proofs.Fits.{change_fits, index_below}
use Rattle.commit_log.proofs.Following.{change_follows}

-- ---- the delta to a newer bitmap

delta_fits : (n from : ℕ) (old : PrunedBits) (to : ℕ) (new : PrunedBits) → IsWidth n → IsStep n from old to new → FitsDelta n (delta_between n from old to new)
delta_fits n from old to new width step = record {
  number = omega (arith, step.order, step.unreserved);
  len = step.old_len;
  pruned = omega (arith, index_below n old.pruned width.positive, step.old_len);
  replaced_digest = digest-lt (replaced n old (listed n new (changed n old new)));
  change = change_fits n to old new width.positive step.new_len (omega (arith, step.unreserved));
}

next_number : (from to : ℕ) (last : Option ℕ) → last ≡ Some from → from < to → to < 2 ^ 64 - 1 → commit_error last to ≡ None
next_number from to last is order small =
    rw (is, ne_eqb to (2 ^ 64 - 1) (λ e. absurd (omega (arith, e, small))), lt-leb to from order) refl

pub newer_made : (n from to : ℕ) (s : Kept) (new : PrunedBits) → IsWidth n → s.last ≡ Some from → IsStep n from s.current to new
    → Brings n (encode_delta n (delta_between n from s.current to new)) s (committed s to new)
newer_made n from to s new width last step =
    let is : applied n s.current (change_to n to s.current new) ≡ new = applied_change n to s.current new width.positive in
    record {
      delta = delta_between n from s.current to new;
      fits = delta_fits n from s.current to new width step;
      encoded = refl;
      starts = record { number = last; len = refl; pruned = refl; replaced_bytes = refl };
      accepted = (next_number from to s.last last step.order step.unreserved, change_follows n to s.current new width.positive step.rises);
      state = λ i. record { current = sym is i; history = s.history ++ (to, sym is i) ∷ []; last = Some to };
    }

-- ---- one delta, one state

pub same_state : (n : ℕ) (bytes : List ℕ) (s t u : Kept) → n < 2 ^ 64 → Brings n bytes s t → Brings n bytes s u → t ≡ u
same_state n bytes s t u small b c =
    let one : b.delta ≡ c.delta = one_delta n b.delta c.delta small b.fits c.fits (sym b.encoded ∙ c.encoded) in
    b.state ∙ ap (λ (d : Delta). after n s (Commit d.change)) one ∙ sym c.state

-- ---- what brings a state to another is refused by nothing but out of memory

no_error : (n : ℕ) (s : Kept) (bytes : List ℕ) (t : Kept) (e : DeltaError) → n < 2 ^ 64 → Brings n bytes s t → decode_delta n bytes ≡ Err e → ⊥
no_error n s bytes t e small b h = not_both b.delta e (sym (delta-again n b.delta b.fits small) ∙ ap (decode_delta n) (sym b.encoded) ∙ h)
  where
    not_both : (d : Delta) (f : DeltaError) → done d ≡ Err f → ⊥
    not_both d f g = absurd cc

not_refused : (n : ℕ) (s : Kept) (d : Delta) (e : EntryError) → Accepts n s (Commit d.change) → IsChangeError n s.current s.last d.change e → ⊥
not_refused n s d reasons.Number a f = f a.0
not_refused n s d reasons.Length a f = f.1 a.1.extent
not_refused n s d reasons.Chunks a f = f.2 a.1.changed
not_refused n s d reasons.NoSuchCommit a f = f
not_refused n s d (reasons.Decode e) a f = f

pub only_memory : (n : ℕ) (s : Kept) (bytes : List ℕ) (t : Kept) (e : DeltaError) → n < 2 ^ 64 → Brings n bytes s t → IsDeltaError n s bytes e → e ≡ errors.Memory alloc_error
only_memory n s bytes t errors.Short small b h = absurd (no_error n s bytes t errors.Short small b h)
only_memory n s bytes t errors.NotADelta small b h = absurd (no_error n s bytes t errors.NotADelta small b h)
only_memory n s bytes t (errors.Version v) small b h = absurd (no_error n s bytes t (errors.Version v) small b h)
only_memory n s bytes t errors.BadDigest small b h = absurd (no_error n s bytes t errors.BadDigest small b h)
only_memory n s bytes t (errors.Width w) small b h = absurd (no_error n s bytes t (errors.Width w) small b h)
only_memory n s bytes t errors.NotAtBase small b h =
    let one : b.delta ≡ h.delta = one_delta n b.delta h.delta small b.fits h.fits (sym b.encoded ∙ h.encoded) in
    absurd (h.holds (subst (StartsAt n s) one b.starts))
only_memory n s bytes t (errors.Change e) small b h =
    let one : b.delta ≡ h.delta = one_delta n b.delta h.delta small b.fits h.fits (sym b.encoded ∙ h.encoded) in
    absurd (not_refused n s h.delta e (subst (λ (d : Delta). Accepts n s (Commit d.change)) one b.accepted) h.holds.1)
only_memory n s bytes t (errors.Memory e) small b h = refl

-- ---- what `apply_delta` returns

pub read_error : (n : ℕ) (s : Kept) (bytes : List ℕ) (e : DeltaError) → decode_delta n bytes ≡ Err e → IsDeltaError n s bytes e
read_error n s bytes errors.Short h = h
read_error n s bytes errors.NotADelta h = h
read_error n s bytes (errors.Version v) h = h
read_error n s bytes errors.BadDigest h = h
read_error n s bytes (errors.Width w) h = h
read_error n s bytes errors.NotAtBase h = absurd (bytes_err n bytes errors.NotAtBase h)
read_error n s bytes (errors.Change e) h = absurd (bytes_err n bytes (errors.Change e) h)
read_error n s bytes (errors.Memory e) h = absurd (bytes_err n bytes (errors.Memory e) h)

-- a delta that starts at a state which does not accept its change
pub change_error : (n : ℕ) (s : Kept) (bytes : List ℕ) (d : Delta) (e : EntryError) → Takes n bytes d → StartsAt n s d → IsChangeError n s.current s.last d.change e → IsDeltaError n s bytes (errors.Change e)
change_error n s bytes d e t starts h = record { delta = d; fits = t.fits; encoded = t.encoded; holds = (starts, h) }

module _ (n : ℕ) (s : Kept) (bytes : List ℕ) (width : IsWidth n) where
  brings_newer : (from to : ℕ) (new : PrunedBits) → IsStep n from s.current to new → s.last ≡ Some from → bytes ≡ encode_delta n (delta_between n from s.current to new) → Brings n bytes s (committed s to new)
  brings_newer from to new step last is = subst (λ (x : List ℕ). Brings n x s (committed s to new)) (sym is) (newer_made n from to s new width last step)

  fits_64 : n < 2 ^ 64
  fits_64 = omega (arith, width.fits)

  pub newer_is : (t : Kept) → Brings n bytes s t → (from to : ℕ) (new : PrunedBits) → IsStep n from s.current to new → s.last ≡ Some from
      → bytes ≡ encode_delta n (delta_between n from s.current to new) → t ≡ committed s to new
  newer_is t b from to new step last is = same_state n bytes s t (committed s to new) fits_64 b (brings_newer from to new step last is)

  pub complete_is : (e : DeltaError) → IsDeltaError n s bytes e → (t : Kept) → Brings n bytes s t → e ≡ errors.Memory alloc_error
  complete_is e h t b = only_memory n s bytes t e fits_64 b h

  pub newer_fails : (e : DeltaError) → IsDeltaError n s bytes e → (from to : ℕ) (new : PrunedBits) → IsStep n from s.current to new → s.last ≡ Some from
      → bytes ≡ encode_delta n (delta_between n from s.current to new) → e ≡ errors.Memory alloc_error
  newer_fails e h from to new step last is = complete_is e h (committed s to new) (brings_newer from to new step last is)

-- the delta between two kept states
pub delta_there : (n : ℕ) (history : List (ℕ × PrunedBits)) (from to : ℕ) (old new : PrunedBits) → from < to → kept_under history from ≡ Some old → kept_under history to ≡ Some new
    → delta_of n history from to ≡ Some (encode_delta n (delta_between n from old to new))
delta_there n history from to old new order e f = rw (lt-ltb from to order, e, f) refl
