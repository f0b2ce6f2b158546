-- The first bytes of a log, as what a crash may leave of it.
use Rattle.std.proofs.Common.{◌≡◌, inl, ℕ, ◌+◌, ◌-◌, List, [], ◌++◌, length, map, take, drop, refl, sym, ap, subst, ◌∙◌, append_assoc, arith}
use Rattle.std.proofs.Math.Seq.{take-append-add}
use Rattle.std.proofs.lemmas.List.{length-append, take-map, take_all}
use Rattle.log_frames.specs.Frames.{frame_at, frames, next, place_after, whole_in}
use Rattle.log_frames.specs.Header.{first_place}
use Rattle.log_frames.specs.declared.frame.Place.{Place}
use Rattle.log_frames.specs.declared.frame.Stop.TheVariants.{Torn}
use Rattle.log_frames.proofs.Frames.{cut}
use Rattle.commit_log.specs.Base.{Base, base_kept, encode_base}
use Rattle.commit_log.specs.Entries.{Entry, encode_entry}
use Rattle.commit_log.specs.Kept.{Kept}
use Rattle.commit_log.specs.Logs.{entries_in, log_bytes, place_of}
use Rattle.commit_log.specs.Recovered.{IsPrefixOf}
use Rattle.commit_log.proofs.Appended.{IsLog-take}
use Rattle.commit_log.proofs.LogBytes.{entry_bodies, log_parts}
use Rattle.log_store.specs.Gate.{IsUnfinished}
use Rattle.log_store.specs.Opened.{IsOpenedWith, IsTornAfter, OpensTo}
use Rattle.log_store.specs.Store.{IsStored}
use Rattle.log_store.specs.declared.device.Device.{Ghosts}
use Rattle.log_store.specs.declared.stored_log.StoredLog.{StoredLog}

-- the entries that are whole in the first bytes of a log, and then a rest, with which no whole frame begins
pub prefix_torn : (n : ℕ) (base : Base) (entries : List Entry) (m : ℕ) (bytes : List ℕ) → IsPrefixOf n base entries m bytes → IsTornAfter n base (entries_in m n base entries) bytes
prefix_torn n base entries m bytes h =
    let start : Place = next (first_place n) (encode_base n base) in
    let later : List (List ℕ) = map encode_entry entries in
    let before : List ℕ = log_bytes n base [] in
    let k : ℕ = m - length before in
    let w : ℕ = whole_in k later in
    let whole : List Entry = take w entries in
    let size : length (log_bytes n base entries) ≡ length before + length (frames start later) = ap length (log_parts n base entries) ∙ length-append before (frames start later) in
    let c = cut start later k (entry_bodies n (base_kept base) entries h.log.goes_on) (omega (arith, size, h.within, h.has_base)) in
    let rest : List ℕ = drop (length (frames start (take w later))) (take k (frames start later)) in
    let is_at : m ≡ length before + k = omega (arith, h.has_base) in
    let every : take (length whole) whole ≡ whole = take_all (length whole) whole (omega arith) in
    let is : bytes ≡ log_bytes n base whole ++ rest = h.is
    ∙ ap (take m) (log_parts n base entries)
    ∙ ap (λ (i : ℕ). take i (before ++ frames start later)) is_at
    ∙ take-append-add before (frames start later) k
    ∙ ap (λ (x : List ℕ). before ++ x) c.whole
    ∙ sym (append_assoc before (frames start (take w later)) rest)
    ∙ ap (λ (bs : List (List ℕ)). (before ++ frames start bs) ++ rest) (take-map encode_entry w entries)
    ∙ ap (λ (x : List ℕ). x ++ rest) (sym (log_parts n base whole)) in
    let stops : IsUnfinished (place_of n base whole) rest =
    record { why = Torn; stop = ap (λ (bs : List (List ℕ)). frame_at (place_after start bs) rest) (sym (take-map encode_entry w entries)) ∙ c.stop; cause = inl refl } in (
      IsLog-take n base entries w h.log,
      record {
        count = length whole;
        least_is = omega arith;
        within = omega arith;
        rest = rest;
        is = is ∙ ap (λ (es : List Entry). log_bytes n base es ++ rest) (sym every);
        unfinished = subst (λ (es : List Entry). IsUnfinished (place_of n base es) rest) (sym every) stops;
      },
    )

-- a log that is opened with all entries of a log has these
pub opens_with : {D : Type 0} (n : ℕ) (g : Ghosts D) (base : Base) (entries : List Entry) (state : Kept) (log : StoredLog D) → OpensTo n g base entries (length entries) state log → IsOpenedWith n g base entries state log
opens_with n g base entries state log h =
    let size : h.count ≡ length entries = omega (arith, h.least_is, h.within) in
    let every : take h.count entries ≡ entries = take_all h.count entries (omega (arith, size)) in
    subst (λ (k : ℕ). IsStored n g base entries k state log) size (subst (λ (es : List Entry). IsStored n g base es h.count state log) every h.stored)
