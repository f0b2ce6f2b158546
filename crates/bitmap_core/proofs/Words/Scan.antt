-- The words of a range that were loaded, and how many there are.
use Rattle.std.proofs.Common.{◌≡◌, ℕ, zero, suc, ◌+◌, ◌*◌, ◌/◌, ◌%◌, ◌^◌, ◌<◌, ◌≤◌, ⊎_elim, min, Bool, true, List, [], ◌∷◌, length, get_or, refl, arith, sym, ap, subst, ◌∙◌}
use Rattle.std.proofs.lemmas.Bool.{cases_lt, lt-ltb, le-ltb, eq-eqb}
use Rattle.std.proofs.lemmas.Nat.{mod_below}
use Rattle.std.proofs.lemmas.List.{length-append}
use Rattle.bitmap_bytes.specs.Bits.{chunks_bit}
use Rattle.bitmap_bytes.specs.Words.{starts_word, next_word, word_start}
use Rattle.bitmap_core.specs.Meaning.{Meaning, IsLawful, ShowsChunk, words_between, ones_between, run_end, IsScan}
use Rattle.bitmap_core.proofs.Lists.SetPositions.{ones_between-append, ones_between-hit, ones_between-length}
use Rattle.bitmap_core.proofs.Slices.{part_bit}
use Rattle.bitmap_bytes.proofs.Words.Starts.{Stays, Leaves, next_cases, Follows, follows, start_aligned, start_of}

-- ---- the count of words

-- the words of a range, counted by where they begin
words_from : (n k end : ℕ) → k < end → words_between n k end ≡ length (ones_between (starts_word n) (word_start n k) end)
words_from n k end h = let e = lt-ltb k end h in rw e refl

words_none : (n k end : ℕ) → end ≤ k → words_between n k end ≡ 0
words_none n k end h = let e = le-ltb k end h in rw e refl

words_between-le : (n lo hi : ℕ) → words_between n lo hi ≤ hi
words_between-le n lo hi =
    ⊎_elim
    (λ (lt : lo < hi). omega (arith, words_from n lo hi lt, ones_between-length (starts_word n) (word_start n lo) hi))
    (λ (ge : hi ≤ lo). omega (arith, words_none n lo hi ge))
    (cases_lt lo hi)

-- from the word of a later position on there are fewer words
words_fewer : (n k b end : ℕ) → 0 < n → k < end → (b < end → word_start n k < word_start n b) → 1 + words_between n b end ≤ words_between n k end
words_fewer n k b end p h w =
    let s : ℕ → Bool = starts_word n in
    let at : ℕ = word_start n k in
    let hit : ones_between s at end ≡ at ∷ ones_between s (at + 1) end = ones_between-hit s at end (omega arith) (start_of n k p) in
    let all : words_between n k end ≡ suc (length (ones_between s (at + 1) end)) = words_from n k end h ∙ ap length hit in
    ⊎_elim
    (λ (lt : b < end).
    let later = w lt in
    let rest : length (ones_between s (at + 1) end) ≡ length (ones_between s (at + 1) (word_start n b)) + length (ones_between s (word_start n b) end) =
    ap length (ones_between-append s (at + 1) (word_start n b) end (omega arith) (omega arith))
    ∙ length-append (ones_between s (at + 1) (word_start n b)) (ones_between s (word_start n b) end) in
    omega (arith, all, rest, words_from n b end lt))
    (λ (ge : end ≤ b). omega (arith, all, words_none n b end ge))
    (cases_lt b end)

-- no word has more than 64 positions
words_in_place : (n k d end : ℕ) → 0 < n → k < end → 64 ≤ d → 1 + words_between n (k + d) end ≤ words_between n k end
words_in_place n k d end p h w = words_fewer n k (k + d) end p h (λ _. omega (arith, mod_below ((k + d) % (8 * n)) 64 (omega arith)))

-- the words of a range after the word of its first position
pub words_after : (n k base next end : ℕ) → 0 < n → k < end → base ≡ word_start n k → next ≡ min (next_word n base) end
    → 1 + words_between n next end ≤ words_between n k end
words_after n k base next end p h e is =
    let start : starts_word n base ≡ true = ap (starts_word n) e ∙ start_of n k p in
    let f : Follows n base (next_word n base) = follows n base p start in
    words_fewer n k next end p h (λ lt.
    let q : next_word n base ≡ next = omega arith in
    let a : starts_word n next ≡ true = ap (starts_word n) (sym q) ∙ f.starts in
    omega (arith, f.after, e, start_aligned n next a))

-- ---- a word of a copied chunk

-- the cursor after a word of a copied chunk, with no words in place
pub copied_scan : (n : ℕ) (m : Meaning) (base next end : ℕ) (run : List (List ℕ)) (chunk : List ℕ) (loads first : ℕ) → IsLawful n m → end ≤ m.len
    → length run ≡ 0 → starts_word n base ≡ true → base < end → 8 * n * m.pruned ≤ base → next ≡ min (next_word n base) end
    → ShowsChunk n m (base / (8 * n)) chunk → loads + words_between n next end ≤ words_between n first end → base + 64 ≤ first + 64 * loads
    → IsScan n m next end run chunk loads first
copied_scan n m base next end run chunk loads first lawful within none start below retained is shown counted covered =
    let w : ℕ = 8 * n in
    let f : Follows n base (next_word n base) = follows n base lawful.width.positive start in
    let at : run_end next run ≡ next = omega arith in
    record {
      lawful = lawful;
      within = within;
      retained = λ _. omega (arith, f.after);
      inside = omega arith;
      bits = λ i h. absurd (omega arith);
      aligned = λ h.
          let q : run_end next run ≡ next_word n base = omega arith in
          ap (starts_word n) q ∙ f.starts;
      shown = λ h ne.
          let q : run_end next run ≡ next_word n base = omega arith in
          ⊎_elim
          (λ (s : Stays w base (next_word n base)). subst (λ c. ShowsChunk n m c chunk) (sym (ap (λ k. k / w) q ∙ s.chunk)) shown)
          (λ (s : Leaves w base (next_word n base)). absurd (ne (ap (λ k. k % w) q ∙ s.within)))
          (next_cases n base lawful.width.positive);
      counted = counted;
      covered = omega (arith, f.near);
    }

-- the conditions of a load at `next`, and its effect
pub record IsLoad (n : ℕ) (m : Meaning) (next end : ℕ) (run : List (List ℕ)) (chunk : List ℕ) (loads first : ℕ) : Type 0 where
  pub starts : starts_word n next ≡ true
  pub near : next < next_word n next
  pub retained : 8 * n * m.pruned ≤ next
  pub below : next < m.len
  pub shown : (next % (8 * n) ≡ 0 → ⊥) → ShowsChunk n m (next / (8 * n)) chunk
  pub space : loads + 1 < 2 ^ 64
  pub scan : (bytes : List ℕ) (after : ℕ) → ShowsChunk n m (next / (8 * n)) bytes → after ≡ min (next_word n next) end
      → IsScan n m after end run bytes (loads + 1) first

-- words in place that are used up
pub used_scan : {n : ℕ} {m : Meaning} {next end : ℕ} {chunk : List ℕ} {loads first : ℕ} (run : List (List ℕ)) → length run ≡ 0
    → IsScan n m next end run chunk loads first → IsScan n m next end [] chunk loads first
used_scan [] e scan = scan
used_scan (word ∷ run) e scan = absurd (omega arith)

-- one more load is counted
pub load_fits : {n : ℕ} {m : Meaning} {next end : ℕ} {run : List (List ℕ)} {chunk : List ℕ} {loads first : ℕ} → IsScan n m next end run chunk loads first
    → next < end → end < 2 ^ 64 → loads + 1 < 2 ^ 64
load_fits {n} {m} {next} {end} {run} {chunk} {loads} {first} scan below fits =
    omega (arith, scan.counted, words_in_place n next 64 end scan.lawful.width.positive below (omega arith), words_between-le n first end)

pub load : {n : ℕ} {m : Meaning} {next end : ℕ} {run : List (List ℕ)} {chunk : List ℕ} {loads first : ℕ} → IsScan n m next end run chunk loads first
    → length run ≡ 0 → next < end → end < 2 ^ 64
    → IsLoad n m next end run chunk loads first
load {n} {m} {next} {end} {run} {chunk} {loads} {first} scan none below fits =
    let w : ℕ = 8 * n in
    let p = scan.lawful.width.positive in
    let at : run_end next run ≡ next = omega arith in
    let start : starts_word n next ≡ true = sym (ap (starts_word n) at) ∙ scan.aligned (omega arith) in
    let f : Follows n next (next_word n next) = follows n next p start in
    record {
      starts = start;
      near = f.after;
      retained = scan.retained below;
      below = omega (arith, scan.within);
      shown = λ ne. subst (λ k. ShowsChunk n m (k / w) chunk) at (scan.shown (omega arith) (λ z. ne (sym (ap (λ k. k % w) at) ∙ z)));
      space = load_fits scan below fits;
      scan = λ bytes after shown is.
          copied_scan n m next after end run bytes (loads + 1) first scan.lawful scan.within none start below (scan.retained below) is shown
          (omega (arith, scan.counted, words_after n next next after end p below (omega (arith, start_aligned n next start)) is))
          (omega (arith, scan.covered));
    }

-- ---- words in place

-- each of the first k words of 64 bits from `next` on begins another word, if it begins before the end
words_passed : (n next k end : ℕ) → 0 < n → next + 64 * k ≤ end → k + words_between n (next + 64 * k) end ≤ words_between n next end
words_passed n next zero end p h =
    let q : next + 64 * zero ≡ next = omega arith in
    omega (arith, ap (λ c. words_between n c end) q)
words_passed n next (suc k) end p h =
    let at : ℕ = next + 64 * k in
    let q : at + 64 ≡ next + 64 * suc k = omega arith in
    omega (arith, words_passed n next k end p (omega arith), words_in_place n at 64 end p (omega arith) (omega arith), ap (λ c. words_between n c end) q)

-- the number of loads fits if each word in place is loaded
pub loads_fit : {n : ℕ} {m : Meaning} {next end : ℕ} {run : List (List ℕ)} {chunk : List ℕ} {loads first : ℕ} → IsScan n m next end run chunk loads first
    → end < 2 ^ 64 → loads + length run < 2 ^ 64
loads_fit {n} {m} {next} {end} {run} {chunk} {loads} {first} scan fits =
    let inside = scan.inside in
    omega (arith, scan.counted, words_passed n next (length run) end scan.lawful.width.positive (omega arith), words_between-le n first end)

-- the cursor after the first k words in place, each of which is loaded once
pub dropped_scan : {n : ℕ} {m : Meaning} {next end : ℕ} {run : List (List ℕ)} {chunk : List ℕ} {loads first : ℕ} → IsScan n m next end run chunk loads first
    → (k after more : ℕ) (part : List (List ℕ)) → after ≡ next + 64 * k → more ≡ loads + k → k + length part ≡ length run
    → ((j : ℕ) → j < length part → get_or part j [] ≡ get_or run (k + j) [])
    → IsScan n m after end part chunk more first
dropped_scan {n} {m} {next} {end} {run} {chunk} {loads} {first} scan k after more part is loaded size items =
    let inside = scan.inside in
    let at : run_end after part ≡ run_end next run = omega arith in
    record {
      lawful = scan.lawful;
      within = scan.within;
      retained = λ h. omega (arith, scan.retained (omega arith));
      inside = omega arith;
      bits = λ i h.
          let q : next + (8 * 8 * k + i) ≡ after + i = omega arith in
          part_bit 8 k run part (omega arith) items i h ∙ scan.bits (8 * 8 * k + i) (omega arith) ∙ ap m.bit q;
      aligned = λ h. ap (starts_word n) at ∙ scan.aligned (omega arith);
      shown = λ h ne.
          subst (λ c. ShowsChunk n m (c / (8 * n)) chunk) (sym at) (scan.shown (omega arith) (λ z. ne (ap (λ c. c % (8 * n)) at ∙ z)));
      counted =
          let q : next + 64 * k ≡ after = omega arith in
          omega (
            arith,
            scan.counted,
            words_passed n next k end scan.lawful.width.positive (omega arith),
            ap (λ c. words_between n c end) q,
          );
      covered = omega (arith, scan.covered);
    }

-- the cursor with new words in place
pub run_scan : {n : ℕ} {m : Meaning} {next end : ℕ} {old : List (List ℕ)} {chunk : List ℕ} {loads first : ℕ} → IsScan n m next end old chunk loads first
    → (run : List (List ℕ)) → next < end → 0 < length run → run_end next run ≤ end → (0 < length run → run_end next run % (8 * n) ≡ 0)
    → ((i : ℕ) → i < 64 * length run → chunks_bit 8 run i ≡ m.bit (next + i))
    → IsScan n m next end run chunk loads first
run_scan {n} {m} {next} {end} {old} {chunk} {loads} {first} scan run below some inside whole bits = record {
  lawful = scan.lawful;
  within = scan.within;
  retained = scan.retained;
  inside = inside;
  bits = bits;
  aligned = λ h. let z = whole some in eq-eqb (run_end next run % (8 * n) % 64) 0 (ap (λ k. k % 64) z ∙ refl);
  shown = λ h ne. absurd (ne (whole some));
  counted = scan.counted;
  covered = scan.covered;
}

-- ---- an empty range

-- the cursor of an empty range
pub empty_scan : (n : ℕ) (m : Meaning) (end : ℕ) (run : List (List ℕ)) (chunk : List ℕ) (first : ℕ) → IsLawful n m → end ≤ m.len → length run ≡ 0 → end ≤ first
    → IsScan n m end end run chunk 0 first
empty_scan n m end run chunk first lawful within none past = record {
  lawful = lawful;
  within = within;
  retained = λ h. absurd (omega arith);
  inside = omega arith;
  bits = λ i h. absurd (omega arith);
  aligned = λ h. absurd (omega arith);
  shown = λ h. absurd (omega arith);
  counted = omega (arith, words_none n end end (omega arith));
  covered = omega arith;
}
