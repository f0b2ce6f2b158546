-- A loaded word, and the bits of the bitmap.
use Rattle.std.proofs.Common.{◌≡◌, ◌≢◌, eqb, ℕ, ◌+◌, ◌-◌, ◌*◌, ◌/◌, ◌%◌, ◌<◌, ◌≤◌, inl, inr, ⊎_elim, min, Bool, true, false, List, [], ◌∷◌, ◌++◌, length, arith, ap, sym, ◌∙◌}
use Rattle.std.proofs.lemmas.Bool.{cases_lt, cases_eq}
use Rattle.std.proofs.lemmas.List.{append-nil}
use Rattle.std.proofs.lemmas.Nat.{div-add-mod'}
use Rattle.bitmap_bytes.specs.Words.{starts_word, next_word, word_start, IsCut}
use Rattle.bitmap_bytes.specs.Bits.{chunks_bit}
use Rattle.bitmap_core.specs.Meaning.{Meaning, ShowsChunk, seen_as, word_bit, ones_between, left_from}
use Rattle.std.specs.Int.{bit_at}
use Rattle.bitmap_bytes.specs.Chunk.{chunk_bit, is_wanted}
use Rattle.bitmap_bytes.proofs.Bytes.Bits.{bit_of_zero_byte}
use Rattle.bitmap_core.proofs.Lists.SetPositions.{ones_between-append, ones_between-same, ones_between-false, ones_between-none, ones_between-first}
use Rattle.bitmap_bytes.proofs.Words.Starts.{Follows, follows}

-- ---- a word that was loaded

-- the word at base has the wanted bits of the bytes from lo up to end, and no others
pub record IsLoaded (n base lo end : ℕ) (wanted : Bool) (bytes : List ℕ) (word : ℕ) : Type 0 where
  pub inside : (i : ℕ) → i < 64 → lo ≤ base + i → base + i < end → base % (8 * n) + i < 8 * n
      → eqb (bit_at word i) 1 ≡ is_wanted wanted (chunk_bit n bytes (base % (8 * n) + i))
  pub before : (i : ℕ) → i < 64 → base + i < lo → eqb (bit_at word i) 1 ≡ false
  pub past_chunk : (i : ℕ) → i < 64 → 8 * n ≤ base % (8 * n) + i → eqb (bit_at word i) 1 ≡ false
  pub past_end : (i : ℕ) → i < 64 → end ≤ base + i → eqb (bit_at word i) 1 ≡ false

module _ (n : ℕ) (m : Meaning) (base lo end : ℕ) (wanted : Bool) (bytes : List ℕ) (word : ℕ)
    (p : 0 < n) (start : starts_word n base ≡ true) (from : base ≤ lo) (to : lo < end) (len : end ≤ m.len)
    (near : lo < next_word n base) (shown : ShowsChunk n m (base / (8 * n)) bytes) (loaded : IsLoaded n base lo end wanted bytes word) where
  abbrev next : ℕ
  next = next_word n base

  abbrev top : ℕ
  top = min next end

  f : Follows n base next
  f = follows n base p start

  same : (k : ℕ) → lo ≤ k → k < top → word_bit base word k ≡ (seen_as wanted m).bit k
  same k a b =
      let fo = f in
      let l : k - base < 64 = omega (arith, fo.near) in
      let e : base + (k - base) ≡ k = omega arith in
      let d : 8 * n * (base / (8 * n)) + (base % (8 * n) + (k - base)) ≡ k = omega (arith, div-add-mod' base (8 * n)) in
      loaded.inside (k - base) l (omega arith) (omega arith) (omega (arith, fo.in_chunk))
      ∙ ap (is_wanted wanted) (shown (base % (8 * n) + (k - base)) (omega (arith, fo.in_chunk)) (omega arith))
      ∙ ap (seen_as wanted m).bit d

  past : (k : ℕ) → top ≤ k → k < base + 64 → base ≤ k → word_bit base word k ≡ false
  past k a b c =
      let fo = f in
      ⊎_elim
      (λ (lt : k < end). loaded.past_chunk (k - base) (omega arith) (fo.past (k - base) (omega arith) (omega arith)))
      (λ (ge : end ≤ k). loaded.past_end (k - base) (omega arith) (omega arith))
      (cases_lt k end)

  in_word : ones_between (word_bit base word) base (base + 64) ≡ ones_between (seen_as wanted m).bit lo top
  in_word =
      let fo = f in
      let w : ℕ → Bool = word_bit base word in
      let c : lo ≤ top = omega arith in
      let d : top ≤ base + 64 = omega (arith, fo.near) in
      let one : ones_between w base (base + 64) ≡ ones_between w base lo ++ ones_between w lo (base + 64) =
      ones_between-append w base lo (base + 64) from (omega arith) in
      let none : ones_between w base lo ≡ [] = ones_between-false w base lo (λ k a b. loaded.before (k - base) (omega arith) (omega arith)) in
      let two : ones_between w lo (base + 64) ≡ ones_between w lo top ++ ones_between w top (base + 64) =
      ones_between-append w lo top (base + 64) c d in
      let none2 : ones_between w top (base + 64) ≡ [] = ones_between-false w top (base + 64) (λ k a b. past k a b (omega arith)) in
      let three : ones_between w lo top ≡ ones_between (seen_as wanted m).bit lo top = ones_between-same w (seen_as wanted m).bit lo top same in
      rw (one, none, two, none2, three) (append-nil (ones_between (seen_as wanted m).bit lo top))

  -- a load leaves the same positions to be yielded
  pub left_loaded : left_from (seen_as wanted m) base word top end ≡ ones_between (seen_as wanted m).bit lo end
  left_loaded =
      ap (λ (l : List ℕ). l ++ ones_between (seen_as wanted m).bit top end) in_word
      ∙ sym (ones_between-append (seen_as wanted m).bit lo top end (omega arith) (omega arith))

-- ---- a word with no bit left

left_empty : (m : Meaning) (base word next end : ℕ) → word ≡ 0 → left_from m base word next end ≡ ones_between m.bit next end
left_empty m base word next end e =
    let none : ones_between (word_bit base word) base (base + 64) ≡ [] =
    ones_between-false (word_bit base word) base (base + 64) (λ k a b. bit_of_zero_byte word (k - base) e) in
    rw none

pub left_none : (m : Meaning) (base word next end : ℕ) → word ≡ 0 → end ≤ next → left_from m base word next end ≡ []
left_none m base word next end e h = left_empty m base word next end e ∙ ones_between-none m.bit next end h

-- a word without a bit has no bit at or past any position
pub empty_cut : (base word end : ℕ) → word ≡ 0 → IsCut base word end
empty_cut base word end e i h a = bit_of_zero_byte word i e

-- a cursor without a bit left may be anywhere before `next`
pub left_same : (m : Meaning) (base word next at end : ℕ) → word ≡ 0 → next ≡ at → left_from m base word next end ≡ ones_between m.bit at end
left_same m base word next at end e q = left_empty m base word next end e ∙ ap (λ (k : ℕ). ones_between m.bit k end) q

-- going on after a word without a bit leaves the same positions to be yielded
pub left_moved : (m : Meaning) (base word next end : ℕ) (new old : List ℕ) → word ≡ 0 → new ≡ ones_between m.bit next end
    → left_from m base word next end ≡ old → new ≡ old
left_moved m base word next end new old z e f = e ∙ sym (left_empty m base word next end z) ∙ f

-- ---- a word in place

-- the first words in place from position `at` on have no wanted bit, and `word` has the wanted bits of the word after them
pub record IsFirstWanted (m : Meaning) (wanted : Bool) (at end passed word : ℕ) (run : List (List ℕ)) : Type 0 where
  pub within : passed ≤ length run
  pub inside : at + 64 * length run ≤ end
  pub shown : (i : ℕ) → i < 64 * length run → chunks_bit 8 run i ≡ m.bit (at + i)
  pub none : (i : ℕ) → i < 64 * passed → is_wanted wanted (chunks_bit 8 run i) ≡ false
  pub bits : passed < length run → (t : ℕ) → t < 64 → eqb (bit_at word t) 1 ≡ is_wanted wanted (chunks_bit 8 run (64 * passed + t))

module _ (m : Meaning) (wanted : Bool) (at end passed word : ℕ) (run : List (List ℕ)) (f : IsFirstWanted m wanted at end passed word run) where
  passed_none : ones_between (seen_as wanted m).bit at (at + 64 * passed) ≡ []
  passed_none =
      ones_between-false (seen_as wanted m).bit at (at + 64 * passed) (λ k a b.
      let i : ℕ = k - at in
      let w = f.within in
      let e : at + i ≡ k = omega arith in
      ap (is_wanted wanted) (sym (f.shown i (omega arith) ∙ ap m.bit e)) ∙ f.none i (omega arith))

  -- the positions left do not change if the words without a wanted bit are passed
  pub left_passed : ones_between (seen_as wanted m).bit (at + 64 * passed) end ≡ ones_between (seen_as wanted m).bit at end
  left_passed =
      let w = f.within in
      let s = f.inside in
      sym (ones_between-append (seen_as wanted m).bit at (at + 64 * passed) end (omega arith) (omega arith)
      ∙ ap (λ (l : List ℕ). l ++ ones_between (seen_as wanted m).bit (at + 64 * passed) end) passed_none)

  -- nor do they if the next word is taken
  pub left_in_place : passed < length run
      → left_from (seen_as wanted m) (at + 64 * passed) word (at + 64 * passed + 64) end ≡ ones_between (seen_as wanted m).bit at end
  left_in_place h =
      let s = f.inside in
      let base : ℕ = at + 64 * passed in
      ap (λ (l : List ℕ). l ++ ones_between (seen_as wanted m).bit (base + 64) end)
      (ones_between-same (word_bit base word) (seen_as wanted m).bit base (base + 64) (λ k a b.
      let t : ℕ = k - base in
      let e : at + (64 * passed + t) ≡ k = omega arith in
      f.bits h t (omega arith) ∙ ap (is_wanted wanted) (f.shown (64 * passed + t) (omega arith) ∙ ap m.bit e)))
      ∙ sym (ones_between-append (seen_as wanted m).bit base (base + 64) end (omega arith) (omega arith))
      ∙ left_passed

-- ---- the first word of a range

-- a word without its bits below k
pub record IsMasked (word masked k : ℕ) : Type 0 where
  pub kept : (i : ℕ) → i < 64 → k ≤ i → eqb (bit_at masked i) 1 ≡ eqb (bit_at word i) 1
  pub cut : (i : ℕ) → i < k → eqb (bit_at masked i) 1 ≡ false

masked_false : (word masked k i : ℕ) → IsMasked word masked k → i < 64 → eqb (bit_at word i) 1 ≡ false → eqb (bit_at masked i) 1 ≡ false
masked_false word masked k i m h e = ⊎_elim (λ (lt : i < k). m.cut i lt) (λ (ge : k ≤ i). m.kept i h ge ∙ e) (cases_lt i k)

pub masked_cut : (word masked k base end : ℕ) → IsMasked word masked k → IsCut base word end → IsCut base masked end
masked_cut word masked k base end m c i h a = masked_false word masked k i m h (c i h a)

-- the first word without its bits before the range
pub first_loaded : (n first end : ℕ) (wanted : Bool) (bytes : List ℕ) (word masked : ℕ) → 0 < n →
    ((i : ℕ) → i < 64 → word_start n first + i < end → word_start n first % (8 * n) + i < 8 * n
    → eqb (bit_at word i) 1 ≡ is_wanted wanted (chunk_bit n bytes (word_start n first % (8 * n) + i))) →
    ((i : ℕ) → i < 64 → 8 * n ≤ word_start n first % (8 * n) + i → eqb (bit_at word i) 1 ≡ false) →
    IsCut (word_start n first) word end →
    IsMasked word masked (first - word_start n first) →
    IsLoaded n (word_start n first) first end wanted bytes masked
first_loaded n first end wanted bytes word masked p inside past_chunk past_end m =
    let k : ℕ = first - word_start n first in
    let l : first % (8 * n) ≤ first = omega (arith, div-add-mod' first (8 * n)) in
    record {
      inside = λ i h a b c. m.kept i h (omega arith) ∙ inside i h b c;
      before = λ i h a. m.cut i (omega arith);
      past_chunk = λ i h a. masked_false word masked k i m h (past_chunk i h a);
      past_end = λ i h a. masked_false word masked k i m h (past_end i h a);
    }

-- ---- the lowest bit of a word

-- the effect of `take_lowest` on a word
pub record IsLowestTaken (old new place : ℕ) : Type 0 where
  pub within : place < 64
  pub set : eqb (bit_at old place) 1 ≡ true
  pub lowest : (i : ℕ) → i < place → eqb (bit_at old i) 1 ≡ false
  pub cleared : eqb (bit_at new place) 1 ≡ false
  pub others : (i : ℕ) → i < 64 → i ≢ place → eqb (bit_at new i) 1 ≡ eqb (bit_at old i) 1

module _ (old new place : ℕ) (t : IsLowestTaken old new place) where
  taken_false : (i : ℕ) → i < 64 → eqb (bit_at old i) 1 ≡ false → eqb (bit_at new i) 1 ≡ false
  taken_false i h e = elim (cases_eq i place) [
    | inl q ↦ ap (λ (k : ℕ). eqb (bit_at new k) 1) q ∙ t.cleared
    | inr d ↦ t.others i h d ∙ e
  ]

  taken_first : (base : ℕ) → ones_between (word_bit base old) base (base + 64) ≡ (base + place) ∷ ones_between (word_bit base new) base (base + 64)
  taken_first base =
      let w = t.within in
      let at : base + place - base ≡ place = omega arith in
      ones_between-first (word_bit base old) (word_bit base new) base (base + place) (base + 64) (omega arith) (omega arith)
      (rw at t.set)
      (λ k a b. t.lowest (k - base) (omega arith))
      (λ k a b. elim (cases_lt k (base + place)) [
        | inl lt ↦ taken_false (k - base) (omega arith) (t.lowest (k - base) (omega arith))
        | inr ge ↦ let e : k - base ≡ place = omega arith in rw e t.cleared
      ])
      (λ k a b. sym (t.others (k - base) (omega arith) (omega arith)))

  -- the lowest bit of the word is the first of the positions to be yielded
  pub left_taken : (m : Meaning) (base next end : ℕ) (before left : List ℕ) → left_from m base old next end ≡ before
      → before ≡ left
      → left ≡ (base + place) ∷ left_from m base new next end
  left_taken m base next end before left e f = sym f ∙ sym e ∙ ap (λ (l : List ℕ). l ++ ones_between m.bit next end) (taken_first base)
