-- How many bits of a part of a chunk are set, word by word.
use Rattle.std.proofs.Common.{◌≡◌, ◌≢◌, ℕ, suc, zero, count_ones, min, max, ◌+◌, ◌-◌, ◌*◌, ◌/◌, ◌%◌, ◌^◌, ◌<◌, ◌≤◌, Bool, true, false, cond, eqb, List, inl, inr, sym, ap, ◌∙◌, refl, arith}
use Rattle.std.specs.Int.{bit_at}
use Rattle.std.specs.List.{count_by, range_with_len}
use Rattle.std.proofs.Math.Nat.{div-one, mod-eq_of_lt}
use Rattle.std.proofs.lemmas.Bool.{cases_lt, eq-eqb, false≢true}
use Rattle.std.proofs.lemmas.List.Sums.{sum_by-cons}
use Rattle.bitmap_bytes.proofs.Counting.Ones.{ones_from, ones_from_add, ones_from_le, ones_from_same, ones_bits}
use Rattle.bitmap_bytes.proofs.Counting.Places.{count_map, ones_from_clear}
use Rattle.bitmap_bytes.proofs.Bytes.Bits.{bit_of_zero_byte}
use Rattle.bitmap_bytes.specs.Chunk.{chunk_bit, chunk_bits, is_wanted, IsLastBelow, IsNth}
use Rattle.bitmap_bytes.specs.Words.{starts_word, IsCut, IsPart}

pub count_range : (f : ℕ → Bool) (a k : ℕ) → count_by f (range_with_len a k) ≡ ones_from f a k
count_range f a zero = refl
count_range f a (suc k) = sum_by-cons (λ i. cond (f i) 1 0) a (range_with_len (a + 1) k) ∙ ap (λ x. cond (f a) 1 0 + x) (count_range f (a + 1) k)

-- the number of ones of a number of 64 bits
pub ones_of_word : (w : ℕ) → w < 2 ^ 64 → count_ones w ≡ ones_from (λ t. eqb (bit_at w t) 1) 0 64
ones_of_word w h = let z : w / 2 ^ 0 ≡ w = div-one w in ap count_ones (sym z) ∙ ones_bits w 0 64 (rw z h)

-- the bits of a part of a word, up to a position in it
part_ones : (f : ℕ → Bool) (w base at to top : ℕ) → IsPart f base w at to → base ≤ at → at ≤ top → top ≤ to → top ≤ base + 64
    → ones_from (λ t. eqb (bit_at w t) 1) 0 (top - base) ≡ ones_from f at (top - at)
part_ones f w base at to top part h s l m =
    let g : ℕ → Bool = λ t. eqb (bit_at w t) 1 in
    let e : top - base ≡ (at - base) + (top - at) = omega arith in
    let none : ones_from g 0 (at - base) ≡ 0 = ones_from_clear g 0 (at - base) (λ t x. part.before (0 + t) (omega arith) (omega arith)) in
    let same : ones_from g (0 + (at - base)) (top - at) ≡ ones_from f at (top - at) =
    ones_from_same g f (0 + (at - base)) at (top - at) (λ t x.
    let d : base + (0 + (at - base) + t) ≡ at + t = omega arith in
    part.inside (0 + (at - base) + t) (omega arith) (omega arith) (omega arith) ∙ ap f d) in
    let all = ap (ones_from g 0) e ∙ ones_from_add g 0 (at - base) (top - at) in
    omega arith

-- the number of ones of a word that has the bits of f from `at` up to `to`, `to` excluded, and no others
pub counted_word : (f : ℕ → Bool) (w at to : ℕ) → w < 2 ^ 64 → at < to → IsPart f (at - at % 64) w at to
    → count_ones w ≡ ones_from f at (min (64 - at % 64) (to - at))
counted_word f w at to h l part =
    let g : ℕ → Bool = λ t. eqb (bit_at w t) 1 in
    let base : ℕ = at - at % 64 in
    let top : ℕ = min (base + 64) to in
    let e : 64 ≡ (top - base) + (64 - (top - base)) = omega arith in
    let all : ones_from g 0 64 ≡ ones_from g 0 (top - base) + ones_from g (0 + (top - base)) (64 - (top - base)) =
    ap (ones_from g 0) e ∙ ones_from_add g 0 (top - base) (64 - (top - base)) in
    let gone : ones_from g (0 + (top - base)) (64 - (top - base)) ≡ 0 =
    ones_from_clear g (0 + (top - base)) (64 - (top - base)) (λ t s. part.past (0 + (top - base) + t) (omega arith) (omega arith)) in
    let same : ones_from g 0 (top - base) ≡ ones_from f at (top - at) = part_ones f w base at to top part (omega arith) (omega arith) (omega arith) (omega arith) in
    let d : top - at ≡ min (64 - at % 64) (to - at) = omega arith in
    let u = ones_of_word w h in
    let v = ap (ones_from f at) d in
    omega arith

-- ---- a whole chunk

pub count_fits : (n k : ℕ) (chunk : List ℕ) → k ≡ n → 8 * n < 2 ^ 64 → count_by (λ b. b) (chunk_bits k chunk) < 2 ^ 64
count_fits n k chunk e h = omega (arith, count_map (chunk_bit k chunk) 0 (8 * k), ones_from_le (chunk_bit k chunk) 0 (8 * k))

pub count_all : (n k : ℕ) (chunk : List ℕ) (total : ℕ) → k ≡ n → total ≡ count_by (λ b. b) (chunk_bits k chunk)
    → total ≡ count_by (chunk_bit n chunk) (range_with_len 0 (8 * n))
count_all n k chunk total e s =
    s
    ∙ ap (λ x. count_by (λ b. b) (chunk_bits x chunk)) e
    ∙ count_map (chunk_bit n chunk) 0 (8 * n)
    ∙ sym (count_range (chunk_bit n chunk) 0 (8 * n))

-- ---- words from the start of a chunk

pub place_inside : (n k : ℕ) → k < 8 * n → (k - k % 64) % (8 * n) ≡ k - k % 64
place_inside n k h = mod-eq_of_lt {n = k - k % 64} {m = 8 * n} (omega arith)

pub start_inside : (n k : ℕ) → k < 8 * n → starts_word n (k - k % 64) ≡ true
start_inside n k h = eq-eqb ((k - k % 64) % (8 * n) % 64) 0 (rw (place_inside n k h) (omega arith))

-- ---- the last place of a word

-- a word at base has the bits of f below top, and no others
pub record IsReadBelow (f : ℕ → Bool) (word base top : ℕ) : Type 0 where
  pub near : top ≤ base + 64
  pub inside : (i : ℕ) → i < 64 → base + i < top → eqb (bit_at word i) 1 ≡ f (base + i)
  pub past : (i : ℕ) → i < 64 → top ≤ base + i → eqb (bit_at word i) 1 ≡ false

-- the word of a chunk that has the bit before top, read below top
pub read_below : (n : ℕ) (chunk : List ℕ) (wanted : Bool) (top word : ℕ) → 0 < top → top ≤ 8 * n
    → ((i : ℕ) → i < 64 → top - 1 - (top - 1) % 64 + i < top → (top - 1 - (top - 1) % 64) % (8 * n) + i < 8 * n
    → eqb (bit_at word i) 1 ≡ is_wanted wanted (chunk_bit n chunk ((top - 1 - (top - 1) % 64) % (8 * n) + i)))
    → IsCut (top - 1 - (top - 1) % 64) word top
    → IsReadBelow (λ i. is_wanted wanted (chunk_bit n chunk i)) word (top - 1 - (top - 1) % 64) top
read_below n chunk wanted top word some within inside past =
    let at = place_inside n (top - 1) (omega arith) in
    record {
      near = omega arith;
      inside = λ i h s. inside i h s (omega arith) ∙ ap (λ (x : ℕ). is_wanted wanted (chunk_bit n chunk (x + i))) at;
      past = past;
    }

-- if the word has no set bit, f is true nowhere in its range
pub none_more : (f : ℕ → Bool) (word base top to : ℕ) → IsReadBelow f word base top → word ≡ 0
    → ((i : ℕ) → top ≤ i → i < to → f i ≡ false)
    → (i : ℕ) → base ≤ i → i < to → f i ≡ false
none_more f word base top to r z none i h s = elim (cases_lt i top) [
  | inl lt ↦ (let near = r.near in
      let e : i ≡ base + (i - base) = omega arith in
      ap f e ∙ sym (r.inside (i - base) (omega arith) (omega arith)) ∙ bit_of_zero_byte word (i - base) z)
  | inr ge ↦ none i ge s
]

-- the highest set bit of the word is the last position that passes
pub last_found : (f : ℕ → Bool) (word base top to place : ℕ) → IsReadBelow f word base top → top ≤ to
    → ((i : ℕ) → top ≤ i → i < to → f i ≡ false)
    → place < 64 → eqb (bit_at word place) 1 ≡ true → ((t : ℕ) → place < t → eqb (bit_at word t) 1 ≡ false)
    → IsLastBelow f to (base + place)
last_found f word base top to place r w none h set above =
    let below : base + place < top = elim (cases_lt (base + place) top) [
      | inl lt ↦ lt
      | inr ge ↦ absurd (false≢true (sym (r.past place h ge) ∙ set))
    ] in
    record {
      below = omega arith;
      passes = sym (r.inside place h below) ∙ set;
      none_after = λ i a b. elim (cases_lt i top) [
        | inl lt ↦ (let near = r.near in
            let e : i ≡ base + (i - base) = omega arith in
            ap f e ∙ sym (r.inside (i - base) (omega arith) (omega arith)) ∙ above (i - base) (omega arith))
        | inr ge ↦ none i ge b
      ];
    }

-- ---- one more part of a range

pub more_part : (f : ℕ → Bool) (from at to w total step : ℕ) → from ≤ at → at < to → w < 2 ^ 64 → IsPart f (at - at % 64) w at to
    → step ≡ min (64 - at % 64) (to - at) → total ≡ ones_from f from (at - from)
    → total + count_ones w ≡ ones_from f from (at + step - from)
more_part f from at to w total step h l m part s t =
    let e : count_ones w ≡ ones_from f at step = counted_word f w at to m l part ∙ ap (ones_from f at) (sym s) in
    let d : at + step - from ≡ (at - from) + step = omega arith in
    let a : from + (at - from) ≡ at = omega arith in
    let r : ones_from f from (at + step - from) ≡ ones_from f from (at - from) + ones_from f at step =
    ap (ones_from f from) d ∙ ones_from_add f from (at - from) step ∙ ap (λ x. ones_from f from (at - from) + ones_from f x step) a in
    omega arith

-- a range that is counted to its end
pub whole_part : (f : ℕ → Bool) (from at to total : ℕ) → from ≤ at → at ≤ max from to → to ≤ at → total ≡ ones_from f from (at - from)
    → total ≡ count_by f (range_with_len from (to - from))
whole_part f from at to total l h e t = let d : at - from ≡ to - from = omega arith in t ∙ ap (ones_from f from) d ∙ sym (count_range f from (to - from))

-- ---- the lowest bits of a word taken

-- `rest` is the word without its lowest `taken` set bits
pub record IsTaken (word rest taken : ℕ) : Type 0 where
  pub low : ℕ
  pub within : low ≤ 64
  pub none : (t : ℕ) → t < low → eqb (bit_at rest t) 1 ≡ false
  pub same : (t : ℕ) → t < 64 → low ≤ t → eqb (bit_at rest t) 1 ≡ eqb (bit_at word t) 1
  pub count : ones_from (λ t. eqb (bit_at word t) 1) 0 low ≡ taken

pub taken_none : (word : ℕ) → IsTaken word word 0
taken_none word = record { low = 0; within = omega arith; none = λ t h. absurd (omega arith); same = λ t h s. refl; count = refl }

-- while fewer bits are taken than there are, one is left
pub taken_some : (word rest taken : ℕ) → word < 2 ^ 64 → IsTaken word rest taken → taken < count_ones word → 0 < rest
taken_some word rest taken fits r h = elim (cases_lt 0 rest) [
  | inl s ↦ s
  | inr s ↦ (let g : ℕ → Bool = λ t. eqb (bit_at word t) 1 in
      let within = r.within in
      let e : 64 ≡ r.low + (64 - r.low) = omega arith in
      let all : ones_from g 0 64 ≡ ones_from g 0 r.low + ones_from g (0 + r.low) (64 - r.low) =
      ap (ones_from g 0) e ∙ ones_from_add g 0 r.low (64 - r.low) in
      let none : ones_from g (0 + r.low) (64 - r.low) ≡ 0 =
      ones_from_clear g (0 + r.low) (64 - r.low) (λ t x.
      sym (r.same (0 + r.low + t) (omega arith) (omega arith)) ∙ bit_of_zero_byte rest (0 + r.low + t) (omega arith)) in
      absurd (omega (arith, ones_of_word word fits, r.count)))
]

-- the lowest set bit of what is left
module _ (word old taken place : ℕ) (r : IsTaken word old taken) (within : place < 64) (set : eqb (bit_at old place) 1 ≡ true)
    (lowest : (t : ℕ) → t < place → eqb (bit_at old t) 1 ≡ false) where
  at_or_above : r.low ≤ place
  at_or_above = elim (cases_lt place r.low) [
    | inl s ↦ absurd (false≢true (sym (r.none place s) ∙ set))
    | inr s ↦ s
  ]

  rank : ones_from (λ t. eqb (bit_at word t) 1) 0 place ≡ taken
  rank =
      let g : ℕ → Bool = λ t. eqb (bit_at word t) 1 in
      let h = at_or_above in
      let e : place ≡ r.low + (place - r.low) = omega arith in
      let none : ones_from g (0 + r.low) (place - r.low) ≡ 0 =
      ones_from_clear g (0 + r.low) (place - r.low) (λ t x.
      sym (r.same (0 + r.low + t) (omega arith) (omega arith)) ∙ lowest (0 + r.low + t) (omega arith)) in
      let all : ones_from g 0 place ≡ ones_from g 0 r.low + ones_from g (0 + r.low) (place - r.low) =
      ap (ones_from g 0) e ∙ ones_from_add g 0 r.low (place - r.low) in
      omega (arith, r.count)

  here : eqb (bit_at word place) 1 ≡ true
  here = sym (r.same place within at_or_above) ∙ set

  pub taken_nth : IsNth (λ t. eqb (bit_at word t) 1) 0 64 taken place
  taken_nth =
      let e : place - 0 ≡ place = omega arith in
      record {
        above = omega arith;
        below = within;
        passes = here;
        rank = count_range (λ t. eqb (bit_at word t) 1) 0 (place - 0) ∙ ap (ones_from (λ t. eqb (bit_at word t) 1) 0) e ∙ rank;
      }

  pub taken_more : (new : ℕ) → eqb (bit_at new place) 1 ≡ false
      → ((t : ℕ) → t < 64 → t ≢ place → eqb (bit_at new t) 1 ≡ eqb (bit_at old t) 1)
      → IsTaken word new (taken + 1)
  taken_more new cleared others =
      let g : ℕ → Bool = λ t. eqb (bit_at word t) 1 in
      let h = at_or_above in
      let one : ones_from g (0 + place) 1 ≡ 1 = (let z : 0 + place ≡ place = omega arith in ap (λ x. ones_from g x 1) z ∙ ap (λ b. cond b 1 0 + 0) here) in
      record {
        low = place + 1;
        within = omega arith;
        none = λ t s. elim (cases_lt t place) [
          | inl l ↦ others t (omega arith) (omega arith) ∙ lowest t l
          | inr l ↦ (let z : t ≡ place = omega arith in ap (λ k. eqb (bit_at new k) 1) z ∙ cleared)
        ];
        same = λ t s l. others t s (omega arith) ∙ r.same t s (omega arith);
        count = omega (arith, ones_from_add g 0 place 1, rank, one);
      }

-- ---- the k-th place of a range

-- a position in a word, if k - left positions before the word pass
pub nth_found : (f : ℕ → Bool) (from at to w left k place : ℕ) → from ≤ at → at < to → IsPart f (at - at % 64) w at to
    → left + ones_from f from (at - from) ≡ k → IsNth (λ t. eqb (bit_at w t) 1) 0 64 left place
    → IsNth f from to k (at - at % 64 + place)
nth_found f from at to w left k place h l part c nth =
    let base : ℕ = at - at % 64 in
    let within = nth.below in
    let top : base + place < to = elim (cases_lt (base + place) to) [
      | inl s ↦ s
      | inr s ↦ absurd (false≢true (sym (part.past place within s) ∙ nth.passes))
    ] in
    let low : at ≤ base + place = elim (cases_lt (base + place) at) [
      | inl s ↦ absurd (false≢true (sym (part.before place within s) ∙ nth.passes))
      | inr s ↦ s
    ] in
    let d : base + place - base ≡ place - 0 = omega arith in
    let e : ones_from f at (base + place - at) ≡ left =
    sym (part_ones f w base at to (base + place) part (omega arith) low (omega arith) (omega arith))
    ∙ ap (ones_from (λ t. eqb (bit_at w t) 1) 0) d
    ∙ sym (count_range (λ t. eqb (bit_at w t) 1) 0 (place - 0))
    ∙ nth.rank in
    let s : base + place - from ≡ (at - from) + (base + place - at) = omega arith in
    let a : from + (at - from) ≡ at = omega arith in
    let r : ones_from f from (base + place - from) ≡ ones_from f from (at - from) + ones_from f at (base + place - at) =
    ap (ones_from f from) s
    ∙ ones_from_add f from (at - from) (base + place - at)
    ∙ ap (λ x. ones_from f from (at - from) + ones_from f x (base + place - at)) a in
    record {
      above = omega arith;
      below = top;
      passes = sym (part.inside place within low top) ∙ nth.passes;
      rank = omega (arith, count_range f from (base + place - from));
    }
