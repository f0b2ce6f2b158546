-- A range of the bits of a chunk that is written: its first byte, its last byte, and the bytes between.
use Rattle.std.proofs.Common.{◌≡◌, ◌≢◌, ℕ, ◌+◌, ◌-◌, ◌*◌, ◌/◌, ◌%◌, ◌^◌, ◌<◌, ◌≤◌, ◌⊎◌, Bool, true, false, List, get_or, set, take, drop, replicate, length, eqb, bit_and, bit_or, w8, sym, ap, ◌∙◌, inl, inr, arith}
use Rattle.std.specs.Int.{bit_at}
use Rattle.std.proofs.lemmas.Nat.{mod_below}
use Rattle.std.proofs.lemmas.Nat.Bits.{bit_at-lt, bit_at_and, bit_at_or, bit_at_not, bit_at_mask_inside, bit_at_mask_below, bit_at_mask_above}
use Rattle.std.proofs.lemmas.List.{get_or-set_same, get_or-set_other, length-set, get_or_append_left, get_or-append_right, get_or-take, get_or-drop, length-take, length-drop, get_or-replicate, length-replicate}
use Rattle.std.proofs.lemmas.Bool.{cases_eq, cases_lt}
use Rattle.std.proofs.lemmas.Bool.Decides.{nat_tests}
use borrow.Rule.Slice.PartMut.{put_mid}
use Rattle.bitmap_bytes.specs.Chunk.{chunk_bit}
use Rattle.bitmap_bytes.proofs.Chunks.Bits.{mod_parts}
use Rattle.bitmap_bytes.proofs.Counting.ByteRanges.{mask_is}

-- ---- one byte

-- the mask of the bits of a byte from lo up to hi, hi excluded
abbrev mask : ℕ → ℕ → ℕ
mask lo hi = 255 / 2 ^ (8 - (hi - lo)) * 2 ^ lo % 256

module _ (byte lo hi t : ℕ) (some : lo < hi) (within : hi ≤ 8) where
  mask_in : lo ≤ t → t < hi → bit_at (mask lo hi) t ≡ 1
  mask_in l h = ap (λ m. bit_at m t) (mask_is lo hi some within) ∙ bit_at_mask_inside lo hi t l h

  mask_out : (t < lo) ⊎ (hi ≤ t) → bit_at (mask lo hi) t ≡ 0
  mask_out (inl h) = ap (λ m. bit_at m t) (mask_is lo hi some within) ∙ bit_at_mask_below lo hi t h
  mask_out (inr h) = ap (λ m. bit_at m t) (mask_is lo hi some within) ∙ bit_at_mask_above lo hi t h

  pub or_inside : lo ≤ t → t < hi → eqb (bit_at (bit_or byte (mask lo hi)) t) 1 ≡ true
  or_inside l h = let e = bit_at_or byte (mask lo hi) t in let m = mask_in l h in let b = bit_at-lt byte t in grind (arith, nat_tests)

  pub or_outside : (t < lo) ⊎ (hi ≤ t) → eqb (bit_at (bit_or byte (mask lo hi)) t) 1 ≡ eqb (bit_at byte t) 1
  or_outside h = let e = bit_at_or byte (mask lo hi) t in let m = mask_out h in let b = bit_at-lt byte t in grind (arith, nat_tests)

  not_mask : t < 8 → bit_at (255 - mask lo hi) t ≡ 1 - bit_at (mask lo hi) t
  not_mask s = bit_at_not w8 (mask lo hi) t (mod_below (255 / 2 ^ (8 - (hi - lo)) * 2 ^ lo) 256 (omega arith)) s

  pub and_inside : lo ≤ t → t < hi → eqb (bit_at (bit_and byte (255 - mask lo hi)) t) 1 ≡ false
  and_inside l h =
      let e = bit_at_and byte (255 - mask lo hi) t in
      let m = mask_in l h in
      let r = not_mask (omega arith) in
      grind (arith, nat_tests)

  pub and_outside : t < 8 → (t < lo) ⊎ (hi ≤ t) → eqb (bit_at (bit_and byte (255 - mask lo hi)) t) 1 ≡ eqb (bit_at byte t) 1
  and_outside s h =
      let e = bit_at_and byte (255 - mask lo hi) t in
      let m = mask_out h in
      let r = not_mask s in
      let b = bit_at-lt byte t in
      grind (arith, nat_tests)

-- ---- the bytes of a chunk

-- the bytes have value as each bit from position `from` up to `to`, and the other bits as the old bytes have them; by byte and bit
pub record IsSetIn (n : ℕ) (old new : List ℕ) (from to : ℕ) (value : Bool) : Type 0 where
  pub inside : (j t : ℕ) → j < n → t < 8 → from ≤ 8 * j + t → 8 * j + t < to → eqb (bit_at (get_or new j 0) t) 1 ≡ value
  pub outside : (j t : ℕ) → j < n → t < 8 → (8 * j + t < from) ⊎ (to ≤ 8 * j + t) → eqb (bit_at (get_or new j 0) t) 1 ≡ eqb (bit_at (get_or old j 0) t) 1

-- the same, by position in the chunk
module _ (n : ℕ) (old new : List ℕ) (from to : ℕ) (value : Bool) (p : 0 < n) (s : IsSetIn n old new from to value) (i : ℕ) where
  pub chunk_inside : from ≤ i % (8 * n) → i % (8 * n) < to → chunk_bit n new i ≡ value
  chunk_inside l h =
      let m = mod_parts n i p in
      s.inside (i / 8 % n) (i % 8) (mod_below (i / 8) n p) (mod_below i 8 (omega arith)) (omega arith) (omega arith)

  pub chunk_outside : (i % (8 * n) < from) ⊎ (to ≤ i % (8 * n)) → chunk_bit n new i ≡ chunk_bit n old i
  chunk_outside (inl h) =
      let m = mod_parts n i p in
      s.outside (i / 8 % n) (i % 8) (mod_below (i / 8) n p) (mod_below i 8 (omega arith)) (inl (omega arith))
  chunk_outside (inr h) =
      let m = mod_parts n i p in
      s.outside (i / 8 % n) (i % 8) (mod_below (i / 8) n p) (mod_below i 8 (omega arith)) (inr (omega arith))

-- what a byte with a range of its bits written is
pub record IsByteSetIn (old new lo hi : ℕ) (value : Bool) : Type 0 where
  pub inside : (t : ℕ) → lo ≤ t → t < hi → eqb (bit_at new t) 1 ≡ value
  pub outside : (t : ℕ) → t < 8 → (t < lo) ⊎ (hi ≤ t) → eqb (bit_at new t) 1 ≡ eqb (bit_at old t) 1

-- a bit of a list of bytes in which one byte is replaced
put_here : (xs : List ℕ) (j k b t : ℕ) → j ≡ k → k < length xs → eqb (bit_at (get_or (set xs k b) j 0) t) 1 ≡ eqb (bit_at b t) 1
put_here xs j k b t e h = ap (λ x. eqb (bit_at x t) 1) (ap (λ x. get_or (set xs k b) x 0) e ∙ get_or-set_same xs k b 0 h)

put_other : (xs : List ℕ) (j k b t : ℕ) → j ≢ k → eqb (bit_at (get_or (set xs k b) j 0) t) 1 ≡ eqb (bit_at (get_or xs j 0) t) 1
put_other xs j k b t d = ap (λ x. eqb (bit_at x t) 1) (get_or-set_other xs k j b 0 d)

at_byte : (xs : List ℕ) (j k t : ℕ) → j ≡ k → eqb (bit_at (get_or xs j 0) t) 1 ≡ eqb (bit_at (get_or xs k 0) t) 1
at_byte xs j k t e = ap (λ x. eqb (bit_at (get_or xs x 0) t) 1) e

-- a range within one byte
pub set_in_one : (n : ℕ) (old : List ℕ) (from to b : ℕ) (value : Bool) → length old ≡ n → from < to → to ≤ 8 * n
    → from / 8 ≡ (to - 1) / 8 → IsByteSetIn (get_or old (from / 8) 0) b (from % 8) ((to - 1) % 8 + 1) value
    → IsSetIn n old (set old (from / 8) b) from to value
set_in_one n old from to b value l some within same w = record {
  inside = λ j t _ s a h.
      let e : j ≡ from / 8 = omega arith in
      put_here old j (from / 8) b t e (omega arith) ∙ w.inside t (omega arith) (omega arith);
  outside = λ j t _ s o. elim (cases_eq j (from / 8)) [
    | inl e ↦
        let q : (t < from % 8) ⊎ ((to - 1) % 8 + 1 ≤ t) = elim o [ inl h ↦ inl (omega arith) | inr h ↦ inr (omega arith) ] in
        put_here old j (from / 8) b t e (omega arith) ∙ w.outside t s q ∙ sym (at_byte old j (from / 8) t e)
    | inr d ↦ put_other old j (from / 8) b t d
  ];
}

-- bytes of a list in which a run is replaced
module _ (a k : ℕ) (xs ys : List ℕ) (within : a + k ≤ length xs) (size : length ys ≡ k) where
  front_len : length (take a xs) ≡ a
  front_len = omega (arith, length-take {A = ℕ} a xs)

  run_below : (j : ℕ) → j < a → get_or (put_mid a k xs ys) j 0 ≡ get_or xs j 0
  run_below j h = get_or_append_left (take a xs) _ 0 j (omega (arith, front_len)) ∙ get_or-take a xs j 0 h

  run_here : (j : ℕ) → a ≤ j → j < a + k → get_or (put_mid a k xs ys) j 0 ≡ get_or ys (j - a) 0
  run_here j l h = get_or-append_right (take a xs) _ a j 0 front_len l ∙ get_or_append_left ys _ 0 (j - a) (omega arith)

  run_above : (j : ℕ) → a + k ≤ j → get_or (put_mid a k xs ys) j 0 ≡ get_or xs j 0
  run_above j h =
      let e : a + (k + (j - a - k)) ≡ j = omega arith in
      get_or-append_right (take a xs) _ a j 0 front_len (omega arith)
      ∙ get_or-append_right ys _ k (j - a) 0 size (omega arith)
      ∙ get_or-drop k (drop a xs) (j - a - k) 0
      ∙ get_or-drop a xs (k + (j - a - k)) 0
      ∙ ap (λ x. get_or xs x 0) e

-- as many equal bytes as the run replaces
run_is : (a k v : ℕ) (xs ys : List ℕ) → a + k ≤ length xs → ys ≡ replicate (length (take k (drop a xs))) v → ys ≡ replicate k v
run_is a k v xs ys h e =
    let l : length (take k (drop a xs)) ≡ k = omega (arith, length-take {A = ℕ} k (drop a xs), length-drop {A = ℕ} a xs) in
    e ∙ ap (λ m. replicate m v) l

-- a range over several bytes
pub set_in_more : (n : ℕ) (old run : List ℕ) (from to b c v : ℕ) (value : Bool) → length old ≡ n → from < to → to ≤ 8 * n
    → from / 8 ≢ (to - 1) / 8 → IsByteSetIn (get_or old (from / 8) 0) b (from % 8) 8 value
    → IsByteSetIn (get_or (set old (from / 8) b) ((to - 1) / 8) 0) c 0 ((to - 1) % 8 + 1) value
    → run ≡ replicate (length (take ((to - 1) / 8 - (from / 8 + 1)) (drop (from / 8 + 1) (set (set old (from / 8) b) ((to - 1) / 8) c)))) v
    → ((t : ℕ) → t < 8 → eqb (bit_at v t) 1 ≡ value)
    → IsSetIn n old (put_mid (from / 8 + 1) ((to - 1) / 8 - (from / 8 + 1)) (set (set old (from / 8) b) ((to - 1) / 8) c) run) from to value
set_in_more n old run from to b c v value l some within differ w x filled all =
    let first : ℕ = from / 8 in
    let last : ℕ = (to - 1) / 8 in
    let count : ℕ = last - (first + 1) in
    let mid : List ℕ = set old first b in
    let ends : List ℕ = set mid last c in
    let m : length mid ≡ n = length-set old first b ∙ l in
    let e : length ends ≡ n = length-set mid last c ∙ m in
    let o : first + 1 ≤ last = omega arith in
    let fits : first + 1 + count ≤ length ends = omega arith in
    let is : run ≡ replicate count v = run_is (first + 1) count v ends run fits filled in
    let size : length run ≡ count = ap length is ∙ length-replicate count v in
    record {
      inside = λ j t r s a h. elim (cases_lt j (first + 1)) [
        | inl u ↦
            let q : j ≡ first = omega arith in
            ap (λ y. eqb (bit_at y t) 1) (run_below (first + 1) count ends run fits size j u)
            ∙ put_other mid j last c t (λ z. absurd (omega arith))
            ∙ put_here old j first b t q (omega arith)
            ∙ w.inside t (omega arith) s
        | inr u ↦ elim (cases_lt j last) [
          | inl y ↦
              ap (λ z. eqb (bit_at z t) 1) (run_here (first + 1) count ends run fits size j u (omega arith)
              ∙ ap (λ z. get_or z (j - (first + 1)) 0) is
              ∙ get_or-replicate {A = ℕ} count (j - (first + 1)) v 0 (omega arith))
              ∙ all t s
          | inr y ↦
              let q : j ≡ last = omega arith in
              ap (λ z. eqb (bit_at z t) 1) (run_above (first + 1) count ends run fits size j (omega arith))
              ∙ put_here mid j last c t q (omega arith)
              ∙ x.inside t (omega arith) (omega arith)
        ]
      ];
      outside = λ j t r s d. elim d [
        | inl h ↦
            ap (λ y. eqb (bit_at y t) 1) (run_below (first + 1) count ends run fits size j (omega arith))
            ∙ put_other mid j last c t (λ z. absurd (omega arith))
            ∙ elim (cases_eq j first) [
              | inl q ↦ put_here old j first b t q (omega arith) ∙ w.outside t s (inl (omega arith)) ∙ sym (at_byte old j first t q)
              | inr q ↦ put_other old j first b t q
            ]
        | inr h ↦
            ap (λ y. eqb (bit_at y t) 1) (run_above (first + 1) count ends run fits size j (omega arith))
            ∙ elim (cases_eq j last) [
              | inl q ↦
                  put_here mid j last c t q (omega arith)
                  ∙ x.outside t s (inr (omega arith))
                  ∙ sym (at_byte mid j last t q)
                  ∙ put_other old j first b t (λ z. absurd (omega arith))
              | inr q ↦ put_other mid j last c t q ∙ put_other old j first b t (λ z. absurd (omega arith))
            ]
      ];
    }
