-- Each hash has two inputs with one digest: it has fewer digests than inputs.
use Rattle.std.proofs.Common.{◌≡◌, ◌≢◌, ℕ, zero, suc, ◌+◌, ◌*◌, ◌^◌, ◌<◌, ◌≤◌, List, [], ◌∷◌, length, replicate, cond, eqb, true, false, ◌⊎◌, inl, inr, refl, sym, ap, subst, ◌∙◌, arith}
use Rattle.std.proofs.Math.Nat.{pow-suc}
use Rattle.std.proofs.lemmas.List.{length-replicate}
use Rattle.std.proofs.lemmas.List.Elements.{All-head, All-tail, All-replicate}
use Rattle.std.proofs.lemmas.Bool.Decides.{eqb_tells}
use Rattle.authenticated_bitmap.specs.Tree.{AreBytes, IsHash, CollidesSomewhere}

-- a place below n at which a function has a value
record Found (f : ℕ → ℕ) (n v : ℕ) : Type 0 where
  pub at : ℕ
  pub below : at < n
  pub is : f at ≡ v

found_or_none : (f : ℕ → ℕ) (n v : ℕ) → Found f n v ⊎ ((j : ℕ) → j < n → f j ≢ v)
found_or_none f zero v = inr (λ j h. absurd (omega arith))
found_or_none f (suc n) v =
    elim (eqb_tells (f n) v) [
      | inl w ↦ inl (record { at = n; below = omega arith; is = w.1 })
      | inr w ↦ elim (found_or_none f n v) [
        | inl a ↦ inl (record { at = a.at; below = omega (arith, a.below); is = a.is })
        | inr none ↦ inr (λ j h. elim (eqb_tells j n) [ inl u ↦ (λ e. w.1 (sym (ap f u.1) ∙ e)) | inr u ↦ none j (omega (arith, h, u.1)) ])
      ]
    ]

-- two places up to n at which a function has one value
record Twice (f : ℕ → ℕ) (n : ℕ) : Type 0 where
  pub first : ℕ
  pub second : ℕ
  pub apart : first < second
  pub within : second ≤ n
  pub same : f first ≡ f second

-- the value at a place, and the value at the last place instead of the largest value
moved : (ℕ → ℕ) → ℕ → ℕ → ℕ
moved f n i = cond (eqb (f i) n) (f (suc n)) (f i)

moved_at : (f : ℕ → ℕ) (n i : ℕ) → eqb (f i) n ≡ true → moved f n i ≡ f (suc n)
unfolding moved
moved_at f n i e = ap (λ b. cond b (f (suc n)) (f i)) e

moved_off : (f : ℕ → ℕ) (n i : ℕ) → eqb (f i) n ≡ false → moved f n i ≡ f i
unfolding moved
moved_off f n i e = ap (λ b. cond b (f (suc n)) (f i)) e

module _ (f : ℕ → ℕ) (n : ℕ) (h : (i : ℕ) → i ≤ suc n → f i < suc n) (none : (j : ℕ) → j < suc n → f j ≢ f (suc n)) where
  moved_below : (i : ℕ) → i ≤ n → moved f n i < n
  moved_below i l =
      elim (eqb_tells (f i) n) [
        | inl w ↦ omega (arith, moved_at f n i w.0, h (suc n) (omega arith), w.1, none i (omega arith))
        | inr w ↦ omega (arith, moved_off f n i w.0, h i (omega arith), w.1)
      ]

  moved_same : (i j : ℕ) → i ≤ n → j ≤ n → moved f n i ≡ moved f n j → f i ≡ f j
  moved_same i j hi hj e =
      elim (eqb_tells (f i) n) [
        | inl v ↦ elim (eqb_tells (f j) n) [
          | inl w ↦ v.1 ∙ sym w.1
          | inr w ↦ absurd (none j (omega arith) (sym (moved_off f n j w.0) ∙ sym e ∙ moved_at f n i v.0))
        ]
        | inr v ↦ elim (eqb_tells (f j) n) [
          | inl w ↦ absurd (none i (omega arith) (sym (moved_off f n i v.0) ∙ e ∙ moved_at f n j w.0))
          | inr w ↦ sym (moved_off f n i v.0) ∙ e ∙ moved_off f n j w.0
        ]
      ]

-- with more places than values, one value is had at two places
pigeonhole : (n : ℕ) (f : ℕ → ℕ) → ((i : ℕ) → i ≤ n → f i < n) → Twice f n
pigeonhole zero f h = absurd (omega (arith, h 0 (omega arith)))
pigeonhole (suc n) f h =
    elim (found_or_none f (suc n) (f (suc n))) [
      | inl a ↦ record { first = a.at; second = suc n; apart = a.below; within = omega arith; same = a.is }
      | inr none ↦ (
          let t = pigeonhole n (moved f n) (moved_below f n h none) in
          record { first = t.first; second = t.second; apart = t.apart; within = omega (arith, t.within); same = moved_same f n h none t.first t.second (omega (arith, t.apart, t.within)) t.within t.same })
    ]

-- the number that bytes stand for
value : List ℕ → ℕ
value [] = 0
value (x ∷ xs) = x + 256 * value xs

value_below : (xs : List ℕ) → AreBytes xs → value xs < 256 ^ length xs
unfolding value
value_below [] h = omega arith
value_below (x ∷ xs) h = omega (arith, pow-suc 256 (length xs), value_below xs (All-tail (λ y. y < 256) x xs h), All-head (λ y. y < 256) x xs h)

value_same : (xs ys : List ℕ) → AreBytes xs → AreBytes ys → length xs ≡ length ys → value xs ≡ value ys → xs ≡ ys
unfolding value
value_same [] [] hx hy l e = refl
value_same [] (y ∷ ys) hx hy l e = absurd (omega arith)
value_same (x ∷ xs) [] hx hy l e = absurd (omega arith)
value_same (x ∷ xs) (y ∷ ys) hx hy l e =
    let bx = All-head (λ z. z < 256) x xs hx in
    let by = All-head (λ z. z < 256) y ys hy in
    let first : x ≡ y = omega (arith, bx, by, e) in
    let rest : value xs ≡ value ys = omega (arith, first, e) in
    let tail : xs ≡ ys = value_same xs ys (All-tail (λ z. z < 256) x xs hx) (All-tail (λ z. z < 256) y ys hy) (omega (arith, l)) rest in
    ap (λ z. z ∷ xs) first ∙ ap (λ zs. y ∷ zs) tail

-- inputs of different lengths
zeros : ℕ → List ℕ
zeros i = replicate i 0

zeros_bytes : (i : ℕ) → AreBytes (zeros i)
unfolding zeros
zeros_bytes i = All-replicate (λ x. x < 256) i 0 (omega arith)

zeros_length : (i : ℕ) → length (zeros i) ≡ i
unfolding zeros
zeros_length i = length-replicate i 0

digest_below : (H : List ℕ → List ℕ) → IsHash H → (i : ℕ) → value (H (zeros i)) < 256 ^ 32
digest_below H g i = subst (λ n. value (H (zeros i)) < 256 ^ n) (g (zeros i)).size (value_below (H (zeros i)) (g (zeros i)).bytes)

from_twice : (H : List ℕ → List ℕ) → IsHash H → (n : ℕ) → Twice (λ i. value (H (zeros i))) n → CollidesSomewhere H
from_twice H g n t = record {
  first = zeros t.first;
  second = zeros t.second;
  first_bytes = zeros_bytes t.first;
  second_bytes = zeros_bytes t.second;
  differ = λ e. absurd (omega (arith, t.apart, ap length e, zeros_length t.first, zeros_length t.second));
  same = value_same (H (zeros t.first)) (H (zeros t.second)) (g (zeros t.first)).bytes (g (zeros t.second)).bytes ((g (zeros t.first)).size ∙ sym (g (zeros t.second)).size) t.same;
}

collides_when : (H : List ℕ → List ℕ) → IsHash H → (n : ℕ) → 256 ^ 32 ≤ n → CollidesSomewhere H
collides_when H g n l = from_twice H g n (pigeonhole n (λ i. value (H (zeros i))) (λ i h. omega (arith, digest_below H g i, l)))

pub each_collides : (H : List ℕ → List ℕ) → IsHash H → CollidesSomewhere H
each_collides H g = collides_when H g (256 ^ 32) (omega arith)
