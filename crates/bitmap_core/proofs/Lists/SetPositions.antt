-- Lists of set positions: by position, and by parts of a range.
use Rattle.std.proofs.Common.{◌≡◌, ℕ, zero, suc, ◌+◌, ◌-◌, ◌*◌, ◌^◌, ◌<◌, ◌≤◌, min, max, Bool, true, false, cond, List, [], ◌∷◌, ◌++◌, length, refl, ap, ◌∙◌, arith, add-zero, zero-add}
use Rattle.std.specs.List.{filter, range_with_len}
use Rattle.bitmap_core.specs.Meaning.{Meaning, ones_between, ones}

-- the n positions from lo on
abbrev run : (ℕ → Bool) → ℕ → ℕ → List ℕ
run p lo n = filter p (range_with_len lo n)

cond_append : (b : Bool) (x : ℕ) (xs ys : List ℕ) → cond b (x ∷ (xs ++ ys)) (xs ++ ys) ≡ cond b (x ∷ xs) xs ++ ys
cond_append true x xs ys = refl
cond_append false x xs ys = refl

run-append : (p : ℕ → Bool) (lo n k : ℕ) → run p lo (n + k) ≡ run p lo n ++ run p (lo + n) k
run-append p lo zero k = rw (zero-add k, add-zero lo) refl
run-append p lo (suc n) k =
    let e : suc n + k ≡ suc (n + k) = omega arith in
    let d : lo + suc n ≡ (lo + 1) + n = omega arith in
    rw (e, d, run-append p (lo + 1) n k) (cond_append (p lo) lo (run p (lo + 1) n) (run p ((lo + 1) + n) k))

run-same : (p q : ℕ → Bool) (lo n : ℕ) → ((k : ℕ) → lo ≤ k → k < lo + n → p k ≡ q k) → run p lo n ≡ run q lo n
run-same p q lo zero h = refl
run-same p q lo (suc n) h = rw (h lo (omega arith) (omega arith), run-same p q (lo + 1) n (λ k i j. h k (omega arith) (omega arith))) refl

run-none : (p : ℕ → Bool) (lo n : ℕ) → ((k : ℕ) → lo ≤ k → k < lo + n → p k ≡ false) → run p lo n ≡ []
run-none p lo zero h = refl
run-none p lo (suc n) h = rw (h lo (omega arith) (omega arith)) (run-none p (lo + 1) n (λ k i j. h k (omega arith) (omega arith)))

cond_length : (b : Bool) (x : ℕ) (xs : List ℕ) (n : ℕ) → length xs ≤ n → length (cond b (x ∷ xs) xs) ≤ suc n
cond_length true x xs n h = omega arith
cond_length false x xs n h = omega arith

run-length : (p : ℕ → Bool) (lo n : ℕ) → length (run p lo n) ≤ n
run-length p lo zero = omega arith
run-length p lo (suc n) = cond_length (p lo) lo (run p (lo + 1) n) n (run-length p (lo + 1) n)

pub ones_between-none : (bit : ℕ → Bool) (lo hi : ℕ) → hi ≤ lo → ones_between bit lo hi ≡ []
ones_between-none bit lo hi h = let e : hi - lo ≡ 0 = omega arith in rw e

ones_between-step : (bit : ℕ → Bool) (lo hi : ℕ) → lo < hi
    → ones_between bit lo hi ≡ cond (bit lo) (lo ∷ ones_between bit (lo + 1) hi) (ones_between bit (lo + 1) hi)
ones_between-step bit lo hi h = let e : hi - lo ≡ suc (hi - (lo + 1)) = omega arith in rw e

pub ones_between-hit : (bit : ℕ → Bool) (lo hi : ℕ) → lo < hi → bit lo ≡ true → ones_between bit lo hi ≡ lo ∷ ones_between bit (lo + 1) hi
ones_between-hit bit lo hi h e = ones_between-step bit lo hi h ∙ rw e

pub ones_between-append : (bit : ℕ → Bool) (lo mid hi : ℕ) → lo ≤ mid → mid ≤ hi
    → ones_between bit lo hi ≡ ones_between bit lo mid ++ ones_between bit mid hi
ones_between-append bit lo mid hi h i =
    let e : hi - lo ≡ (mid - lo) + (hi - mid) = omega arith in
    let d : lo + (mid - lo) ≡ mid = omega arith in
    let f : run bit lo ((mid - lo) + (hi - mid)) ≡ run bit lo (mid - lo) ++ run bit (lo + (mid - lo)) (hi - mid) =
    run-append bit lo (mid - lo) (hi - mid) in
    ap (run bit lo) e ∙ f ∙ ap (λ (k : ℕ). run bit lo (mid - lo) ++ run bit k (hi - mid)) d

pub ones_between-same : (p q : ℕ → Bool) (lo hi : ℕ) → ((k : ℕ) → lo ≤ k → k < hi → p k ≡ q k) → ones_between p lo hi ≡ ones_between q lo hi
ones_between-same p q lo hi h = run-same p q lo (hi - lo) (λ k i j. h k i (omega arith))

pub ones_between-false : (p : ℕ → Bool) (lo hi : ℕ) → ((k : ℕ) → lo ≤ k → k < hi → p k ≡ false) → ones_between p lo hi ≡ []
ones_between-false p lo hi h = run-none p lo (hi - lo) (λ k i j. h k i (omega arith))

pub ones_between-length : (p : ℕ → Bool) (lo hi : ℕ) → length (ones_between p lo hi) ≤ hi - lo
ones_between-length p lo hi = run-length p lo (hi - lo)

-- the list is its first set position, and then those after it
pub ones_between-first : (p q : ℕ → Bool) (lo t hi : ℕ) → lo ≤ t → t < hi → p t ≡ true
    → ((k : ℕ) → lo ≤ k → k < t → p k ≡ false) → ((k : ℕ) → lo ≤ k → k ≤ t → q k ≡ false)
    → ((k : ℕ) → t < k → k < hi → p k ≡ q k)
    → ones_between p lo hi ≡ t ∷ ones_between q lo hi
ones_between-first p q lo t hi h i at before gone same =
    let left : ones_between p lo hi ≡ ones_between p lo t ++ ones_between p t hi = ones_between-append p lo t hi h (omega arith) in
    let none : ones_between p lo t ≡ [] = ones_between-false p lo t before in
    let hit : ones_between p t hi ≡ t ∷ ones_between p (t + 1) hi = ones_between-hit p t hi i at in
    let rest : ones_between p (t + 1) hi ≡ ones_between q (t + 1) hi = ones_between-same p q (t + 1) hi (λ k a b. same k (omega arith) b) in
    let right : ones_between q lo hi ≡ ones_between q lo (t + 1) ++ ones_between q (t + 1) hi =
    ones_between-append q lo (t + 1) hi (omega arith) (omega arith) in
    let gap : ones_between q lo (t + 1) ≡ [] = ones_between-false q lo (t + 1) (λ k a b. gone k a (omega arith)) in
    rw (left, none, hit, rest, right, gap)

pub ones_between-at : (bit : ℕ → Bool) (lo low hi high : ℕ) → lo ≡ low → hi ≡ high → ones_between bit lo hi ≡ ones_between bit low high
ones_between-at bit lo low hi high e d = rw (e, d)

-- a bitmap has fewer than 2 ^ 64 set positions
pub ones_fit : (n : ℕ) (m : Meaning) (a b : ℕ) → m.len < 2 ^ 64 → length (ones n m a b) < 2 ^ 64
ones_fit n m a b fits = omega (arith, ones_between-length m.bit (max a (8 * n * m.pruned)) (min b m.len))
