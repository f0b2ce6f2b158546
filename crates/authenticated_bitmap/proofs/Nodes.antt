-- The stored digests: their number, their places, and how they grow.
use Rattle.std.proofs.Common.{◌≡◌, ◌≢◌, ℕ, zero, suc, ◌+◌, ◌-◌, ◌*◌, ◌^◌, ◌<◌, ◌≤◌, ◌==◌, List, [], ◌∷◌, ◌++◌, length, take, drop, true, false, inl, inr, refl, sym, ap, ◌∙◌, arith, append_assoc}
use Rattle.std.specs.Prelude.{count_ones, if◌then◌else◌}
use Rattle.std.proofs.lemmas.Bool.Decides.{nat_tests}
use Rattle.std.proofs.lemmas.List.{append-nil, length-append, length-take-le, length-drop, take_all, drop_all, length-take, take-append-le, drop-append-le, nil_from_length}
use Rattle.std.proofs.Math.Seq.{take-append-add}
use Rattle.std.proofs.lemmas.Nat.{pow_pos, ones_cat}
use Rattle.authenticated_bitmap.specs.Tree.{subtree_hash}
use Rattle.authenticated_bitmap.specs.Stored.{stored_below}
use Rattle.authenticated_bitmap.proofs.Tests.{le_or_lt}
use Rattle.authenticated_bitmap.proofs.Complete.{twice}
use Rattle.authenticated_bitmap.proofs.Heights.{same_at}

pub eq_true : (a b : ℕ) → a ≡ b → (a == b) ≡ true
eq_true a b h = grind (arith, nat_tests)

pub eq_false : (a b : ℕ) → a ≢ b → (a == b) ≡ false
eq_false a b h = grind (arith, nat_tests)

module _ (H : List ℕ → List ℕ) (k : ℕ) where
  pub below_part : (digests : List (List ℕ)) → length digests < 2 ^ suc k → stored_below H (suc k) digests ≡ stored_below H k (take (2 ^ k) digests) ++ stored_below H k (drop (2 ^ k) digests)
  unfolding stored_below
  below_part digests h = rw (eq_false (length digests) (2 ^ suc k) (omega arith)) (append-nil (stored_below H k (take (2 ^ k) digests) ++ stored_below H k (drop (2 ^ k) digests)))

  pub below_full : (digests : List (List ℕ)) → length digests ≡ 2 ^ suc k → stored_below H (suc k) digests ≡ stored_below H k (take (2 ^ k) digests) ++ stored_below H k (drop (2 ^ k) digests) ++ subtree_hash H (suc k) digests ∷ []
  unfolding stored_below
  below_full digests h = rw (eq_true (length digests) (2 ^ suc k) h)

none_at_zero : (H : List ℕ → List ℕ) → stored_below H zero [] ≡ []
unfolding stored_below
none_at_zero H = refl

pub below_none : (H : List ℕ → List ℕ) (k : ℕ) → stored_below H k [] ≡ []
below_none H zero = none_at_zero H
below_none H (suc k) =
    let t = take_all {A = List ℕ} (2 ^ k) [] (omega arith) in
    let d = drop_all {X = List ℕ} (2 ^ k) [] (omega arith) in
    below_part H k [] (omega (arith, pow_pos (suc k))) ∙ ap (λ xs. stored_below H k xs ++ stored_below H k (drop (2 ^ k) [])) t ∙ ap (λ xs. stored_below H k [] ++ stored_below H k xs) d
    ∙ ap (λ xs. xs ++ stored_below H k []) (below_none H k) ∙ below_none H k

pub below_low : (H : List ℕ → List ℕ) (k : ℕ) (digests : List (List ℕ)) → length digests ≤ 2 ^ k → stored_below H (suc k) digests ≡ stored_below H k digests
below_low H k digests h =
    let t : take (2 ^ k) digests ≡ digests = take_all (2 ^ k) digests h in
    let d : drop (2 ^ k) digests ≡ [] = drop_all (2 ^ k) digests h in
    below_part H k digests (omega (arith, pow_pos k, twice k)) ∙ ap (λ xs. stored_below H k xs ++ stored_below H k (drop (2 ^ k) digests)) t ∙ ap (λ xs. stored_below H k digests ++ stored_below H k xs) d
    ∙ ap (λ xs. stored_below H k digests ++ xs) (below_none H k) ∙ append-nil (stored_below H k digests)

pub stored_at_height : (H : List ℕ → List ℕ) (j k : ℕ) (digests : List (List ℕ)) → length digests ≤ 2 ^ j → length digests ≤ 2 ^ k → stored_below H j digests ≡ stored_below H k digests
stored_at_height H j k digests hj hk = same_at (λ i. stored_below H i digests) (length digests) (λ i h. below_low H i digests h) j k hj hk

pub ones_zero : count_ones 0 ≡ 0
unfolding lib.Count.ones
ones_zero = refl

pub ones_one : count_ones 1 ≡ 1
unfolding lib.Count.ones
ones_one = refl

pub ones_power : (k : ℕ) → count_ones (2 ^ k) ≡ 1
ones_power k = let e : 1 * 2 ^ k + 0 ≡ 2 ^ k = omega arith in sym (ap count_ones e) ∙ ones_cat k 1 0 (pow_pos k) ∙ omega (arith, ones_zero, ones_one)

pub ones_above : (k r : ℕ) → r < 2 ^ k → count_ones (2 ^ k + r) ≡ 1 + count_ones r
ones_above k r h = let e : 1 * 2 ^ k + r ≡ 2 ^ k + r = omega arith in sym (ap count_ones e) ∙ ones_cat k 1 r h ∙ ap (λ x. x + count_ones r) ones_one

count_at_zero : (H : List ℕ → List ℕ) (digests : List (List ℕ)) → length digests ≤ 1 → length (stored_below H zero digests) + count_ones (length digests) ≡ 2 * length digests
unfolding stored_below
count_at_zero H [] h = omega (arith, ones_zero)
count_at_zero H (digest ∷ []) h = omega (arith, ones_one)
count_at_zero H (digest ∷ (other ∷ digests)) h = absurd (omega arith)

pub counted : (H : List ℕ → List ℕ) (k : ℕ) (digests : List (List ℕ)) → length digests ≤ 2 ^ k → length (stored_below H k digests) + count_ones (length digests) ≡ 2 * length digests
counted H zero digests h = count_at_zero H digests h
counted H (suc k) digests h =
    elim (le_or_lt (length digests) (2 ^ k)) [
      | inl low ↦ (let b = counted H k digests low in let e = ap length (below_low H k digests low) in omega (arith, b, e))
      | inr high ↦ (
          let front = take (2 ^ k) digests in
          let rest = drop (2 ^ k) digests in
          let lf : length front ≡ 2 ^ k = length-take-le (2 ^ k) digests (omega arith) in
          let lr : length rest ≡ length digests - 2 ^ k = length-drop (2 ^ k) digests in
          let of : count_ones (length front) ≡ 1 = ap count_ones lf ∙ ones_power k in
          let a = counted H k front (omega arith) in
          let b = counted H k rest (omega (arith, twice k)) in
          let la = length-append (stored_below H k front) (stored_below H k rest) in
          elim (le_or_lt (2 ^ suc k) (length digests)) [
            | inl full ↦ (
                let e : length digests ≡ 2 ^ suc k = omega arith in
                let ol : count_ones (length digests) ≡ 1 = ap count_ones e ∙ ones_power (suc k) in
                let half : length rest ≡ 2 ^ k = omega (arith, twice k) in
                let or : count_ones (length rest) ≡ 1 = ap count_ones half ∙ ones_power k in
                let lb = ap length (below_full H k digests e) ∙ length-append (stored_below H k front ++ stored_below H k rest) (subtree_hash H (suc k) digests ∷ []) in
                omega (arith, a, b, la, lb, of, or, ol, twice k))
            | inr part ↦ (
                let e : 2 ^ k + length rest ≡ length digests = omega arith in
                let ol : count_ones (length digests) ≡ 1 + count_ones (length rest) = sym (ap count_ones e) ∙ ones_above k (length rest) (omega (arith, twice k)) in
                let lb = ap length (below_part H k digests part) in
                omega (arith, a, b, la, lb, of, ol))
          ])
    ]

-- more digests only append
pub record Grown (old new : List (List ℕ)) : Type 0 where
  pub rest : List (List ℕ)
  pub is : new ≡ old ++ rest

unfoldable pub top : (List ℕ → List ℕ) → ℕ → List (List ℕ) → List (List ℕ)
top H k digests = if length digests == 2 ^ suc k then subtree_hash H (suc k) digests ∷ [] else []

pub below_suc : (H : List ℕ → List ℕ) (k : ℕ) (digests : List (List ℕ)) → stored_below H (suc k) digests ≡ stored_below H k (take (2 ^ k) digests) ++ stored_below H k (drop (2 ^ k) digests) ++ top H k digests
unfolding stored_below top
below_suc H k digests = refl

regrouped : (a b c d : List (List ℕ)) → a ++ b ++ c ++ d ≡ a ++ (b ++ (c ++ d))
regrouped a b c d = simp append_assoc

halved : (a b c d : List (List ℕ)) → a ++ (b ++ c) ++ d ≡ a ++ b ++ (c ++ d)
halved a b c d = simp append_assoc

grown_at_zero : (H : List ℕ → List ℕ) (digests more : List (List ℕ)) → length (digests ++ more) ≤ 1 → Grown (stored_below H zero digests) (stored_below H zero (digests ++ more))
unfolding stored_below
grown_at_zero H [] more h = record { rest = stored_below H zero more; is = refl }
grown_at_zero H (digest ∷ digests) more h = record { rest = []; is = refl }

pub grown : (H : List ℕ → List ℕ) (k : ℕ) (digests more : List (List ℕ)) → length (digests ++ more) ≤ 2 ^ k → Grown (stored_below H k digests) (stored_below H k (digests ++ more))
grown H zero digests more h = grown_at_zero H digests more h
grown H (suc k) digests more h =
    let both = digests ++ more in
    let sizes : length both ≡ length digests + length more = length-append digests more in
    elim (le_or_lt (length digests) (2 ^ k)) [
      | inl low ↦ (
          let room = 2 ^ k - length digests in
          let fill = take room more in
          let e : length digests + room ≡ 2 ^ k = omega arith in
          let t : take (2 ^ k) both ≡ digests ++ fill = sym (ap (λ n. take n both) e) ∙ take-append-add digests more room in
          let fits : length (digests ++ fill) ≤ 2 ^ k = omega (arith, length-append digests fill, length-take room more) in
          let below = grown H k digests fill fits in
          record {
            rest = below.rest ++ (stored_below H k (drop (2 ^ k) both) ++ top H k both);
            is = below_suc H k both ∙ ap (λ xs. stored_below H k xs ++ stored_below H k (drop (2 ^ k) both) ++ top H k both) t
                ∙ ap (λ xs. xs ++ stored_below H k (drop (2 ^ k) both) ++ top H k both) below.is
                ∙ regrouped (stored_below H k digests) below.rest (stored_below H k (drop (2 ^ k) both)) (top H k both)
                ∙ ap (λ xs. xs ++ (below.rest ++ (stored_below H k (drop (2 ^ k) both) ++ top H k both))) (sym (below_low H k digests low));
          })
      | inr high ↦ (
          let front = take (2 ^ k) digests in
          let back = drop (2 ^ k) digests in
          elim (le_or_lt (2 ^ suc k) (length digests)) [
            | inl full ↦ (
                let none : more ≡ [] = nil_from_length more (omega arith) in
                let same : both ≡ digests = ap (λ xs. digests ++ xs) none ∙ append-nil digests in
                record { rest = []; is = ap (stored_below H (suc k)) same ∙ sym (append-nil (stored_below H (suc k) digests)) })
            | inr part ↦ (
                let t : take (2 ^ k) both ≡ front = take-append-le (2 ^ k) digests more (omega arith) in
                let d : drop (2 ^ k) both ≡ back ++ more = drop-append-le (2 ^ k) digests more (omega arith) in
                let fits : length (back ++ more) ≤ 2 ^ k = omega (arith, length-append back more, length-drop (2 ^ k) digests, twice k) in
                let below = grown H k back more fits in
                record {
                  rest = below.rest ++ top H k both;
                  is = below_suc H k both ∙ ap (λ xs. stored_below H k xs ++ stored_below H k (drop (2 ^ k) both) ++ top H k both) t
                      ∙ ap (λ xs. stored_below H k front ++ xs ++ top H k both) (ap (stored_below H k) d ∙ below.is)
                      ∙ halved (stored_below H k front) (stored_below H k back) below.rest (top H k both)
                      ∙ ap (λ xs. xs ++ (below.rest ++ top H k both)) (sym (below_part H k digests part));
                })
          ])
    ]
