-- The height that a tree is given does not matter, once its leaves fit.
use Rattle.std.proofs.Common.{◌≡◌, ℕ, zero, suc, ◌+◌, ◌-◌, ◌^◌, ◌≤◌, List, [], ◌∷◌, length, take, drop, inl, inr, refl, sym, ap, ◌∙◌, arith}
use Rattle.std.proofs.Math.Nat.{zero-add, suc-add}
use Rattle.std.proofs.lemmas.List.{length-take-le, length-drop, length-map, take-map, drop-map}
use Rattle.std.proofs.Math.Pow.{pow_mono}
use Rattle.authenticated_bitmap.specs.Tree.{leaf_hash, leaf_hashes, node_hash, subtree_hash, siblings, climbed, tree_hash, SplitsAtPower}
use Rattle.authenticated_bitmap.proofs.Tests.{le_or_lt}
use Rattle.authenticated_bitmap.proofs.Steps.{hash_low, hash_split, siblings_low, climbed_low}
use Rattle.authenticated_bitmap.proofs.Complete.{twice, below_power}

-- a value by height that one more height does not change is the same at any two heights
pub same_higher : {A : Type 0} (f : ℕ → A) (k : ℕ) → ((j : ℕ) → k ≤ j → f (suc j) ≡ f j) → (more : ℕ) → f (more + k) ≡ f k
same_higher f k step zero = ap f (zero-add k)
same_higher f k step (suc more) = ap f (suc-add more k) ∙ step (more + k) (omega arith) ∙ same_higher f k step more

pub same_at : {A : Type 0} (f : ℕ → A) (n : ℕ) → ((j : ℕ) → n ≤ 2 ^ j → f (suc j) ≡ f j) → (j k : ℕ) → n ≤ 2 ^ j → n ≤ 2 ^ k → f j ≡ f k
same_at f n step j k hj hk =
    elim (le_or_lt j k) [
      | inl le ↦ (
          let e : (k - j) + j ≡ k = omega arith in
          sym (ap f (sym e) ∙ same_higher f j (λ i h. let p : 2 ^ j ≤ 2 ^ i = pow_mono h in step i (omega arith)) (k - j)))
      | inr lt ↦ (
          let e : (j - k) + k ≡ j = omega arith in
          ap f (sym e) ∙ same_higher f k (λ i h. let p : 2 ^ k ≤ 2 ^ i = pow_mono h in step i (omega arith)) (j - k))
    ]

module _ (H : List ℕ → List ℕ) (j k : ℕ) where
  pub hash_same : (digests : List (List ℕ)) → length digests ≤ 2 ^ j → length digests ≤ 2 ^ k → subtree_hash H j digests ≡ subtree_hash H k digests
  hash_same digests hj hk = same_at (λ i. subtree_hash H i digests) (length digests) (λ i h. hash_low H i digests h) j k hj hk

  pub siblings_same : (i : ℕ) (digests : List (List ℕ)) → length digests ≤ 2 ^ j → length digests ≤ 2 ^ k → siblings H j i digests ≡ siblings H k i digests
  siblings_same i digests hj hk = same_at (λ h. siblings H h i digests) (length digests) (λ h l. siblings_low H h i digests l) j k hj hk

  pub climbed_same_height : (i n : ℕ) (digest : List ℕ) (path : List (List ℕ)) → n ≤ 2 ^ j → n ≤ 2 ^ k → climbed H j i n digest path ≡ climbed H k i n digest path
  climbed_same_height i n digest path hj hk = same_at (λ h. climbed H h i n digest path) n (λ h l. climbed_low H h i n digest path l) j k hj hk

-- at any height that fits
pub tree_at : (H : List ℕ → List ℕ) (k : ℕ) (digests : List (List ℕ)) → length digests ≤ 2 ^ k → subtree_hash H k digests ≡ tree_hash H digests
tree_at H k digests h = hash_same H k (length digests) digests h (below_power (length digests))

pub tree_none : (H : List ℕ → List ℕ) → tree_hash H [] ≡ H []
unfolding subtree_hash
tree_none H = refl

one_at_zero : (H : List ℕ → List ℕ) (digest : List ℕ) → subtree_hash H zero (digest ∷ []) ≡ digest
unfolding subtree_hash
one_at_zero H digest = refl

tree_one : (H : List ℕ → List ℕ) (digest : List ℕ) → tree_hash H (digest ∷ []) ≡ digest
tree_one H digest = sym (tree_at H zero (digest ∷ []) (omega arith)) ∙ one_at_zero H digest

-- the tree of leaves by its parts
pub splits : (H : List ℕ → List ℕ) → SplitsAtPower H
splits H = record {
  none = tree_none H;
  one = λ leaf. tree_one H (leaf_hash H leaf);
  more = λ leaves k h l.
      let digests = leaf_hashes H leaves in
      let len : length digests ≡ length leaves = length-map leaves (leaf_hash H) in
      let front : length (take (2 ^ k) digests) ≤ 2 ^ k = omega (arith, length-take-le (2 ^ k) digests (omega arith)) in
      let rest : length (drop (2 ^ k) digests) ≤ 2 ^ k = omega (arith, length-drop (2 ^ k) digests) in
      let fits : length digests ≤ 2 ^ suc k = omega (arith, twice k) in
      sym (tree_at H (suc k) digests fits) ∙ hash_split H k digests (omega arith)
      ∙ ap (λ left. node_hash H left (subtree_hash H k (drop (2 ^ k) digests))) (tree_at H k (take (2 ^ k) digests) front)
      ∙ ap (λ right. node_hash H (tree_hash H (take (2 ^ k) digests)) right) (tree_at H k (drop (2 ^ k) digests) rest)
      ∙ ap (λ left. node_hash H (tree_hash H left) (tree_hash H (drop (2 ^ k) digests))) (take-map (leaf_hash H) (2 ^ k) leaves)
      ∙ ap (λ right. node_hash H (tree_hash H (leaf_hashes H (take (2 ^ k) leaves))) (tree_hash H right)) (drop-map (leaf_hash H) (2 ^ k) leaves);
}
