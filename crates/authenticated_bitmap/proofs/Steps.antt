-- What the definitions of the tree compute to, by the case of their tests.
use Rattle.std.proofs.Common.{◌≡◌, ℕ, suc, ◌-◌, ◌^◌, ◌<◌, ◌≤◌, List, [], ◌∷◌, ◌++◌, length, take, drop, Some, None, sym, ap, ◌∙◌, All}
use Rattle.std.specs.Option.{option_map}
use Rattle.authenticated_bitmap.specs.Tree.{node_input, node_hash, subtree_hash, siblings, climbed, and_above, hashed, subtree_inputs, AreBytes}
use Rattle.std.proofs.lemmas.List.Elements.{All-head, All-tail}
use Rattle.authenticated_bitmap.proofs.Tests.{le_true, le_false, lt_true, lt_false, mapped}

module _ (H : List ℕ → List ℕ) (k : ℕ) where
  pub hash_low : (digests : List (List ℕ)) → length digests ≤ 2 ^ k → subtree_hash H (suc k) digests ≡ subtree_hash H k digests
  unfolding subtree_hash
  hash_low digests h = rw (le_true (length digests) (2 ^ k) h)

  pub hash_split : (digests : List (List ℕ)) → 2 ^ k < length digests → subtree_hash H (suc k) digests ≡ node_hash H (subtree_hash H k (take (2 ^ k) digests)) (subtree_hash H k (drop (2 ^ k) digests))
  unfolding subtree_hash
  hash_split digests h = rw (le_false (length digests) (2 ^ k) h)

  pub inputs_low : (digests : List (List ℕ)) → length digests ≤ 2 ^ k → subtree_inputs H (suc k) digests ≡ subtree_inputs H k digests
  unfolding subtree_inputs
  inputs_low digests h = rw (le_true (length digests) (2 ^ k) h)

  pub inputs_split : (digests : List (List ℕ)) → 2 ^ k < length digests
      → subtree_inputs H (suc k) digests ≡ node_input (subtree_hash H k (take (2 ^ k) digests)) (subtree_hash H k (drop (2 ^ k) digests)) ∷ (subtree_inputs H k (take (2 ^ k) digests) ++ subtree_inputs H k (drop (2 ^ k) digests))
  unfolding subtree_inputs
  inputs_split digests h = rw (le_false (length digests) (2 ^ k) h)

  pub siblings_low : (i : ℕ) (digests : List (List ℕ)) → length digests ≤ 2 ^ k → siblings H (suc k) i digests ≡ siblings H k i digests
  unfolding siblings
  siblings_low i digests h = rw (le_true (length digests) (2 ^ k) h)

  pub siblings_left : (i : ℕ) (digests : List (List ℕ)) → 2 ^ k < length digests → i < 2 ^ k → siblings H (suc k) i digests ≡ subtree_hash H k (drop (2 ^ k) digests) ∷ siblings H k i (take (2 ^ k) digests)
  unfolding siblings
  siblings_left i digests h l = rw (le_false (length digests) (2 ^ k) h, lt_true i (2 ^ k) l)

  pub siblings_right : (i : ℕ) (digests : List (List ℕ)) → 2 ^ k < length digests → 2 ^ k ≤ i → siblings H (suc k) i digests ≡ subtree_hash H k (take (2 ^ k) digests) ∷ siblings H k (i - 2 ^ k) (drop (2 ^ k) digests)
  unfolding siblings
  siblings_right i digests h l = rw (le_false (length digests) (2 ^ k) h, lt_false i (2 ^ k) l)

  pub climbed_low : (i n : ℕ) (digest : List ℕ) (path : List (List ℕ)) → n ≤ 2 ^ k → climbed H (suc k) i n digest path ≡ climbed H k i n digest path
  unfolding climbed
  climbed_low i n digest [] h = rw (le_true n (2 ^ k) h)
  climbed_low i n digest (beside ∷ path) h = rw (le_true n (2 ^ k) h)

  pub climbed_short : (i n : ℕ) (digest : List ℕ) → 2 ^ k < n → climbed H (suc k) i n digest [] ≡ None
  unfolding climbed
  climbed_short i n digest h = rw (le_false n (2 ^ k) h)

  pub climbed_left : (i n : ℕ) (digest beside : List ℕ) (path : List (List ℕ)) → 2 ^ k < n → i < 2 ^ k → climbed H (suc k) i n digest (beside ∷ path) ≡ option_map (λ left. node_hash H left beside) (climbed H k i (2 ^ k) digest path)
  unfolding climbed
  climbed_left i n digest beside path h l = rw (le_false n (2 ^ k) h, lt_true i (2 ^ k) l)

  pub climbed_right : (i n : ℕ) (digest beside : List ℕ) (path : List (List ℕ)) → 2 ^ k < n → 2 ^ k ≤ i → climbed H (suc k) i n digest (beside ∷ path) ≡ option_map (λ right. node_hash H beside right) (climbed H k (i - 2 ^ k) (n - 2 ^ k) digest path)
  unfolding climbed
  climbed_right i n digest beside path h l = rw (le_false n (2 ^ k) h, lt_false i (2 ^ k) l)

  pub hashed_low : (i n : ℕ) (digest : List ℕ) (path : List (List ℕ)) → n ≤ 2 ^ k → hashed H (suc k) i n digest path ≡ hashed H k i n digest path
  unfolding hashed
  hashed_low i n digest [] h = rw (le_true n (2 ^ k) h)
  hashed_low i n digest (beside ∷ path) h = rw (le_true n (2 ^ k) h)

  pub hashed_left : (i n : ℕ) (digest beside : List ℕ) (path : List (List ℕ)) → 2 ^ k < n → i < 2 ^ k
      → hashed H (suc k) i n digest (beside ∷ path) ≡ and_above (λ left. node_input left beside) (climbed H k i (2 ^ k) digest path) (hashed H k i (2 ^ k) digest path)
  unfolding hashed
  hashed_left i n digest beside path h l = rw (le_false n (2 ^ k) h, lt_true i (2 ^ k) l)

  pub hashed_right : (i n : ℕ) (digest beside : List ℕ) (path : List (List ℕ)) → 2 ^ k < n → 2 ^ k ≤ i
      → hashed H (suc k) i n digest (beside ∷ path) ≡ and_above (λ right. node_input beside right) (climbed H k (i - 2 ^ k) (n - 2 ^ k) digest path) (hashed H k (i - 2 ^ k) (n - 2 ^ k) digest path)
  unfolding hashed
  hashed_right i n digest beside path h l = rw (le_false n (2 ^ k) h, lt_false i (2 ^ k) l)

-- a way that goes on to the left, or to the right, from a root with the digest tree, and what is hashed on it
pub record Leftwards (H : List ℕ → List ℕ) (k i : ℕ) (digest tree : List ℕ) (inputs : List (List ℕ)) : Type 0 where
  pub beside : List ℕ
  pub below : List (List ℕ)
  pub left : List ℕ
  pub was : climbed H k i (2 ^ k) digest below ≡ Some left
  pub gives : node_hash H left beside ≡ tree
  pub hashes : inputs ≡ node_input left beside ∷ hashed H k i (2 ^ k) digest below
  pub beside_bytes : AreBytes beside
  pub below_bytes : All AreBytes below

pub record Rightwards (H : List ℕ → List ℕ) (k i n : ℕ) (digest tree : List ℕ) (inputs : List (List ℕ)) : Type 0 where
  pub beside : List ℕ
  pub below : List (List ℕ)
  pub right : List ℕ
  pub was : climbed H k (i - 2 ^ k) (n - 2 ^ k) digest below ≡ Some right
  pub gives : node_hash H beside right ≡ tree
  pub hashes : inputs ≡ node_input beside right ∷ hashed H k (i - 2 ^ k) (n - 2 ^ k) digest below
  pub beside_bytes : AreBytes beside
  pub below_bytes : All AreBytes below

pub leftwards : (H : List ℕ → List ℕ) (k i n : ℕ) (digest : List ℕ) (path : List (List ℕ)) (tree : List ℕ) → All AreBytes path → 2 ^ k < n → i < 2 ^ k → climbed H (suc k) i n digest path ≡ Some tree → Leftwards H k i digest tree (hashed H (suc k) i n digest path)
leftwards H k i n digest [] tree bytes h l e = let short = climbed_short H k i n digest h in cc
leftwards H k i n digest (beside ∷ path) tree bytes h l e =
    let m = mapped (λ left. node_hash H left beside) (climbed H k i (2 ^ k) digest path) tree (sym (climbed_left H k i n digest beside path h l) ∙ e) in
    let t = hashed_left H k i n digest beside path h l ∙ ap (λ o. and_above (λ left. node_input left beside) o (hashed H k i (2 ^ k) digest path)) m.was in
    record { beside = beside; below = path; left = m.before; was = m.was; gives = m.gives; hashes = t; beside_bytes = All-head AreBytes beside path bytes; below_bytes = All-tail AreBytes beside path bytes }

pub rightwards : (H : List ℕ → List ℕ) (k i n : ℕ) (digest : List ℕ) (path : List (List ℕ)) (tree : List ℕ) → All AreBytes path → 2 ^ k < n → 2 ^ k ≤ i → climbed H (suc k) i n digest path ≡ Some tree → Rightwards H k i n digest tree (hashed H (suc k) i n digest path)
rightwards H k i n digest [] tree bytes h l e = let short = climbed_short H k i n digest h in cc
rightwards H k i n digest (beside ∷ path) tree bytes h l e =
    let m = mapped (λ right. node_hash H beside right) (climbed H k (i - 2 ^ k) (n - 2 ^ k) digest path) tree (sym (climbed_right H k i n digest beside path h l) ∙ e) in
    let t = hashed_right H k i n digest beside path h l ∙ ap (λ o. and_above (λ right. node_input beside right) o (hashed H k (i - 2 ^ k) (n - 2 ^ k) digest path)) m.was in
    record { beside = beside; below = path; right = m.before; was = m.was; gives = m.gives; hashes = t; beside_bytes = All-head AreBytes beside path bytes; below_bytes = All-tail AreBytes beside path bytes }
