-- A leaf and its audit path give the digest of the tree.
use Rattle.std.proofs.Common.{◌≡◌, ℕ, zero, suc, ◌+◌, ◌-◌, ◌^◌, ◌<◌, ◌≤◌, List, [], ◌∷◌, length, take, drop, get_or, Some, inl, inr, refl, ap, ◌∙◌, arith}
use Rattle.std.specs.Option.{option_map}
use Rattle.std.proofs.Math.Nat.{pow-suc}
use Rattle.std.proofs.lemmas.List.{length-take-le, length-drop, get_or-take, get_or-drop, reverse-reverse}
use Rattle.std.proofs.lemmas.Nat.{pow_pos}
use Rattle.authenticated_bitmap.specs.Tree.{node_hash, subtree_hash, siblings, climbed, tree_hash, audit_path, root_from_path}
use Rattle.authenticated_bitmap.proofs.Tests.{le_or_lt}
use Rattle.authenticated_bitmap.proofs.Steps.{hash_low, hash_split, siblings_low, siblings_left, siblings_right, climbed_low, climbed_left, climbed_right}

-- the way to the only leaf
at_leaf : (H : List ℕ → List ℕ) (i : ℕ) (digests : List (List ℕ)) → i < length digests → length digests ≤ 1 → climbed H zero i (length digests) (get_or digests i []) (siblings H zero i digests) ≡ Some (subtree_hash H zero digests)
unfolding climbed siblings subtree_hash
at_leaf H i [] l h = absurd (omega arith)
at_leaf H zero (digest ∷ []) l h = refl
at_leaf H (suc i) (digest ∷ []) l h = absurd (omega arith)
at_leaf H i (digest ∷ (other ∷ digests)) l h = absurd (omega arith)

-- twice a power is the next
pub twice : (k : ℕ) → 2 ^ suc k ≡ 2 ^ k + 2 ^ k
twice k = omega (arith, pow-suc 2 k)

-- a number is at most a power of two with that exponent
pub below_power : (n : ℕ) → n ≤ 2 ^ n
below_power zero = omega arith
below_power (suc n) = omega (arith, twice n, below_power n, pow_pos n)

pub climbed_siblings : (H : List ℕ → List ℕ) (k i : ℕ) (digests : List (List ℕ)) → i < length digests → length digests ≤ 2 ^ k → climbed H k i (length digests) (get_or digests i []) (siblings H k i digests) ≡ Some (subtree_hash H k digests)
climbed_siblings H zero i digests l h = at_leaf H i digests l h
climbed_siblings H (suc k) i digests l h =
    elim (le_or_lt (length digests) (2 ^ k)) [
      | inl low ↦ rw (siblings_low H k i digests low, climbed_low H k i (length digests) (get_or digests i []) (siblings H k i digests) low, hash_low H k digests low) (climbed_siblings H k i digests l low)
      | inr high ↦ elim (le_or_lt (2 ^ k) i) [
        | inl r ↦ (
            let rest = drop (2 ^ k) digests in
            let len : length rest ≡ length digests - 2 ^ k = length-drop (2 ^ k) digests in
            let at : get_or rest (i - 2 ^ k) [] ≡ get_or digests i [] = get_or-drop (2 ^ k) digests (i - 2 ^ k) [] ∙ (let e : 2 ^ k + (i - 2 ^ k) ≡ i = omega arith in ap (λ j. get_or digests j []) e) in
            let within : i - 2 ^ k < length rest = omega arith in
            let fits : length rest ≤ 2 ^ k = omega (arith, twice k) in
            let below = climbed_siblings H k (i - 2 ^ k) rest within fits in
            let step : climbed H k (i - 2 ^ k) (length digests - 2 ^ k) (get_or digests i []) (siblings H k (i - 2 ^ k) rest) ≡ Some (subtree_hash H k rest) = cc in
            rw (siblings_right H k i digests high r, hash_split H k digests high, climbed_right H k i (length digests) (get_or digests i []) (subtree_hash H k (take (2 ^ k) digests)) (siblings H k (i - 2 ^ k) rest) high r)
            (ap (option_map (λ right. node_hash H (subtree_hash H k (take (2 ^ k) digests)) right)) step))
        | inr s ↦ (
            let front = take (2 ^ k) digests in
            let len : length front ≡ 2 ^ k = length-take-le (2 ^ k) digests (omega arith) in
            let at : get_or front i [] ≡ get_or digests i [] = get_or-take (2 ^ k) digests i [] s in
            let within : i < length front = omega arith in
            let fits : length front ≤ 2 ^ k = omega arith in
            let below = climbed_siblings H k i front within fits in
            let step : climbed H k i (2 ^ k) (get_or digests i []) (siblings H k i front) ≡ Some (subtree_hash H k front) = cc in
            rw (siblings_left H k i digests high s, hash_split H k digests high, climbed_left H k i (length digests) (get_or digests i []) (subtree_hash H k (drop (2 ^ k) digests)) (siblings H k i front) high s)
            (ap (option_map (λ left. node_hash H left (subtree_hash H k (drop (2 ^ k) digests)))) step))
      ]
    ]

pub path_gives_tree : (H : List ℕ → List ℕ) (digests : List (List ℕ)) (i : ℕ) → i < length digests → root_from_path H i (length digests) (get_or digests i []) (audit_path H i digests) ≡ Some (tree_hash H digests)
path_gives_tree H digests i l = rw (reverse-reverse (siblings H (length digests) i digests)) (climbed_siblings H (length digests) i digests l (below_power (length digests)))
