-- The definitions of the tree as the code goes through them: at a height, and half of the leaves that fit it.
use Rattle.std.proofs.Common.{◌≡◌, ◌≢◌, ℕ, zero, suc, ◌-◌, ◌^◌, ◌<◌, ◌≤◌, List, [], ◌∷◌, ◌++◌, length, take, drop, reverse, Some, None, refl, sym, ap, ◌∙◌, arith, append_assoc}
use Rattle.std.specs.Option.{option_map}
use Rattle.std.proofs.lemmas.List.{take_rest, reverse-append, append-nil, length-reverse}
use Rattle.authenticated_bitmap.specs.Tree.{node_hash, subtree_hash, siblings, climbed}
use Rattle.authenticated_bitmap.proofs.Steps.{hash_low, hash_split, siblings_low, siblings_left, siblings_right, climbed_low, climbed_short, climbed_left, climbed_right}

module _ (H : List ℕ → List ℕ) (h half : ℕ) (e : half ≡ 2 ^ (h - 1)) (p : 0 < h) where
  up : suc (h - 1) ≡ h
  up = omega arith

  pub code_hash_low : (digests : List (List ℕ)) → length digests ≤ half → subtree_hash H (h - 1) digests ≡ subtree_hash H h digests
  code_hash_low digests l = sym (hash_low H (h - 1) digests (omega arith)) ∙ ap (λ k. subtree_hash H k digests) up

  pub code_hash_split : (digests : List (List ℕ)) → half < length digests → node_hash H (subtree_hash H (h - 1) (take half digests)) (subtree_hash H (h - 1) (take (length digests - half) (drop half digests))) ≡ subtree_hash H h digests
  code_hash_split digests l =
      ap (λ rest. node_hash H (subtree_hash H (h - 1) (take half digests)) (subtree_hash H (h - 1) rest)) (take_rest digests half)
      ∙ ap (λ m. node_hash H (subtree_hash H (h - 1) (take m digests)) (subtree_hash H (h - 1) (drop m digests))) e
      ∙ sym (hash_split H (h - 1) digests (omega arith)) ∙ ap (λ k. subtree_hash H k digests) up

  pub code_siblings_low : (i : ℕ) (digests : List (List ℕ)) → length digests ≤ half → siblings H (h - 1) i digests ≡ siblings H h i digests
  code_siblings_low i digests l = sym (siblings_low H (h - 1) i digests (omega arith)) ∙ ap (λ k. siblings H k i digests) up

  pushed : (old below : List (List ℕ)) (top : List ℕ) → (old ++ reverse below) ++ top ∷ [] ≡ old ++ reverse (top ∷ below)
  pushed old below top = append_assoc old (reverse below) (top ∷ []) ∙ ap (λ s. old ++ s) (sym (reverse-append (top ∷ []) below))

  pub code_siblings_left : (old : List (List ℕ)) (i : ℕ) (digests : List (List ℕ)) → half < length digests → i < half
      → (old ++ reverse (siblings H (h - 1) i (take half digests))) ++ subtree_hash H (h - 1) (take (length digests - half) (drop half digests)) ∷ [] ≡ old ++ reverse (siblings H h i digests)
  code_siblings_left old i digests l b =
      pushed old (siblings H (h - 1) i (take half digests)) (subtree_hash H (h - 1) (take (length digests - half) (drop half digests)))
      ∙ ap (λ rest. old ++ reverse (subtree_hash H (h - 1) rest ∷ siblings H (h - 1) i (take half digests))) (take_rest digests half)
      ∙ ap (λ m. old ++ reverse (subtree_hash H (h - 1) (drop m digests) ∷ siblings H (h - 1) i (take m digests))) e
      ∙ ap (λ s. old ++ reverse s) (sym (siblings_left H (h - 1) i digests (omega arith) (omega arith)) ∙ ap (λ k. siblings H k i digests) up)

  pub code_siblings_right : (old : List (List ℕ)) (i : ℕ) (digests : List (List ℕ)) → half < length digests → half ≤ i
      → (old ++ reverse (siblings H (h - 1) (i - half) (take (length digests - half) (drop half digests)))) ++ subtree_hash H (h - 1) (take half digests) ∷ [] ≡ old ++ reverse (siblings H h i digests)
  code_siblings_right old i digests l b =
      pushed old (siblings H (h - 1) (i - half) (take (length digests - half) (drop half digests))) (subtree_hash H (h - 1) (take half digests))
      ∙ ap (λ rest. old ++ reverse (subtree_hash H (h - 1) (take half digests) ∷ siblings H (h - 1) (i - half) rest)) (take_rest digests half)
      ∙ ap (λ m. old ++ reverse (subtree_hash H (h - 1) (take m digests) ∷ siblings H (h - 1) (i - m) (drop m digests))) e
      ∙ ap (λ s. old ++ reverse s) (sym (siblings_right H (h - 1) i digests (omega arith) (omega arith)) ∙ ap (λ k. siblings H k i digests) up)

  pub code_climbed_low : (i n : ℕ) (digest : List ℕ) (path : List (List ℕ)) → n ≤ half → climbed H (h - 1) i n digest path ≡ climbed H h i n digest path
  code_climbed_low i n digest path l = sym (climbed_low H (h - 1) i n digest path (omega arith)) ∙ ap (λ k. climbed H k i n digest path) up

  pub code_climbed_short : (i n : ℕ) (digest : List ℕ) (path : List (List ℕ)) → half < n → length path ≡ 0 → None ≡ climbed H h i n digest (reverse path)
  code_climbed_short i n digest [] l z = sym (climbed_short H (h - 1) i n digest (omega arith)) ∙ ap (λ k. climbed H k i n digest []) up
  code_climbed_short i n digest (x ∷ path) l z = absurd (omega arith)

  turned : (path below : List (List ℕ)) (beside : List ℕ) → path ≡ below ++ beside ∷ [] → reverse path ≡ beside ∷ reverse below
  turned path below beside s = ap reverse s ∙ reverse-append below (beside ∷ [])

  pub code_climbed_left : (i n : ℕ) (digest : List ℕ) (path below : List (List ℕ)) (beside : List ℕ) → half < n → i < half → path ≡ below ++ beside ∷ []
      → option_map (λ left. node_hash H left beside) (climbed H (h - 1) i half digest (reverse below)) ≡ climbed H h i n digest (reverse path)
  code_climbed_left i n digest path below beside l b s =
      ap (λ m. option_map (λ left. node_hash H left beside) (climbed H (h - 1) i m digest (reverse below))) e
      ∙ sym (climbed_left H (h - 1) i n digest beside (reverse below) (omega arith) (omega arith))
      ∙ ap (λ k. climbed H k i n digest (beside ∷ reverse below)) up
      ∙ ap (climbed H h i n digest) (sym (turned path below beside s))

  pub code_climbed_right : (i n : ℕ) (digest : List ℕ) (path below : List (List ℕ)) (beside : List ℕ) → half < n → half ≤ i → path ≡ below ++ beside ∷ []
      → option_map (λ right. node_hash H beside right) (climbed H (h - 1) (i - half) (n - half) digest (reverse below)) ≡ climbed H h i n digest (reverse path)
  code_climbed_right i n digest path below beside l b s =
      ap (λ m. option_map (λ right. node_hash H beside right) (climbed H (h - 1) (i - m) (n - m) digest (reverse below))) e
      ∙ sym (climbed_right H (h - 1) i n digest beside (reverse below) (omega arith) (omega arith))
      ∙ ap (λ k. climbed H k i n digest (beside ∷ reverse below)) up
      ∙ ap (climbed H h i n digest) (sym (turned path below beside s))

module _ (H : List ℕ → List ℕ) where
  hash_none : subtree_hash H zero [] ≡ H []
  unfolding subtree_hash
  hash_none = refl

  hash_leaf : (digest : List ℕ) (digests : List (List ℕ)) → subtree_hash H zero (digest ∷ digests) ≡ digest
  unfolding subtree_hash
  hash_leaf digest digests = refl

  -- at height 0
  pub code_hash_none : (h : ℕ) (digests : List (List ℕ)) → h ≡ 0 → length digests ≡ 0 → H [] ≡ subtree_hash H h digests
  code_hash_none h [] z l = sym hash_none ∙ ap (λ k. subtree_hash H k []) (sym z)
  code_hash_none h (digest ∷ digests) z l = absurd (omega arith)

  pub code_hash_leaf : (h : ℕ) (digest : List ℕ) (digests : List (List ℕ)) → h ≡ 0 → digests ≡ digest ∷ drop 1 digests → digest ≡ subtree_hash H h digests
  code_hash_leaf h digest digests z l = sym (hash_leaf digest (drop 1 digests)) ∙ ap (λ k. subtree_hash H k (digest ∷ drop 1 digests)) (sym z) ∙ ap (subtree_hash H h) (sym l)

  no_siblings : (i : ℕ) (digests : List (List ℕ)) → siblings H zero i digests ≡ []
  unfolding siblings
  no_siblings i digests = refl

  pub code_no_siblings : (h i : ℕ) (old digests : List (List ℕ)) → h ≡ 0 → old ≡ old ++ reverse (siblings H h i digests)
  code_no_siblings h i old digests z = sym (append-nil old) ∙ ap (λ s. old ++ reverse s) (sym (no_siblings i digests) ∙ ap (λ k. siblings H k i digests) (sym z))

  climbed_done : (i n : ℕ) (digest : List ℕ) → climbed H zero i n digest [] ≡ Some digest
  unfolding climbed
  climbed_done i n digest = refl

  climbed_long : (i n : ℕ) (digest : List ℕ) (path : List (List ℕ)) → length path ≢ 0 → None ≡ climbed H zero i n digest path
  unfolding climbed
  climbed_long i n digest [] l = absurd (l refl)
  climbed_long i n digest (x ∷ path) l = refl

  pub code_climbed_done : (h i n : ℕ) (digest : List ℕ) (path : List (List ℕ)) → h ≡ 0 → length path ≡ 0 → Some digest ≡ climbed H h i n digest (reverse path)
  code_climbed_done h i n digest [] z l = sym (climbed_done i n digest) ∙ ap (λ k. climbed H k i n digest []) (sym z)
  code_climbed_done h i n digest (x ∷ path) z l = absurd (omega arith)

  pub code_climbed_long : (h i n : ℕ) (digest : List ℕ) (path : List (List ℕ)) → h ≡ 0 → length path ≢ 0 → None ≡ climbed H h i n digest (reverse path)
  code_climbed_long h i n digest path z l =
      climbed_long i n digest (reverse path) (λ m. l (simp length-reverse at m)) ∙ ap (λ k. climbed H k i n digest (reverse path)) (sym z)
