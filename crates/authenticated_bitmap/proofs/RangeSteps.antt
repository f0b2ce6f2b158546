-- What the definitions of ranges compute to, by the case of their tests.
use Rattle.std.proofs.Common.{◌≡◌, ℕ, zero, suc, ◌-◌, ◌^◌, ◌<◌, ◌≤◌, min, List, [], ◌∷◌, ◌++◌, length, take, drop, Option, Some, None, refl, sym, ap, ◌∙◌, arith}
use Rattle.std.specs.Option.{option_map, option_and_then}
use Rattle.authenticated_bitmap.specs.Tree.{subtree_hash}
use Rattle.authenticated_bitmap.specs.Range.{siblings_below, Rebuilt, above_both, rebuilt}
use Rattle.authenticated_bitmap.proofs.Tests.{le_true, le_false}
use Rattle.authenticated_bitmap.proofs.Steps.{hash_low}

-- what both parts of a tree rebuild
pub rebuilt_parts : (List ℕ → List ℕ) → ℕ → ℕ → ℕ → List (List ℕ) → List (List ℕ) → Option Rebuilt
rebuilt_parts H k n first range siblings =
    option_and_then (λ left. option_map (above_both H left) (rebuilt H k (n - 2 ^ k) (first - 2 ^ k) (drop (2 ^ k - first) range) left.rest))
    (rebuilt H k (2 ^ k) first (take (2 ^ k - first) range) siblings)

module _ (H : List ℕ → List ℕ) where
  pub siblings_none : (k first : ℕ) (digests : List (List ℕ)) → siblings_below H k first 0 digests ≡ subtree_hash H k digests ∷ []
  unfolding siblings_below
  siblings_none zero first digests = refl
  siblings_none (suc k) first digests = refl

  pub siblings_leaf : (first count : ℕ) (digests : List (List ℕ)) → 0 < count → siblings_below H zero first count digests ≡ []
  unfolding siblings_below
  siblings_leaf first zero digests h = absurd (omega arith)
  siblings_leaf first (suc count) digests h = refl

  pub range_low : (k first count : ℕ) (digests : List (List ℕ)) → length digests ≤ 2 ^ k → siblings_below H (suc k) first count digests ≡ siblings_below H k first count digests
  unfolding siblings_below
  range_low k first zero digests h = ap (λ d. d ∷ []) (hash_low H k digests h) ∙ sym (siblings_none k first digests)
  range_low k first (suc count) digests h = rw (le_true (length digests) (2 ^ k) h)

  pub range_split : (k first count : ℕ) (digests : List (List ℕ)) → 0 < count → 2 ^ k < length digests
      → siblings_below H (suc k) first count digests ≡ siblings_below H k first (min (2 ^ k - first) count) (take (2 ^ k) digests) ++ siblings_below H k (first - 2 ^ k) (count - (2 ^ k - first)) (drop (2 ^ k) digests)
  unfolding siblings_below
  range_split k first zero digests p h = absurd (omega arith)
  range_split k first (suc count) digests p h = rw (le_false (length digests) (2 ^ k) h)

  pub rebuilt_missing : (k n first : ℕ) → rebuilt H k n first [] [] ≡ None
  unfolding rebuilt
  rebuilt_missing zero n first = refl
  rebuilt_missing (suc k) n first = refl

  pub rebuilt_sibling : (k n first : ℕ) (sibling : List ℕ) (siblings : List (List ℕ)) → rebuilt H k n first [] (sibling ∷ siblings) ≡ Some (record { digest = sibling; rest = siblings; hashed = [] })
  unfolding rebuilt
  rebuilt_sibling zero n first sibling siblings = refl
  rebuilt_sibling (suc k) n first sibling siblings = refl

  pub rebuilt_leaf : (n first : ℕ) (digest : List ℕ) (range siblings : List (List ℕ)) → rebuilt H zero n first (digest ∷ range) siblings ≡ Some (record { digest = digest; rest = siblings; hashed = [] })
  unfolding rebuilt
  rebuilt_leaf n first digest range siblings = refl

  pub rebuilt_low : (k n first : ℕ) (range siblings : List (List ℕ)) → n ≤ 2 ^ k → rebuilt H (suc k) n first range siblings ≡ rebuilt H k n first range siblings
  unfolding rebuilt
  rebuilt_low k n first [] [] h = sym (rebuilt_missing k n first)
  rebuilt_low k n first [] (sibling ∷ siblings) h = sym (rebuilt_sibling k n first sibling siblings)
  rebuilt_low k n first (digest ∷ range) siblings h = rw (le_true n (2 ^ k) h)

  pub rebuilt_split : (k n first : ℕ) (range siblings : List (List ℕ)) → 0 < length range → 2 ^ k < n → rebuilt H (suc k) n first range siblings ≡ rebuilt_parts H k n first range siblings
  unfolding rebuilt rebuilt_parts
  rebuilt_split k n first [] siblings p h = absurd (omega arith)
  rebuilt_split k n first (digest ∷ range) siblings p h = rw (le_false n (2 ^ k) h)

  parts_missing_left : (k n first : ℕ) (range siblings : List (List ℕ)) → rebuilt H k (2 ^ k) first (take (2 ^ k - first) range) siblings ≡ None → rebuilt_parts H k n first range siblings ≡ None
  unfolding rebuilt_parts
  parts_missing_left k n first range siblings e = ap (option_and_then (λ left. option_map (above_both H left) (rebuilt H k (n - 2 ^ k) (first - 2 ^ k) (drop (2 ^ k - first) range) left.rest))) e

  parts_left : (k n first : ℕ) (range siblings : List (List ℕ)) (left : Rebuilt) → rebuilt H k (2 ^ k) first (take (2 ^ k - first) range) siblings ≡ Some left
      → rebuilt_parts H k n first range siblings ≡ option_map (above_both H left) (rebuilt H k (n - 2 ^ k) (first - 2 ^ k) (drop (2 ^ k - first) range) left.rest)
  unfolding rebuilt_parts
  parts_left k n first range siblings left e = ap (option_and_then (λ left. option_map (above_both H left) (rebuilt H k (n - 2 ^ k) (first - 2 ^ k) (drop (2 ^ k - first) range) left.rest))) e

  pub split_missing_left : (k n first : ℕ) (range siblings : List (List ℕ)) → 0 < length range → 2 ^ k < n → rebuilt H k (2 ^ k) first (take (2 ^ k - first) range) siblings ≡ None → rebuilt H (suc k) n first range siblings ≡ None
  split_missing_left k n first range siblings p h e = rebuilt_split k n first range siblings p h ∙ parts_missing_left k n first range siblings e

  pub split_missing_right : (k n first : ℕ) (range siblings : List (List ℕ)) (left : Rebuilt) → 0 < length range → 2 ^ k < n → rebuilt H k (2 ^ k) first (take (2 ^ k - first) range) siblings ≡ Some left
      → rebuilt H k (n - 2 ^ k) (first - 2 ^ k) (drop (2 ^ k - first) range) left.rest ≡ None → rebuilt H (suc k) n first range siblings ≡ None
  split_missing_right k n first range siblings left p h e f =
      rebuilt_split k n first range siblings p h ∙ parts_left k n first range siblings left e ∙ ap (option_map (above_both H left)) f

  pub split_both : (k n first : ℕ) (range siblings : List (List ℕ)) (left right : Rebuilt) → 0 < length range → 2 ^ k < n → rebuilt H k (2 ^ k) first (take (2 ^ k - first) range) siblings ≡ Some left
      → rebuilt H k (n - 2 ^ k) (first - 2 ^ k) (drop (2 ^ k - first) range) left.rest ≡ Some right → rebuilt H (suc k) n first range siblings ≡ Some (above_both H left right)
  split_both k n first range siblings left right p h e f =
      rebuilt_split k n first range siblings p h ∙ parts_left k n first range siblings left e ∙ ap (option_map (above_both H left)) f

-- the two trees that are rebuilt for one
pub record Parts (H : List ℕ → List ℕ) (k n first : ℕ) (range siblings : List (List ℕ)) (tree : Rebuilt) : Type 0 where
  pub left : Rebuilt
  pub right : Rebuilt
  pub left_is : rebuilt H k (2 ^ k) first (take (2 ^ k - first) range) siblings ≡ Some left
  pub right_is : rebuilt H k (n - 2 ^ k) (first - 2 ^ k) (drop (2 ^ k - first) range) left.rest ≡ Some right
  pub both : above_both H left right ≡ tree

record Mapped (f : Rebuilt → Rebuilt) (o : Option Rebuilt) (y : Rebuilt) : Type 0 where
  before : Rebuilt
  was : o ≡ Some before
  gives : f before ≡ y

mapped : (f : Rebuilt → Rebuilt) (o : Option Rebuilt) (y : Rebuilt) → option_map f o ≡ Some y → Mapped f o y
mapped f None y e = cc
mapped f (Some x) y e = record { before = x; was = refl; gives = cc }

record Followed (f : Rebuilt → Option Rebuilt) (o : Option Rebuilt) (y : Rebuilt) : Type 0 where
  before : Rebuilt
  was : o ≡ Some before
  gives : f before ≡ Some y

followed : (f : Rebuilt → Option Rebuilt) (o : Option Rebuilt) (y : Rebuilt) → option_and_then f o ≡ Some y → Followed f o y
followed f None y e = cc
followed f (Some x) y e = record { before = x; was = refl; gives = e }

pub parts : (H : List ℕ → List ℕ) (k n first : ℕ) (range siblings : List (List ℕ)) (tree : Rebuilt) → 0 < length range → 2 ^ k < n → rebuilt H (suc k) n first range siblings ≡ Some tree → Parts H k n first range siblings tree
unfolding rebuilt_parts
parts H k n first range siblings tree p h e =
    let rest : Rebuilt → Option Rebuilt = λ left. rebuilt H k (n - 2 ^ k) (first - 2 ^ k) (drop (2 ^ k - first) range) left.rest in
    let l = followed (λ left. option_map (above_both H left) (rest left)) (rebuilt H k (2 ^ k) first (take (2 ^ k - first) range) siblings) tree (sym (rebuilt_split H k n first range siblings p h) ∙ e) in
    let r = mapped (above_both H l.before) (rest l.before) tree l.gives in
    record { left = l.before; right = r.before; left_is = l.was; right_is = r.was; both = r.gives }
