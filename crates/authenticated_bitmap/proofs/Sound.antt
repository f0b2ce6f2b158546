-- Two leaves at one place, in trees with one digest, are equal, or two inputs that are hashed for them collide.
use Rattle.std.proofs.Common.{◌≡◌, ℕ, zero, suc, ◌+◌, ◌-◌, ◌^◌, ◌<◌, ◌≤◌, List, [], ◌∷◌, ◌++◌, length, take, drop, map, get_or, reverse, All, Some, ◌⊎◌, inl, inr, refl, sym, ap, subst, ◌∙◌, arith}
use Rattle.std.specs.List.{Contains}
use Rattle.std.proofs.lemmas.List.{take_at, drop_at, length-append, length-drop, length-take-le, length-map, get_or-reverse, get_or-take, get_or-drop, get_or-map, length-reverse}
use Rattle.std.proofs.lemmas.List.Elements.{All-cons, All-append, All-from_get_or, All-nil, All-get_or, All-take, All-drop, Contains-append_left, Contains-append_right, Contains-get_or}
use Rattle.authenticated_bitmap.specs.Tree.{leaf_input, node_input, leaf_hash, leaf_hashes, subtree_hash, tree_hash, climbed, hashed, path_inputs, subtree_inputs, node_inputs, tree_inputs, root_from_path, Collision, AreBytes, IsDigest, IsHash, BindsLeaves, BindsTrees, BindsLeaf}
use Rattle.authenticated_bitmap.proofs.Tests.{le_or_lt, same_or_not}
use Rattle.authenticated_bitmap.proofs.Steps.{climbed_low, hashed_low, leftwards, rightwards, hash_low, hash_split, inputs_low, inputs_split}
use Rattle.authenticated_bitmap.proofs.Complete.{below_power, twice}

-- two lists of bytes with one digest, of which each is hashed, are equal or collide
pub same_or_collide : (H : List ℕ → List ℕ) (here there : List (List ℕ)) (a b : List ℕ) → Contains here a → Contains there b → AreBytes a → AreBytes b → H a ≡ H b → (a ≡ b) ⊎ Collision H here there
same_or_collide H here there a b ha hb f s e =
    elim (same_or_not a b) [ inl t ↦ inl t | inr d ↦ inr (record { first = a; second = b; first_hashed = ha; second_hashed = hb; first_bytes = f; second_bytes = s; differ = d; same = e }) ]

-- a collision stays one where more is hashed
pub widened : (H : List ℕ → List ℕ) (less fewer here there : List (List ℕ)) → ((x : List ℕ) → Contains less x → Contains here x) → ((x : List ℕ) → Contains fewer x → Contains there x) → Collision H less fewer → Collision H here there
widened H less fewer here there f g c = record {
  first = c.first;
  second = c.second;
  first_hashed = f c.first c.first_hashed;
  second_hashed = g c.second c.second_hashed;
  first_bytes = c.first_bytes;
  second_bytes = c.second_bytes;
  differ = c.differ;
  same = c.same;
}

-- the first of some inputs, and one of the others
pub at_top : (inputs : List (List ℕ)) (x : List ℕ) (rest : List (List ℕ)) → inputs ≡ x ∷ rest → Contains inputs x
at_top inputs x rest e = subst (λ xs. Contains xs x) (sym e) (Contains-append_left (x ∷ []) rest x (Contains-get_or (x ∷ []) 0 x (omega arith)))

pub deeper : (inputs : List (List ℕ)) (top : List ℕ) (rest : List (List ℕ)) → inputs ≡ top ∷ rest → (x : List ℕ) → Contains rest x → Contains inputs x
deeper inputs top rest e x h = subst (λ xs. Contains xs x) (sym e) (Contains-append_right (top ∷ []) rest x h)

pub tails : (x y : ℕ) (a b : List ℕ) → x ∷ a ≡ y ∷ b → a ≡ b
tails x y a b e = cc

pub left_same : (x y s t : List ℕ) → length x ≡ length y → x ++ s ≡ y ++ t → x ≡ y
left_same x y s t l e = sym (take_at x s (length y) l) ∙ ap (take (length y)) e ∙ take_at y t (length y) refl

pub right_same : (x y s t : List ℕ) → length x ≡ length y → s ++ x ≡ t ++ y → x ≡ y
right_same x y s t l e =
    let m : length s ≡ length t = omega (arith, l, length-append s x, length-append t y, ap length e) in
    sym (drop_at s x (length t) m) ∙ ap (drop (length t)) e ∙ drop_at t y (length t) refl

pub marked_bytes : (tag : ℕ) (xs : List ℕ) → tag < 256 → AreBytes xs → AreBytes (tag ∷ xs)
marked_bytes tag xs t h = All-cons (λ x. x < 256) tag xs t h

pub joined_bytes : (xs ys : List ℕ) → AreBytes xs → AreBytes ys → AreBytes (xs ++ ys)
joined_bytes xs ys f s = All-append (λ x. x < 256) xs ys f s

pub node_bytes : (left right : List ℕ) → AreBytes left → AreBytes right → AreBytes (node_input left right)
node_bytes left right f s = marked_bytes 1 (left ++ right) (omega arith) (joined_bytes left right f s)

pub leaf_bytes : (leaf : List ℕ) → AreBytes leaf → AreBytes (leaf_input leaf)
leaf_bytes leaf h = marked_bytes 0 leaf (omega arith) h

-- what is climbed to from a digest is a digest
pub climbed_digest : (H : List ℕ → List ℕ) → IsHash H → (k i n : ℕ) (digest : List ℕ) (path : List (List ℕ)) (tree : List ℕ) → IsDigest digest → All AreBytes path → climbed H k i n digest path ≡ Some tree → IsDigest tree
unfolding climbed
climbed_digest H g zero i n digest [] tree d bytes e = let s : digest ≡ tree = cc in subst IsDigest s d
climbed_digest H g zero i n digest (beside ∷ path) tree d bytes e = cc
climbed_digest H g (suc k) i n digest path tree d bytes e =
    elim (le_or_lt n (2 ^ k)) [
      | inl low ↦ climbed_digest H g k i n digest path tree d bytes (sym (climbed_low H k i n digest path low) ∙ e)
      | inr high ↦ elim (le_or_lt (2 ^ k) i) [
        | inl r ↦ (let w = rightwards H k i n digest path tree bytes high r e in subst IsDigest w.gives (g (node_input w.beside w.right)))
        | inr l ↦ (let w = leftwards H k i n digest path tree bytes high l e in subst IsDigest w.gives (g (node_input w.left w.beside)))
      ]
    ]

-- two digests that are climbed from to one
pub climbed_same : (H : List ℕ → List ℕ) → IsHash H → (k i n : ℕ) (a b : List ℕ) (p q : List (List ℕ)) (tree : List ℕ) → IsDigest a → IsDigest b → All AreBytes p → All AreBytes q → climbed H k i n a p ≡ Some tree → climbed H k i n b q ≡ Some tree
    → (a ≡ b) ⊎ Collision H (hashed H k i n a p) (hashed H k i n b q)
unfolding climbed
climbed_same H g zero i n a b [] [] tree da db bp bq e f = inl cc
climbed_same H g zero i n a b [] (y ∷ q) tree da db bp bq e f = cc
climbed_same H g zero i n a b (x ∷ p) q tree da db bp bq e f = cc
climbed_same H g (suc k) i n a b p q tree da db bp bq e f =
    let here = hashed H (suc k) i n a p in
    let there = hashed H (suc k) i n b q in
    elim (le_or_lt n (2 ^ k)) [
      | inl low ↦ elim (climbed_same H g k i n a b p q tree da db bp bq (sym (climbed_low H k i n a p low) ∙ e) (sym (climbed_low H k i n b q low) ∙ f)) [
        | inl t ↦ inl t
        | inr c ↦ inr (widened H (hashed H k i n a p) (hashed H k i n b q) here there (λ x. subst (λ xs. Contains xs x) (sym (hashed_low H k i n a p low))) (λ x. subst (λ xs. Contains xs x) (sym (hashed_low H k i n b q low))) c)
      ]
      | inr high ↦ elim (le_or_lt (2 ^ k) i) [
        | inl r ↦ (
            let v = rightwards H k i n a p tree bp high r e in
            let w = rightwards H k i n b q tree bq high r f in
            let dv = climbed_digest H g k (i - 2 ^ k) (n - 2 ^ k) a v.below v.right da v.below_bytes v.was in
            let dw = climbed_digest H g k (i - 2 ^ k) (n - 2 ^ k) b w.below w.right db w.below_bytes w.was in
            let x = node_input v.beside v.right in
            let y = node_input w.beside w.right in
            let xs = hashed H k (i - 2 ^ k) (n - 2 ^ k) a v.below in
            let ys = hashed H k (i - 2 ^ k) (n - 2 ^ k) b w.below in
            elim (same_or_collide H here there x y (at_top here x xs v.hashes) (at_top there y ys w.hashes) (node_bytes v.beside v.right v.beside_bytes dv.bytes) (node_bytes w.beside w.right w.beside_bytes dw.bytes) (v.gives ∙ sym w.gives)) [
              | inl t ↦ (
                  let s = right_same v.right w.right v.beside w.beside (dv.size ∙ sym dw.size) (tails 1 1 _ _ t) in
                  elim (climbed_same H g k (i - 2 ^ k) (n - 2 ^ k) a b v.below w.below v.right da db v.below_bytes w.below_bytes v.was (w.was ∙ ap Some (sym s))) [
                    | inl t ↦ inl t
                    | inr c ↦ inr (widened H xs ys here there (deeper here x xs v.hashes) (deeper there y ys w.hashes) c)
                  ])
              | inr c ↦ inr c
            ])
        | inr l ↦ (
            let v = leftwards H k i n a p tree bp high l e in
            let w = leftwards H k i n b q tree bq high l f in
            let dv = climbed_digest H g k i (2 ^ k) a v.below v.left da v.below_bytes v.was in
            let dw = climbed_digest H g k i (2 ^ k) b w.below w.left db w.below_bytes w.was in
            let x = node_input v.left v.beside in
            let y = node_input w.left w.beside in
            let xs = hashed H k i (2 ^ k) a v.below in
            let ys = hashed H k i (2 ^ k) b w.below in
            elim (same_or_collide H here there x y (at_top here x xs v.hashes) (at_top there y ys w.hashes) (node_bytes v.left v.beside dv.bytes v.beside_bytes) (node_bytes w.left w.beside dw.bytes w.beside_bytes) (v.gives ∙ sym w.gives)) [
              | inl t ↦ (
                  let s = left_same v.left w.left v.beside w.beside (dv.size ∙ sym dw.size) (tails 1 1 _ _ t) in
                  elim (climbed_same H g k i (2 ^ k) a b v.below w.below v.left da db v.below_bytes w.below_bytes v.was (w.was ∙ ap Some (sym s))) [
                    | inl t ↦ inl t
                    | inr c ↦ inr (widened H xs ys here there (deeper here x xs v.hashes) (deeper there y ys w.hashes) c)
                  ])
              | inr c ↦ inr c
            ])
      ]
    ]

pub reversed_bytes : (path : List (List ℕ)) → All AreBytes path → All AreBytes (reverse path)
reversed_bytes path h = All-from_get_or AreBytes (reverse path) [] (λ k l.
    let m : k < length path = simp length-reverse at l in
    let at : get_or (reverse path) k [] ≡ get_or path (length path - 1 - k) [] = get_or-reverse path k [] m in
    subst AreBytes (sym at) (All-get_or AreBytes path (length path - 1 - k) [] (omega arith) h))

-- equal digests of two leaves
pub leaf_same : (H : List ℕ → List ℕ) (here there : List (List ℕ)) (a b : List ℕ) → Contains here (leaf_input a) → Contains there (leaf_input b) → AreBytes a → AreBytes b → leaf_hash H a ≡ leaf_hash H b → (a ≡ b) ⊎ Collision H here there
leaf_same H here there a b ha hb ba bb e = elim (same_or_collide H here there (leaf_input a) (leaf_input b) ha hb (leaf_bytes a ba) (leaf_bytes b bb) e) [ inl t ↦ inl (tails 0 0 a b t) | inr c ↦ inr c ]

pub binds_leaves : (H : List ℕ → List ℕ) → IsHash H → BindsLeaves H
binds_leaves H g i n a b p q tree ba bb bp bq e f =
    let here = path_inputs H i n a p in
    let there = path_inputs H i n b q in
    let xs = hashed H n i n (leaf_hash H a) (reverse p) in
    let ys = hashed H n i n (leaf_hash H b) (reverse q) in
    elim (climbed_same H g n i n (leaf_hash H a) (leaf_hash H b) (reverse p) (reverse q) tree (g (leaf_input a)) (g (leaf_input b)) (reversed_bytes p bp) (reversed_bytes q bq) e f) [
      | inl t ↦ leaf_same H here there a b (at_top here (leaf_input a) xs refl) (at_top there (leaf_input b) ys refl) ba bb t
      | inr c ↦ inr (widened H xs ys here there (deeper here (leaf_input a) xs refl) (deeper there (leaf_input b) ys refl) c)
    ]

hash_one : (H : List ℕ → List ℕ) (digest : List ℕ) (digests : List (List ℕ)) → subtree_hash H zero (digest ∷ digests) ≡ digest
unfolding subtree_hash
hash_one H digest digests = refl

-- the digest of a part of the tree is a digest
pub subtree_digest : (H : List ℕ → List ℕ) → IsHash H → (k : ℕ) (digests : List (List ℕ)) → All IsDigest digests → IsDigest (subtree_hash H k digests)
unfolding subtree_hash
subtree_digest H g zero [] d = g []
subtree_digest H g zero (digest ∷ digests) d = All-get_or IsDigest (digest ∷ digests) 0 [] (omega arith) d
subtree_digest H g (suc k) digests d =
    elim (le_or_lt (length digests) (2 ^ k)) [
      | inl low ↦ subst IsDigest (sym (hash_low H k digests low)) (subtree_digest H g k digests d)
      | inr high ↦ subst IsDigest (sym (hash_split H k digests high)) (g (node_input (subtree_hash H k (take (2 ^ k) digests)) (subtree_hash H k (drop (2 ^ k) digests))))
    ]

-- the way to the only leaf
climbed_leaf : (H : List ℕ → List ℕ) (i n : ℕ) (digests : List (List ℕ)) (digest : List ℕ) (path : List (List ℕ)) → i < length digests → length digests ≤ 1 → climbed H zero i n digest path ≡ Some (subtree_hash H zero digests) → digest ≡ get_or digests i []
unfolding climbed subtree_hash
climbed_leaf H i n [] digest path l h e = absurd (omega arith)
climbed_leaf H zero n (one ∷ []) digest [] l h e = cc
climbed_leaf H zero n (one ∷ []) digest (beside ∷ path) l h e = cc
climbed_leaf H (suc i) n (one ∷ []) digest path l h e = absurd (omega arith)
climbed_leaf H i n (one ∷ (other ∷ digests)) digest path l h e = absurd (omega arith)

-- a digest that is climbed from to the digest of a tree
pub climbed_tree : (H : List ℕ → List ℕ) → IsHash H → (k i n : ℕ) (digests : List (List ℕ)) (digest : List ℕ) (path : List (List ℕ)) → n ≡ length digests → n ≤ 2 ^ k → All IsDigest digests → i < n → IsDigest digest → All AreBytes path
    → climbed H k i n digest path ≡ Some (subtree_hash H k digests) → (digest ≡ get_or digests i []) ⊎ Collision H (hashed H k i n digest path) (subtree_inputs H k digests)
climbed_tree H g zero i n digests digest path len fits ds l d bp e = inl (climbed_leaf H i n digests digest path (omega arith) (omega arith) e)
climbed_tree H g (suc k) i n digests digest path len fits ds l d bp e =
    let here = hashed H (suc k) i n digest path in
    let there = subtree_inputs H (suc k) digests in
    elim (le_or_lt n (2 ^ k)) [
      | inl low ↦ (
          let few : length digests ≤ 2 ^ k = omega arith in
          elim (climbed_tree H g k i n digests digest path len low ds l d bp (sym (climbed_low H k i n digest path low) ∙ e ∙ ap Some (hash_low H k digests few))) [
            | inl t ↦ inl t
            | inr c ↦ inr (widened H (hashed H k i n digest path) (subtree_inputs H k digests) here there (λ x. subst (λ xs. Contains xs x) (sym (hashed_low H k i n digest path low))) (λ x. subst (λ xs. Contains xs x) (sym (inputs_low H k digests few))) c)
          ])
      | inr high ↦ (
          let many : 2 ^ k < length digests = omega arith in
          let front = take (2 ^ k) digests in
          let rest = drop (2 ^ k) digests in
          let lf : 2 ^ k ≡ length front = sym (length-take-le (2 ^ k) digests (omega arith)) in
          let lr : n - 2 ^ k ≡ length rest = omega (arith, length-drop (2 ^ k) digests) in
          let df : All IsDigest front = All-take IsDigest (2 ^ k) digests ds in
          let dr : All IsDigest rest = All-drop IsDigest (2 ^ k) digests ds in
          let sf = subtree_digest H g k front df in
          let sr = subtree_digest H g k rest dr in
          let y = node_input (subtree_hash H k front) (subtree_hash H k rest) in
          let ys = subtree_inputs H k front ++ subtree_inputs H k rest in
          let top : there ≡ y ∷ ys = inputs_split H k digests many in
          let by : AreBytes y = node_bytes (subtree_hash H k front) (subtree_hash H k rest) sf.bytes sr.bytes in
          let split = hash_split H k digests many in
          elim (le_or_lt (2 ^ k) i) [
            | inl r ↦ (
                let v = rightwards H k i n digest path (subtree_hash H (suc k) digests) bp high r e in
                let dv = climbed_digest H g k (i - 2 ^ k) (n - 2 ^ k) digest v.below v.right d v.below_bytes v.was in
                let x = node_input v.beside v.right in
                let xs = hashed H k (i - 2 ^ k) (n - 2 ^ k) digest v.below in
                elim (same_or_collide H here there x y (at_top here x xs v.hashes) (at_top there y ys top) (node_bytes v.beside v.right v.beside_bytes dv.bytes) by (v.gives ∙ split)) [
                  | inl t ↦ (
                      let s = right_same v.right (subtree_hash H k rest) v.beside (subtree_hash H k front) (dv.size ∙ sym sr.size) (tails 1 1 _ _ t) in
                      elim (climbed_tree H g k (i - 2 ^ k) (n - 2 ^ k) rest digest v.below lr (omega (arith, twice k)) dr (omega arith) d v.below_bytes (v.was ∙ ap Some s)) [
                        | inl t ↦ inl (t ∙ get_or-drop (2 ^ k) digests (i - 2 ^ k) [] ∙ (let z : 2 ^ k + (i - 2 ^ k) ≡ i = omega arith in ap (λ j. get_or digests j []) z))
                        | inr c ↦ inr (widened H xs (subtree_inputs H k rest) here there (deeper here x xs v.hashes) (λ z h. deeper there y ys top z (Contains-append_right (subtree_inputs H k front) (subtree_inputs H k rest) z h)) c)
                      ])
                  | inr c ↦ inr c
                ])
            | inr s ↦ (
                let v = leftwards H k i n digest path (subtree_hash H (suc k) digests) bp high s e in
                let dv = climbed_digest H g k i (2 ^ k) digest v.below v.left d v.below_bytes v.was in
                let x = node_input v.left v.beside in
                let xs = hashed H k i (2 ^ k) digest v.below in
                elim (same_or_collide H here there x y (at_top here x xs v.hashes) (at_top there y ys top) (node_bytes v.left v.beside dv.bytes v.beside_bytes) by (v.gives ∙ split)) [
                  | inl t ↦ (
                      let u = left_same v.left (subtree_hash H k front) v.beside (subtree_hash H k rest) (dv.size ∙ sym sf.size) (tails 1 1 _ _ t) in
                      elim (climbed_tree H g k i (2 ^ k) front digest v.below lf (omega arith) df s d v.below_bytes (v.was ∙ ap Some u)) [
                        | inl t ↦ inl (t ∙ get_or-take (2 ^ k) digests i [] s)
                        | inr c ↦ inr (widened H xs (subtree_inputs H k front) here there (deeper here x xs v.hashes) (λ z h. deeper there y ys top z (Contains-append_left (subtree_inputs H k front) (subtree_inputs H k rest) z h)) c)
                      ])
                  | inr c ↦ inr c
                ])
          ])
    ]

-- a digest that leads to a tree is that of the tree's leaf
pub binds_digests : (H : List ℕ → List ℕ) → IsHash H → (digests : List (List ℕ)) (i n : ℕ) (digest : List ℕ) (path : List (List ℕ)) → length digests ≡ n → All IsDigest digests → i < n → IsDigest digest → All AreBytes path
    → root_from_path H i n digest path ≡ Some (tree_hash H digests) → (digest ≡ get_or digests i []) ⊎ Collision H (hashed H n i n digest (reverse path)) (node_inputs H digests)
binds_digests H g digests i n digest path len ds l d bp e =
    elim (climbed_tree H g n i n digests digest (reverse path) (sym len) (below_power n) ds l d (reversed_bytes path bp) (e ∙ ap (λ k. Some (subtree_hash H k digests)) len)) [
      | inl t ↦ inl t
      | inr c ↦ inr (subst (λ k. Collision H (hashed H n i n digest (reverse path)) (subtree_inputs H k digests)) (sym len) c)
    ]

pub leaf_digests : (H : List ℕ → List ℕ) → IsHash H → (leaves : List (List ℕ)) → All IsDigest (leaf_hashes H leaves)
leaf_digests H g [] = All-nil IsDigest
leaf_digests H g (leaf ∷ leaves) = All-cons IsDigest (leaf_hash H leaf) (leaf_hashes H leaves) (g (leaf_input leaf)) (leaf_digests H g leaves)

-- each leaf is hashed
pub leaf_hashed : (leaves : List (List ℕ)) (i : ℕ) → i < length leaves → Contains (map leaf_input leaves) (leaf_input (get_or leaves i []))
leaf_hashed leaves i l =
    subst (Contains (map leaf_input leaves)) (get_or-map leaf_input leaves i [] [] l) (Contains-get_or (map leaf_input leaves) i [] (omega (arith, length-map leaves leaf_input)))

pub binds_trees : (H : List ℕ → List ℕ) → IsHash H → BindsTrees H
binds_trees H g leaves i leaf path bl l ba bp e =
    let n = length leaves in
    let here = path_inputs H i n leaf path in
    let there = tree_inputs H leaves in
    let xs = hashed H n i n (leaf_hash H leaf) (reverse path) in
    elim (binds_digests H g (leaf_hashes H leaves) i n (leaf_hash H leaf) path (length-map leaves (leaf_hash H)) (leaf_digests H g leaves) l (g (leaf_input leaf)) bp e) [
      | inl t ↦ leaf_same H here there leaf (get_or leaves i []) (at_top here (leaf_input leaf) xs refl) (Contains-append_left (map leaf_input leaves) (node_inputs H (leaf_hashes H leaves)) (leaf_input (get_or leaves i [])) (leaf_hashed leaves i l))
          ba (All-get_or AreBytes leaves i [] l bl) (t ∙ get_or-map (leaf_hash H) leaves i [] [] l)
      | inr c ↦ inr (widened H xs (node_inputs H (leaf_hashes H leaves)) here there (deeper here (leaf_input leaf) xs refl) (Contains-append_right (map leaf_input leaves) (node_inputs H (leaf_hashes H leaves))) c)
    ]

-- the same of each tree that has a digest
pub binds_leaf : (H : List ℕ → List ℕ) → IsHash H → (tree : List ℕ) (n i : ℕ) (leaf : List ℕ) (path : List (List ℕ)) → i < n → AreBytes leaf → All AreBytes path → root_from_path H i n (leaf_hash H leaf) path ≡ Some tree → BindsLeaf H tree n i leaf path
binds_leaf H g tree n i leaf path l ba bp e leaves bl len is =
    subst (λ m. (leaf ≡ get_or leaves i []) ⊎ Collision H (path_inputs H i m leaf path) (tree_inputs H leaves)) len
    (binds_trees H g leaves i leaf path bl (omega (arith, len)) ba bp (subst (λ m. root_from_path H i m (leaf_hash H leaf) path ≡ Some (tree_hash H (leaf_hashes H leaves))) (sym len) (e ∙ ap Some (sym is))))
