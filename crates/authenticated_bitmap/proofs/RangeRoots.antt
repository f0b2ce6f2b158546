-- Chunks that lead to the root of a bitmap as a range are in it, or two inputs that are hashed for them collide.
use Rattle.std.proofs.Common.{◌≡◌, ℕ, zero, suc, ◌+◌, ◌-◌, ◌<◌, ◌≤◌, List, [], ◌∷◌, ◌++◌, length, take, drop, map, get_or, All, Option, Some, None, ◌⊎◌, inl, inr, refl, sym, ap, subst, ◌∙◌, arith}
use Rattle.std.specs.List.{Contains}
use Rattle.std.specs.Option.{option_map, option_and_then}
use Rattle.std.proofs.lemmas.List.{length-map, length-take-le, length-drop, get_or-map, get_or-take, get_or-drop, append-nil}
use Rattle.std.proofs.lemmas.List.Elements.{All-get_or, Contains-append_left, Contains-append_right}
use Rattle.authenticated_bitmap.specs.Tree.{leaf_input, leaf_hash, leaf_hashes, tree_hash, subtree_hash, subtree_inputs, and_above, node_inputs, AreBytes, IsHash, IsDigest, Collision}
use Rattle.authenticated_bitmap.specs.Root.{Shape, Bitmap, IsBitmap, Fits, Has, chunk_count, chunk_digests, root_input, root_over, root_of, bitmap_inputs, shape_after_pruning}
use Rattle.authenticated_bitmap.specs.Range.{siblings_below, range_siblings, Rebuilt, rebuilt, if_none_left, tree_from_range, hashed_for, RangeLeadsTo, range_inputs, ShowsRanges, BindsRanges, BindsRange, KeepsRanges}
use Rattle.authenticated_bitmap.proofs.Tests.{Mapped, mapped, le_or_lt}
use Rattle.authenticated_bitmap.proofs.Complete.{below_power}
use Rattle.authenticated_bitmap.proofs.Roots.{digest_count, all_digests, retained_digest, root_bytes, same_root_input, same_digests}
use Rattle.authenticated_bitmap.proofs.Sound.{same_or_collide, leaf_same, leaf_hashed, widened, at_top, deeper, subtree_digest, leaf_digests}
use Rattle.authenticated_bitmap.proofs.Ranges.{Matches, Within, shown, made, rebuilt_tree}

-- a tree that is rebuilt with nothing left
record Whole (o : Option Rebuilt) (top : List ℕ) : Type 0 where
  tree : Rebuilt
  is : o ≡ Some tree
  digest : tree.digest ≡ top

none_left : (tree : Rebuilt) (rest : List (List ℕ)) (top : List ℕ) → if_none_left rest tree.digest ≡ Some top → tree.digest ≡ top
none_left tree [] top e = cc
none_left tree (sibling ∷ rest) top e = cc

whole : (o : Option Rebuilt) (top : List ℕ) → option_and_then (λ tree. if_none_left tree.rest tree.digest) o ≡ Some top → Whole o top
whole None top e = cc
whole (Some tree) top e = record { tree = tree; is = refl; digest = none_left tree tree.rest top e }

-- each of some numbers has a property, or there is something else
all_or : (P : ℕ → Type 0) (C : Type 0) (n : ℕ) → ((i : ℕ) → i < n → P i ⊎ C) → ((i : ℕ) → i < n → P i) ⊎ C
all_or P C zero f = inl (λ i l. absurd (omega arith))
all_or P C (suc n) f =
    elim (f n (omega arith)) [
      | inr c ↦ inr c
      | inl last ↦ elim (all_or P C n (λ i l. f i (omega arith))) [
        | inr c ↦ inr c
        | inl below ↦ inl (λ i l. elim (le_or_lt n i) [
          | inl from ↦ (let e : n ≡ i = omega arith in subst P e last)
          | inr to ↦ below i to
        ])
      ]
    ]

module _ (H : List ℕ → List ℕ) (g : IsHash H) (b : Bitmap) (is : IsBitmap b) (s : Shape) (same : s ≡ b.shape) where
  -- a chunk whose digest is that of a chunk of the bitmap
  has_chunk : (i : ℕ) (chunk : List ℕ) (here : List (List ℕ)) → i < chunk_count s → AreBytes chunk → Contains here (leaf_input chunk) → leaf_hash H chunk ≡ get_or (chunk_digests H b) i [] → Has H b s i chunk ⊎ Collision H here (bitmap_inputs H b)
  has_chunk i chunk here l bc hx e =
      let pruned : s.pruned ≡ b.shape.pruned = ap (λ q. q.pruned) same in
      let counts : chunk_count s ≡ chunk_count b.shape = ap chunk_count same in
      elim (le_or_lt s.pruned i) [
        | inl from ↦ (
            let within : i - s.pruned < length b.chunks = omega (arith, is.count, counts, pruned, l) in
            let z : i - b.shape.pruned ≡ i - s.pruned = ap (λ q. i - q) (sym pruned) in
            let original = get_or b.chunks (i - s.pruned) [] in
            let at : get_or (chunk_digests H b) i [] ≡ leaf_hash H original =
            retained_digest H b i is.pruned (omega (arith, pruned)) (omega (arith, z)) ∙ ap (λ j. leaf_hash H (get_or b.chunks j [])) z in
            let y = root_input b.shape (tree_hash H (chunk_digests H b)) in
            let hy = deeper (bitmap_inputs H b) y (map leaf_input b.chunks ++ node_inputs H (chunk_digests H b)) refl (leaf_input original)
            (Contains-append_left (map leaf_input b.chunks) (node_inputs H (chunk_digests H b)) (leaf_input original) (leaf_hashed b.chunks (i - s.pruned) within)) in
            elim (leaf_same H here (bitmap_inputs H b) chunk original hx hy bc (All-get_or AreBytes b.chunks (i - s.pruned) [] within is.bytes) (e ∙ at)) [
              | inl q ↦ inl (record { shape = sym same; digest = e; retained = λ _. q })
              | inr c ↦ inr c
            ])
        | inr before ↦ inl (record { shape = sym same; digest = e; retained = λ from. absurd (omega arith) })
      ]

pub binds_ranges : (H : List ℕ → List ℕ) → IsHash H → BindsRanges H
unfolding Matches Within
binds_ranges H g b s first chunks siblings is fs bc bs leads =
    let n = chunk_count s in
    let digests = chunk_digests H b in
    let range = leaf_hashes H chunks in
    let o = rebuilt H n n first range siblings in
    let m : Mapped (root_over H s) (tree_from_range H first n range siblings) (root_of H b) = mapped (root_over H s) (tree_from_range H first n range siblings) (root_of H b) leads.2 in
    let w = whole o m.before m.was in
    let here = range_inputs H s first chunks siblings in
    let there = bitmap_inputs H b in
    let x = root_input s m.before in
    let y = root_input b.shape (tree_hash H digests) in
    let leaves = map leaf_input chunks in
    let xs = leaves ++ hashed_for o in
    let ys = map leaf_input b.chunks ++ node_inputs H digests in
    let tx : here ≡ x ∷ xs = ap (λ t. and_above (root_input s) t xs) m.was in
    let ty : there ≡ y ∷ ys = refl in
    let nodes : hashed_for o ≡ w.tree.hashed = ap hashed_for w.is in
    let ds = all_digests H b g is in
    let dr = leaf_digests H g chunks in
    let d : IsDigest m.before = subst IsDigest w.digest (made H g n n first range siblings w.tree dr bs w.is).digest in
    let f : IsDigest (tree_hash H digests) = subtree_digest H g (length digests) digests ds in
    elim (same_or_collide H here there x y (at_top here x xs tx) (at_top there y ys ty) (root_bytes s m.before d.bytes) (root_bytes b.shape (tree_hash H digests) f.bytes) m.gives) [
      | inr c ↦ inr c
      | inl t ↦ (
          let r = same_root_input s b.shape m.before (tree_hash H digests) fs is.fits t in
          let counts : n ≡ chunk_count b.shape = ap chunk_count r.0 in
          let count : n ≡ length digests = omega (arith, digest_count H b, is.pruned, is.count, counts) in
          let size : length range ≡ length chunks = length-map chunks (leaf_hash H) in
          let top : w.tree.digest ≡ subtree_hash H n digests = w.digest ∙ r.1 ∙ ap (λ k. subtree_hash H k digests) (sym count) in
          elim (rebuilt_tree H g n n first digests range siblings w.tree count (below_power n) ds (λ some. omega (arith, size, leads.1)) dr bs w.is top) [
            | inr c ↦ inr (widened H w.tree.hashed (node_inputs H digests) here there
                (λ z h. deeper here x xs tx z (Contains-append_right leaves (hashed_for o) z (subst (λ zs. Contains zs z) (sym nodes) h)))
                (λ z h. deeper there y ys ty z (Contains-append_right (map leaf_input b.chunks) (node_inputs H digests) z h))
                (subst (λ k. Collision H w.tree.hashed (subtree_inputs H k digests)) count c))
            | inl matches ↦ all_or (λ i. Has H b s (first + i) (get_or chunks i [])) (Collision H here there) (length chunks) (λ i l.
                let e : leaf_hash H (get_or chunks i []) ≡ get_or digests (first + i) [] = sym (get_or-map (leaf_hash H) chunks i [] [] l) ∙ matches i (omega (arith, size)) in
                let hx = deeper here x xs tx (leaf_input (get_or chunks i [])) (Contains-append_left leaves (hashed_for o) (leaf_input (get_or chunks i [])) (leaf_hashed chunks i l)) in
                has_chunk H g b is s r.0 (first + i) (get_or chunks i []) here (omega (arith, leads.1)) (All-get_or AreBytes chunks i [] l bc) hx e)
          ])
    ]

-- the same of each bitmap that has a root
pub binds_range : (H : List ℕ → List ℕ) → IsHash H → (root : List ℕ) (s : Shape) (first : ℕ) (chunks siblings : List (List ℕ)) → Fits s → All AreBytes chunks → All IsDigest siblings → RangeLeadsTo H root s first chunks siblings → BindsRange H root s first chunks siblings
binds_range H g root s first chunks siblings fs bc bs leads b is e =
    binds_ranges H g b s first chunks siblings is fs bc bs (leads.0, leads.1, leads.2 ∙ ap Some (sym e))

pub shows_ranges : (H : List ℕ → List ℕ) → ShowsRanges H
unfolding Matches Within
shows_ranges H b first count is some l =
    let p = b.shape.pruned in
    let digests = chunk_digests H b in
    let n : length digests ≡ chunk_count b.shape = omega (arith, digest_count H b, is.pruned, is.count) in
    let chunks = take count (drop first b.chunks) in
    let range = leaf_hashes H chunks in
    let lc : length chunks ≡ count = length-take-le count (drop first b.chunks) (omega (arith, length-drop first b.chunks)) in
    let lr : length range ≡ count = length-map chunks (leaf_hash H) ∙ lc in
    let within : p + first + count ≤ length digests = omega (arith, digest_count H b, is.pruned) in
    let matches : Matches range (p + first) digests = λ i below.
    let z : p + first + i - p ≡ first + i = omega arith in
    get_or-map (leaf_hash H) chunks i [] [] (omega (arith, lr, lc))
    ∙ ap (leaf_hash H) (get_or-take count (drop first b.chunks) i [] (omega (arith, lr)) ∙ get_or-drop first b.chunks i [])
    ∙ sym (retained_digest H b (p + first + i) is.pruned (omega arith) (omega (arith, lr)) ∙ ap (λ j. leaf_hash H (get_or b.chunks j [])) z) in
    let v = shown H (length digests) (p + first) digests range [] (λ _. omega (arith, lr, within)) (below_power (length digests)) matches in
    let siblings : siblings_below H (length digests) (p + first) (length range) digests ++ [] ≡ range_siblings H (p + first) count digests =
    append-nil (siblings_below H (length digests) (p + first) (length range) digests) ∙ ap (λ c. siblings_below H (length digests) (p + first) c digests) lr in
    let top : tree_from_range H (p + first) (length digests) range (range_siblings H (p + first) count digests) ≡ Some (tree_hash H digests) =
    ap (option_and_then (λ tree. if_none_left tree.rest tree.digest)) (ap (rebuilt H (length digests) (length digests) (p + first) range) (sym siblings) ∙ v.is) in (
      omega (arith, lc),
      omega (arith, lc, within, n),
      subst (λ m. option_map (root_over H b.shape) (tree_from_range H (p + first) m range (range_siblings H (p + first) count digests)) ≡ Some (root_of H b)) n (ap (option_map (root_over H b.shape)) top),
    )

pub keeps_ranges : (H : List ℕ → List ℕ) → KeepsRanges H
keeps_ranges H b more first chunks siblings some l e = (
  some,
  l,
  ap (option_map (root_over H (shape_after_pruning more b.shape))) e ∙ ap (λ ds. Some (root_over H (shape_after_pruning more b.shape) (tree_hash H ds))) (sym (same_digests H b more)),
)
