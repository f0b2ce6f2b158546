-- A range and the digests beside it give the tree, and what gives the digest of a tree is in it, or two inputs collide.
use Rattle.std.proofs.Common.{◌≡◌, ℕ, zero, suc, ◌+◌, ◌-◌, ◌^◌, ◌<◌, ◌≤◌, List, [], ◌∷◌, ◌++◌, length, take, drop, get_or, All, Some, ◌⊎◌, inl, inr, refl, sym, ap, subst, ◌∙◌, arith, append_assoc}
use Rattle.std.specs.List.{Contains}
use Rattle.std.proofs.lemmas.List.{length-take, length-take-le, length-drop, get_or-take, get_or-drop}
use Rattle.std.proofs.lemmas.List.Elements.{All-head, All-tail, All-take, All-drop, Contains-append_left, Contains-append_right}
use Rattle.authenticated_bitmap.specs.Tree.{node_input, subtree_hash, subtree_inputs, IsHash, IsDigest, Collision}
use Rattle.authenticated_bitmap.specs.Range.{siblings_below, Rebuilt, rebuilt}
use Rattle.authenticated_bitmap.proofs.Tests.{le_or_lt}
use Rattle.authenticated_bitmap.proofs.Complete.{twice}
use Rattle.authenticated_bitmap.proofs.Heights.{same_at}
use Rattle.authenticated_bitmap.proofs.Sound.{same_or_collide, widened, at_top, deeper, tails, left_same, right_same, node_bytes, subtree_digest}
use Rattle.authenticated_bitmap.proofs.Steps.{hash_low, hash_split, inputs_low, inputs_split}
use Rattle.authenticated_bitmap.proofs.RangeSteps.{siblings_none, siblings_leaf, range_low, range_split, rebuilt_missing, rebuilt_sibling, rebuilt_leaf, rebuilt_low, split_both, parts}

-- the height that a tree is given does not matter, once its leaves fit
module _ (H : List ℕ → List ℕ) (j k : ℕ) where
  pub siblings_same : (first count : ℕ) (digests : List (List ℕ)) → length digests ≤ 2 ^ j → length digests ≤ 2 ^ k → siblings_below H j first count digests ≡ siblings_below H k first count digests
  siblings_same first count digests hj hk = same_at (λ h. siblings_below H h first count digests) (length digests) (λ h l. range_low H h first count digests l) j k hj hk

  pub rebuilt_same : (n first : ℕ) (range siblings : List (List ℕ)) → n ≤ 2 ^ j → n ≤ 2 ^ k → rebuilt H j n first range siblings ≡ rebuilt H k n first range siblings
  rebuilt_same n first range siblings hj hk = same_at (λ h. rebuilt H h n first range siblings) n (λ h l. rebuilt_low H h n first range siblings l) j k hj hk

-- a range is what the digests have from first on
unfoldable pub Matches : List (List ℕ) → ℕ → List (List ℕ) → Type 0
Matches range first digests = (i : ℕ) → i < length range → get_or range i [] ≡ get_or digests (first + i) []

-- a range that is not empty ends in a tree of n leaves
unfoldable pub Within : List (List ℕ) → ℕ → ℕ → Type 0
Within range first n = 0 < length range → first + length range ≤ n

-- both parts of a range
module _ (k first : ℕ) (digests range : List (List ℕ)) where
  matches_left : Matches range first digests → Matches (take (2 ^ k - first) range) first (take (2 ^ k) digests)
  unfolding Matches
  matches_left m i l =
      let s = length-take (2 ^ k - first) range in
      get_or-take (2 ^ k - first) range i [] (omega (arith, s)) ∙ m i (omega (arith, s)) ∙ sym (get_or-take (2 ^ k) digests (first + i) [] (omega (arith, s)))

  matches_right : Matches range first digests → Matches (drop (2 ^ k - first) range) (first - 2 ^ k) (drop (2 ^ k) digests)
  unfolding Matches
  matches_right m i l =
      let s = length-drop (2 ^ k - first) range in
      let e : first + ((2 ^ k - first) + i) ≡ 2 ^ k + ((first - 2 ^ k) + i) = omega arith in
      get_or-drop (2 ^ k - first) range i [] ∙ m ((2 ^ k - first) + i) (omega (arith, s)) ∙ ap (λ j. get_or digests j []) e ∙ sym (get_or-drop (2 ^ k) digests ((first - 2 ^ k) + i) [])

  matches_both : Matches (take (2 ^ k - first) range) first (take (2 ^ k) digests) → Matches (drop (2 ^ k - first) range) (first - 2 ^ k) (drop (2 ^ k) digests) → Matches range first digests
  unfolding Matches
  matches_both left right i l =
      elim (le_or_lt (2 ^ k - first) i) [
        | inl r ↦ (
            let j = i - (2 ^ k - first) in
            let at : (2 ^ k - first) + j ≡ i = omega arith in
            let e : 2 ^ k + ((first - 2 ^ k) + j) ≡ first + i = omega arith in
            ap (λ x. get_or range x []) (sym at) ∙ sym (get_or-drop (2 ^ k - first) range j []) ∙ right j (omega (arith, length-drop (2 ^ k - first) range))
            ∙ get_or-drop (2 ^ k) digests ((first - 2 ^ k) + j) [] ∙ ap (λ x. get_or digests x []) e)
        | inr b ↦ sym (get_or-take (2 ^ k - first) range i [] b) ∙ left i (omega (arith, length-take (2 ^ k - first) range)) ∙ get_or-take (2 ^ k) digests (first + i) [] (omega arith)
      ]

  within_left : Within (take (2 ^ k - first) range) first (2 ^ k)
  unfolding Within
  within_left l = omega (arith, length-take (2 ^ k - first) range)

  within_right : (n : ℕ) → Within range first n → Within (drop (2 ^ k - first) range) (first - 2 ^ k) (n - 2 ^ k)
  unfolding Within
  within_right n w l =
      let s = length-drop (2 ^ k - first) range in
      let all : first + length range ≤ n = w (omega (arith, s)) in
      omega (arith, s, all)

-- a range and the digests beside it rebuild the tree, and leave what follows these digests
pub record Shown (H : List ℕ → List ℕ) (k first : ℕ) (digests range more : List (List ℕ)) : Type 0 where
  pub hashed : List (List ℕ)
  pub is : rebuilt H k (length digests) first range (siblings_below H k first (length range) digests ++ more) ≡ Some (record { digest = subtree_hash H k digests; rest = more; hashed = hashed })

shown_none : (H : List ℕ → List ℕ) (k first : ℕ) (digests more : List (List ℕ)) → Shown H k first digests [] more
shown_none H k first digests more = record {
  hashed = [];
  is = ap (λ s. rebuilt H k (length digests) first [] (s ++ more)) (siblings_none H k first digests) ∙ rebuilt_sibling H k (length digests) first (subtree_hash H k digests) more;
}

hash_one : (H : List ℕ → List ℕ) (digest : List ℕ) → subtree_hash H zero (digest ∷ []) ≡ digest
unfolding subtree_hash
hash_one H digest = refl

-- the only leaf of a tree
record Alone (first : ℕ) (digests range : List (List ℕ)) : Type 0 where
  leaf : List ℕ
  tree : digests ≡ leaf ∷ []
  start : first ≡ 0
  only : length range ≡ 0

alone : (first : ℕ) (digests : List (List ℕ)) (digest : List ℕ) (range : List (List ℕ)) → Within (digest ∷ range) first (length digests) → length digests ≤ 2 ^ zero → Alone first digests range
unfolding Within
alone first [] digest range w l = absurd (let h : first + suc (length range) ≤ 0 = w (omega arith) in omega (arith, h))
alone first (leaf ∷ []) digest range w l = (let h : first + suc (length range) ≤ 1 = w (omega arith) in record { leaf = leaf; tree = refl; start = omega (arith, h); only = omega (arith, h) })
alone first (leaf ∷ (other ∷ digests)) digest range w l = absurd (omega arith)

shown_leaf : (H : List ℕ → List ℕ) (first : ℕ) (digests : List (List ℕ)) (digest : List ℕ) (range more : List (List ℕ)) → Within (digest ∷ range) first (length digests) → length digests ≤ 2 ^ zero → Matches (digest ∷ range) first digests → Shown H zero first digests (digest ∷ range) more
unfolding Matches
shown_leaf H first digests digest range more w l m =
    let a = alone first digests digest range w l in
    let here : first + 0 ≡ 0 = omega (arith, a.start) in
    let same : digest ≡ a.leaf = m 0 (omega arith) ∙ ap (λ j. get_or digests j []) here ∙ ap (λ xs. get_or xs 0 []) a.tree in
    let top : digest ≡ subtree_hash H zero digests = same ∙ sym (hash_one H a.leaf) ∙ ap (subtree_hash H zero) (sym a.tree) in
    record {
      hashed = [];
      is = ap (λ s. rebuilt H zero (length digests) first (digest ∷ range) (s ++ more)) (siblings_leaf H first (length (digest ∷ range)) digests (omega arith))
          ∙ rebuilt_leaf H (length digests) first digest range more ∙ ap (λ d. Some (record { digest = d; rest = more; hashed = [] })) top;
    }

pub shown : (H : List ℕ → List ℕ) (k first : ℕ) (digests range more : List (List ℕ)) → Within range first (length digests) → length digests ≤ 2 ^ k → Matches range first digests → Shown H k first digests range more
shown H k first digests [] more w l m = shown_none H k first digests more
shown H zero first digests (digest ∷ range) more w l m = shown_leaf H first digests digest range more w l m
shown H (suc k) first digests (digest ∷ range) more w l m =
    let all = digest ∷ range in
    elim (le_or_lt (length digests) (2 ^ k)) [
      | inl low ↦ (
          let s = shown H k first digests all more w low m in
          record {
            hashed = s.hashed;
            is = ap (λ xs. rebuilt H (suc k) (length digests) first all (xs ++ more)) (range_low H k first (length all) digests low)
                ∙ rebuilt_low H k (length digests) first all (siblings_below H k first (length all) digests ++ more) low
                ∙ s.is ∙ ap (λ d. Some (record { digest = d; rest = more; hashed = s.hashed })) (sym (hash_low H k digests low));
          })
      | inr high ↦ (
          let part = 2 ^ k - first in
          let front = take (2 ^ k) digests in
          let back = drop (2 ^ k) digests in
          let lf : length front ≡ 2 ^ k = length-take-le (2 ^ k) digests (omega arith) in
          let lb : length back ≡ length digests - 2 ^ k = length-drop (2 ^ k) digests in
          let right = siblings_below H k (first - 2 ^ k) (length (drop part all)) back in
          let a = shown H k first front (take part all) (right ++ more) (subst (Within (take part all) first) (sym lf) (within_left k first digests all)) (omega (arith, lf)) (matches_left k first digests all m) in
          let b = shown H k (first - 2 ^ k) back (drop part all) more (subst (Within (drop part all) (first - 2 ^ k)) (sym lb) (within_right k first digests all (length digests) w)) (omega (arith, lb, twice k)) (matches_right k first digests all m) in
          let siblings : siblings_below H (suc k) first (length all) digests ++ more ≡ siblings_below H k first (length (take part all)) front ++ (right ++ more) =
          ap (λ xs. xs ++ more) (range_split H k first (length all) digests (omega arith) high)
          ∙ ap (λ c. (siblings_below H k first c front ++ siblings_below H k (first - 2 ^ k) (length all - part) back) ++ more) (sym (length-take part all))
          ∙ ap (λ c. (siblings_below H k first (length (take part all)) front ++ siblings_below H k (first - 2 ^ k) c back) ++ more) (sym (length-drop part all))
          ∙ append_assoc (siblings_below H k first (length (take part all)) front) right more in
          let x : Rebuilt = record { digest = subtree_hash H k front; rest = right ++ more; hashed = a.hashed } in
          let y : Rebuilt = record { digest = subtree_hash H k back; rest = more; hashed = b.hashed } in
          let given = siblings_below H k first (length (take part all)) front ++ (right ++ more) in
          let nodes = node_input (subtree_hash H k front) (subtree_hash H k back) ∷ (a.hashed ++ b.hashed) in
          record {
            hashed = nodes;
            is = ap (rebuilt H (suc k) (length digests) first all) siblings
                ∙ split_both H k (length digests) first all given x y (omega arith) high
                (ap (λ n. rebuilt H k n first (take part all) given) (sym lf) ∙ a.is)
                (ap (λ n. rebuilt H k n (first - 2 ^ k) (drop part all) (right ++ more)) (sym lb) ∙ b.is)
                ∙ ap (λ d. Some (record { digest = d; rest = more; hashed = nodes })) (sym (hash_split H k digests high));
          })
    ]

the_value : {x y : Rebuilt} → Some x ≡ Some y → x ≡ y
the_value e = cc

-- what is rebuilt from digests is a digest, and leaves digests
pub record Made (tree : Rebuilt) : Type 0 where
  pub digest : IsDigest tree.digest
  pub rest : All IsDigest tree.rest

pub made : (H : List ℕ → List ℕ) → IsHash H → (k n first : ℕ) (range siblings : List (List ℕ)) (tree : Rebuilt) → All IsDigest range → All IsDigest siblings → rebuilt H k n first range siblings ≡ Some tree → Made tree
made H g k n first [] [] tree dr ds e = let none = rebuilt_missing H k n first in cc
made H g k n first [] (sibling ∷ siblings) tree dr ds e =
    let same : record { digest = sibling; rest = siblings; hashed = [] } ≡ tree = the_value (sym (rebuilt_sibling H k n first sibling siblings) ∙ e) in
    subst Made same (record { digest = All-head IsDigest sibling siblings ds; rest = All-tail IsDigest sibling siblings ds })
made H g zero n first (digest ∷ range) siblings tree dr ds e =
    let same : record { digest = digest; rest = siblings; hashed = [] } ≡ tree = the_value (sym (rebuilt_leaf H n first digest range siblings) ∙ e) in
    subst Made same (record { digest = All-head IsDigest digest range dr; rest = ds })
made H g (suc k) n first (digest ∷ range) siblings tree dr ds e =
    let all = digest ∷ range in
    elim (le_or_lt n (2 ^ k)) [
      | inl low ↦ made H g k n first all siblings tree dr ds (sym (rebuilt_low H k n first all siblings low) ∙ e)
      | inr high ↦ (
          let p = parts H k n first all siblings tree (omega arith) high e in
          let a = made H g k (2 ^ k) first (take (2 ^ k - first) all) siblings p.left (All-take IsDigest (2 ^ k - first) all dr) ds p.left_is in
          let b = made H g k (n - 2 ^ k) (first - 2 ^ k) (drop (2 ^ k - first) all) p.left.rest p.right (All-drop IsDigest (2 ^ k - first) all dr) a.rest p.right_is in
          subst Made p.both (record { digest = g (node_input p.left.digest p.right.digest); rest = b.rest }))
    ]

-- the digest that is rebuilt is that of a tree, so the range is the tree's, or an input of the range and one of the tree collide
pub rebuilt_tree : (H : List ℕ → List ℕ) → IsHash H → (k n first : ℕ) (digests range siblings : List (List ℕ)) (tree : Rebuilt) → n ≡ length digests → n ≤ 2 ^ k → All IsDigest digests → Within range first n → All IsDigest range → All IsDigest siblings
    → rebuilt H k n first range siblings ≡ Some tree → tree.digest ≡ subtree_hash H k digests → Matches range first digests ⊎ Collision H tree.hashed (subtree_inputs H k digests)
unfolding Matches
rebuilt_tree H g k n first digests [] siblings tree len l dd w dr ds e top = inl (λ i b. absurd (omega arith))
rebuilt_tree H g zero n first digests (digest ∷ range) siblings tree len l dd w dr ds e top =
    let a = alone first digests digest range (subst (Within (digest ∷ range) first) len w) (omega (arith, len)) in
    let same : record { digest = digest; rest = siblings; hashed = [] } ≡ tree = the_value (sym (rebuilt_leaf H n first digest range siblings) ∙ e) in
    let leaf : digest ≡ a.leaf = ap (λ t. t.digest) same ∙ top ∙ ap (subtree_hash H zero) a.tree ∙ hash_one H a.leaf in
    inl (λ i b.
    let i0 : i ≡ 0 = omega (arith, a.only) in
    let j0 : first + i ≡ 0 = omega (arith, a.start) in
    ap (λ j. get_or (digest ∷ range) j []) i0 ∙ leaf ∙ sym (ap (λ xs. get_or xs 0 []) a.tree) ∙ sym (ap (λ j. get_or digests j []) j0))
rebuilt_tree H g (suc k) n first digests (digest ∷ range) siblings tree len l dd w dr ds e top =
    let all = digest ∷ range in
    let here = tree.hashed in
    let there = subtree_inputs H (suc k) digests in
    elim (le_or_lt n (2 ^ k)) [
      | inl low ↦ (
          let few : length digests ≤ 2 ^ k = omega (arith, len) in
          elim (rebuilt_tree H g k n first digests all siblings tree len low dd w dr ds (sym (rebuilt_low H k n first all siblings low) ∙ e) (top ∙ hash_low H k digests few)) [
            | inl t ↦ inl t
            | inr c ↦ inr (widened H here (subtree_inputs H k digests) here there (λ x h. h) (λ x. subst (λ xs. Contains xs x) (sym (inputs_low H k digests few))) c)
          ])
      | inr high ↦ (
          let many : 2 ^ k < length digests = omega (arith, len) in
          let part = 2 ^ k - first in
          let front = take (2 ^ k) digests in
          let back = drop (2 ^ k) digests in
          let lf : 2 ^ k ≡ length front = sym (length-take-le (2 ^ k) digests (omega (arith, many))) in
          let lb : n - 2 ^ k ≡ length back = omega (arith, length-drop (2 ^ k) digests, len) in
          let df : All IsDigest front = All-take IsDigest (2 ^ k) digests dd in
          let db : All IsDigest back = All-drop IsDigest (2 ^ k) digests dd in
          let sf = subtree_digest H g k front df in
          let sb = subtree_digest H g k back db in
          let p = parts H k n first all siblings tree (omega arith) high e in
          let ra = All-take IsDigest part all dr in
          let rb = All-drop IsDigest part all dr in
          let a = made H g k (2 ^ k) first (take part all) siblings p.left ra ds p.left_is in
          let b = made H g k (n - 2 ^ k) (first - 2 ^ k) (drop part all) p.left.rest p.right rb a.rest p.right_is in
          let x = node_input p.left.digest p.right.digest in
          let y = node_input (subtree_hash H k front) (subtree_hash H k back) in
          let xs = p.left.hashed ++ p.right.hashed in
          let ys = subtree_inputs H k front ++ subtree_inputs H k back in
          let tx : here ≡ x ∷ xs = ap (λ t. t.hashed) (sym p.both) in
          let ty : there ≡ y ∷ ys = inputs_split H k digests many in
          let equal : H x ≡ H y = ap (λ t. t.digest) p.both ∙ top ∙ hash_split H k digests many in
          elim (same_or_collide H here there x y (at_top here x xs tx) (at_top there y ys ty) (node_bytes p.left.digest p.right.digest a.digest.bytes b.digest.bytes) (node_bytes (subtree_hash H k front) (subtree_hash H k back) sf.bytes sb.bytes) equal) [
            | inl t ↦ (
                let u = tails 1 1 (p.left.digest ++ p.right.digest) (subtree_hash H k front ++ subtree_hash H k back) t in
                let ul = left_same p.left.digest (subtree_hash H k front) p.right.digest (subtree_hash H k back) (a.digest.size ∙ sym sf.size) u in
                let ur = right_same p.right.digest (subtree_hash H k back) p.left.digest (subtree_hash H k front) (b.digest.size ∙ sym sb.size) u in
                elim (rebuilt_tree H g k (2 ^ k) first front (take part all) siblings p.left lf (omega arith) df (within_left k first digests all) ra ds p.left_is ul) [
                  | inr c ↦ inr (widened H p.left.hashed (subtree_inputs H k front) here there
                      (λ z h. deeper here x xs tx z (Contains-append_left p.left.hashed p.right.hashed z h))
                      (λ z h. deeper there y ys ty z (Contains-append_left (subtree_inputs H k front) (subtree_inputs H k back) z h)) c)
                  | inl left ↦ elim (rebuilt_tree H g k (n - 2 ^ k) (first - 2 ^ k) back (drop part all) p.left.rest p.right lb (omega (arith, l, twice k)) db (within_right k first digests all n w) rb a.rest p.right_is ur) [
                    | inr c ↦ inr (widened H p.right.hashed (subtree_inputs H k back) here there
                        (λ z h. deeper here x xs tx z (Contains-append_right p.left.hashed p.right.hashed z h))
                        (λ z h. deeper there y ys ty z (Contains-append_right (subtree_inputs H k front) (subtree_inputs H k back) z h)) c)
                    | inl right ↦ inl (matches_both k first digests all left right)
                  ]
                ])
            | inr c ↦ inr c
          ])
    ]
