-- A leaf is replaced: its digest, and that of each complete subtree that contains it.
use Rattle.std.proofs.Common.{◌≡◌, ℕ, zero, suc, ◌+◌, ◌-◌, ◌*◌, ◌^◌, ◌<◌, ◌≤◌, List, [], ◌∷◌, ◌++◌, length, take, drop, get_or, set, inl, inr, refl, sym, ap, ◌∙◌, arith, append_assoc, Result, Ok, Err, OnOk}
use Rattle.std.specs.Prelude.{count_ones, IsOk}
use Rattle.std.proofs.Math.Seq.{set-append_seam, take-set-lt}
use Rattle.std.proofs.lemmas.List.{length-append, length-take-le, length-drop, length-set, drop-set-lt, drop-set-add, take-set-le, take_all, get_or_append_left, get_or-append-add}
use Rattle.std.proofs.lemmas.Bool.{false≢true}
use Rattle.std.proofs.lemmas.Nat.{pow_pos, ones_le_self}
use Rattle.authenticated_bitmap.specs.Tree.{node_hash, subtree_hash}
use Rattle.authenticated_bitmap.specs.Stored.{stored_below, leaves_under, position, nodes}
use Rattle.authenticated_bitmap.proofs.Tests.{le_or_lt}
use Rattle.authenticated_bitmap.proofs.Complete.{twice}
use Rattle.authenticated_bitmap.proofs.Heights.{tree_at}
use Rattle.authenticated_bitmap.proofs.Steps.{hash_split}
use Rattle.authenticated_bitmap.proofs.Nodes.{below_low, below_full, below_suc, counted, eq_false, eq_true, ones_above, ones_power, ones_zero, top}
use Rattle.authenticated_bitmap.proofs.Places.{at_height}

-- a complete subtree: how many digests it has, and that its own is the last
module _ (H : List ℕ → List ℕ) (k : ℕ) (digests : List (List ℕ)) (full : length digests ≡ 2 ^ k) where
  pub full_count : length (stored_below H k digests) + 1 ≡ 2 * 2 ^ k
  full_count =
      let o : count_ones (length digests) ≡ 1 = ap count_ones full ∙ ones_power k in
      omega (arith, counted H k digests (omega (arith, full)), full, o)

  pub full_last : get_or (stored_below H k digests) (2 * 2 ^ k - 2) [] ≡ subtree_hash H k digests
  full_last =
      let z : 0 * 2 ^ k ≡ 0 = omega arith in
      let place : position k 0 ≡ 2 * 2 ^ k - 2 = omega (arith, ap count_ones z, ones_zero) in
      let all : leaves_under k 0 digests ≡ digests = ap (λ n. take (2 ^ k) (drop n digests)) z ∙ take_all (2 ^ k) digests (omega (arith, full)) in
      let a = at_height H k digests k 0 (omega (arith, full)) (omega (arith, full)) in
      sym (ap (λ p. get_or (stored_below H k digests) p []) place) ∙ a.is ∙ sym (tree_at H k (leaves_under k 0 digests) (omega (arith, ap length all, full))) ∙ ap (subtree_hash H k) all

-- the digests of a part of a tree are those of its halves, and one more if it is complete
nodes_power : (k : ℕ) → nodes (2 ^ k) ≡ 2 * 2 ^ k - 1
nodes_power k = omega (arith, ones_power k)

nodes_whole : (k count : ℕ) → count ≡ 2 * 2 ^ k → nodes count ≡ 4 * 2 ^ k - 1
nodes_whole k count h =
    let e : count ≡ 2 ^ suc k = omega (arith, h, twice k) in
    omega (arith, h, ap count_ones e, ones_power (suc k))

nodes_halves : (k count : ℕ) → 2 ^ k < count → count ≤ 2 * 2 ^ k → 2 * 2 ^ k - 1 + nodes (count - 2 ^ k) ≤ nodes count
nodes_halves k count more few =
    elim (le_or_lt (2 * 2 ^ k) count) [
      | inl all ↦ (
          let rest : count - 2 ^ k ≡ 2 ^ k = omega (arith, all, few) in
          omega (arith, rest, ap count_ones rest, ones_power k, nodes_whole k count (omega (arith, all, few)), pow_pos k))
      | inr less ↦ (
          let e : 2 ^ k + (count - 2 ^ k) ≡ count = omega (arith, more) in
          omega (arith, e, sym (ap count_ones e), ones_above k (count - 2 ^ k) (omega (arith, less)), ones_le_self (count - 2 ^ k), pow_pos k))
    ]

-- the same of the numbers of the code
module _ (level half count : ℕ) (e : half ≡ 2 ^ (level - 1)) (p : 0 < level) where
  pub code_size : 2 ^ level ≡ 2 * half
  code_size = (let up : level ≡ suc (level - 1) = omega (arith, p) in omega (arith, e, ap (λ l. 2 ^ l) up, twice (level - 1)))

  pub code_left_fits : half < count → count ≤ 2 ^ level → nodes half ≤ nodes count
  code_left_fits more few = omega (arith, e, ap (λ m. nodes m) e, nodes_power (level - 1), nodes_halves (level - 1) count (omega (arith, more, e)) (omega (arith, few, e, code_size)))

  pub code_right_fits : half < count → count ≤ 2 ^ level → 2 * half - 1 + nodes (count - half) ≤ nodes count
  code_right_fits more few =
      let rest : nodes (count - half) ≡ nodes (count - 2 ^ (level - 1)) = ap (λ m. nodes (count - m)) e in
      omega (arith, e, rest, nodes_halves (level - 1) count (omega (arith, more, e)) (omega (arith, few, e, code_size)))

  pub code_whole_fits : count ≡ 2 * half → nodes count ≡ 4 * half - 1
  code_whole_fits h = omega (arith, e, nodes_whole (level - 1) count (omega (arith, h, e)))

-- the only leaf
at_zero : (H : List ℕ → List ℕ) (before block after : List (List ℕ)) (i : ℕ) (digest : List ℕ) → length block ≤ 1 → i < length block
    → set (before ++ stored_below H zero block ++ after) (length before) digest ≡ before ++ stored_below H zero (set block i digest) ++ after
unfolding stored_below
at_zero H before [] after i digest l h = absurd (omega arith)
at_zero H before (old ∷ []) after zero digest l h =
    ap (λ xs. set xs (length before) digest) (append_assoc before (old ∷ []) after) ∙ set-append_seam before old after digest ∙ sym (append_assoc before (digest ∷ []) after)
at_zero H before (old ∷ []) after (suc i) digest l h = absurd (omega arith)
at_zero H before (old ∷ (other ∷ block)) after i digest l h = absurd (omega arith)

-- what is stored below a height, by its halves
regrouped : (before left right whole after : List (List ℕ)) → before ++ (left ++ right ++ whole) ++ after ≡ before ++ left ++ (right ++ (whole ++ after))
regrouped before left right whole after = simp append_assoc

regrouped_right : (before left right whole after : List (List ℕ)) → before ++ (left ++ right ++ whole) ++ after ≡ (before ++ left) ++ right ++ (whole ++ after)
regrouped_right before left right whole after = simp append_assoc

joined : (before left right after : List (List ℕ)) (whole : List ℕ) → (before ++ left ++ right) ++ whole ∷ after ≡ before ++ (left ++ right ++ whole ∷ []) ++ after
joined before left right after whole = simp append_assoc

top_length : (H : List ℕ → List ℕ) (k : ℕ) (block : List (List ℕ)) → length block ≡ 2 ^ suc k → top H k block ≡ subtree_hash H (suc k) block ∷ []
unfolding top
top_length H k block h = rw (eq_true (length block) (2 ^ suc k) h) refl

no_top : (H : List ℕ → List ℕ) (k : ℕ) (block : List (List ℕ)) → length block < 2 ^ suc k → top H k block ≡ []
unfolding top
no_top H k block h = rw (eq_false (length block) (2 ^ suc k) (omega arith)) refl

-- halfway: the halves have the digests of the new leaves, and the whole still that of the old ones
pub halfway : (List ℕ → List ℕ) → ℕ → List (List ℕ) → List (List ℕ) → List (List ℕ)
halfway H k new old = stored_below H k (take (2 ^ k) new) ++ stored_below H k (drop (2 ^ k) new) ++ top H k old

module _ (H : List ℕ → List ℕ) (k : ℕ) (before block after : List (List ℕ)) (i : ℕ) (digest : List ℕ) where
  pub low : length block ≤ 2 ^ k → before ++ stored_below H k (set block i digest) ++ after ≡ before ++ stored_below H (suc k) (set block i digest) ++ after
  low h = ap (λ xs. before ++ xs ++ after) (sym (below_low H k (set block i digest) (omega (arith, length-set block i digest, h))))

  pub as_left : before ++ stored_below H (suc k) block ++ after ≡ before ++ stored_below H k (take (2 ^ k) block) ++ (stored_below H k (drop (2 ^ k) block) ++ (top H k block ++ after))
  as_left =
      ap (λ xs. before ++ xs ++ after) (below_suc H k block)
      ∙ regrouped before (stored_below H k (take (2 ^ k) block)) (stored_below H k (drop (2 ^ k) block)) (top H k block) after

  pub as_right : before ++ stored_below H (suc k) block ++ after ≡ (before ++ stored_below H k (take (2 ^ k) block)) ++ stored_below H k (drop (2 ^ k) block) ++ (top H k block ++ after)
  as_right =
      ap (λ xs. before ++ xs ++ after) (below_suc H k block)
      ∙ regrouped_right before (stored_below H k (take (2 ^ k) block)) (stored_below H k (drop (2 ^ k) block)) (top H k block) after

  pub from_left : i < 2 ^ k → before ++ stored_below H k (set (take (2 ^ k) block) i digest) ++ (stored_below H k (drop (2 ^ k) block) ++ (top H k block ++ after)) ≡ before ++ halfway H k (set block i digest) block ++ after
  unfolding halfway
  from_left h =
      ap (λ xs. before ++ stored_below H k xs ++ (stored_below H k (drop (2 ^ k) block) ++ (top H k block ++ after))) (sym (take-set-lt (2 ^ k) block i digest h))
      ∙ ap (λ xs. before ++ stored_below H k (take (2 ^ k) (set block i digest)) ++ (stored_below H k xs ++ (top H k block ++ after))) (sym (drop-set-lt (2 ^ k) block i digest h))
      ∙ sym (regrouped before (stored_below H k (take (2 ^ k) (set block i digest))) (stored_below H k (drop (2 ^ k) (set block i digest))) (top H k block) after)

  pub from_right : 2 ^ k ≤ i → (before ++ stored_below H k (take (2 ^ k) block)) ++ stored_below H k (set (drop (2 ^ k) block) (i - 2 ^ k) digest) ++ (top H k block ++ after) ≡ before ++ halfway H k (set block i digest) block ++ after
  unfolding halfway
  from_right h =
      let at : 2 ^ k + (i - 2 ^ k) ≡ i = omega arith in
      let rest : drop (2 ^ k) (set block i digest) ≡ set (drop (2 ^ k) block) (i - 2 ^ k) digest = ap (λ j. drop (2 ^ k) (set block j digest)) (sym at) ∙ drop-set-add (2 ^ k) block (i - 2 ^ k) digest in
      ap (λ xs. (before ++ stored_below H k xs) ++ stored_below H k (set (drop (2 ^ k) block) (i - 2 ^ k) digest) ++ (top H k block ++ after)) (sym (take-set-le (2 ^ k) block i digest h))
      ∙ ap (λ xs. (before ++ stored_below H k (take (2 ^ k) (set block i digest))) ++ stored_below H k xs ++ (top H k block ++ after)) (sym rest)
      ∙ sym (regrouped_right before (stored_below H k (take (2 ^ k) (set block i digest))) (stored_below H k (drop (2 ^ k) (set block i digest))) (top H k block) after)

-- the digest of the whole is replaced last
module _ (H : List ℕ → List ℕ) (k : ℕ) (before new old after : List (List ℕ)) (same : length new ≡ length old) where
  pub part : length new < 2 ^ suc k → before ++ halfway H k new old ++ after ≡ before ++ stored_below H (suc k) new ++ after
  unfolding halfway
  part h =
      ap (λ xs. before ++ (stored_below H k (take (2 ^ k) new) ++ stored_below H k (drop (2 ^ k) new) ++ xs) ++ after) (no_top H k old (omega (arith, h, same)) ∙ sym (no_top H k new h))
      ∙ ap (λ xs. before ++ xs ++ after) (sym (below_suc H k new))

  pub whole : length new ≡ 2 ^ suc k → (mid : List (List ℕ)) (right : ℕ) → mid ≡ before ++ halfway H k new old ++ after → right ≡ length before + (2 * 2 ^ k - 1)
      → set mid (right + 2 * 2 ^ k - 1) (node_hash H (get_or mid (right - 1) []) (get_or mid (right + 2 * 2 ^ k - 2) [])) ≡ before ++ stored_below H (suc k) new ++ after
  unfolding halfway
  whole h mid right is at =
      let left_half = take (2 ^ k) new in
      let right_half = drop (2 ^ k) new in
      let l = stored_below H k left_half in
      let r = stored_below H k right_half in
      let was = subtree_hash H (suc k) old in
      let left_full : length left_half ≡ 2 ^ k = length-take-le (2 ^ k) new (omega (arith, h, twice k)) in
      let right_full : length right_half ≡ 2 ^ k = omega (arith, length-drop (2 ^ k) new, h, twice k) in
      let left_count = full_count H k left_half left_full in
      let right_count = full_count H k right_half right_full in
      let spread : mid ≡ before ++ (l ++ r ++ was ∷ []) ++ after = is ∙ ap (λ xs. before ++ (l ++ r ++ xs) ++ after) (top_length H k old (omega (arith, h, same))) in
      let first : mid ≡ before ++ (l ++ (r ++ was ∷ after)) = spread ∙ simp append_assoc in
      let second : mid ≡ (before ++ l) ++ (r ++ was ∷ after) = spread ∙ simp append_assoc in
      let third : mid ≡ (before ++ l ++ r) ++ was ∷ after = spread ∙ simp append_assoc in
      let size : length (before ++ l) ≡ length before + length l = length-append before l in
      let size_all : length (before ++ l ++ r) ≡ length (before ++ l) + length r = length-append (before ++ l) r in
      let place : right - 1 ≡ length before + (2 * 2 ^ k - 2) = omega (arith, at, pow_pos k) in
      let place_right : right + 2 * 2 ^ k - 2 ≡ length (before ++ l) + (2 * 2 ^ k - 2) = omega (arith, at, size, left_count, pow_pos k) in
      let place_whole : right + 2 * 2 ^ k - 1 ≡ length (before ++ l ++ r) = omega (arith, at, size, size_all, left_count, right_count, pow_pos k) in
      let from_left : get_or mid (right - 1) [] ≡ subtree_hash H k left_half =
      ap (λ xs. get_or xs (right - 1) []) first ∙ ap (λ p. get_or (before ++ (l ++ (r ++ was ∷ after))) p []) place
      ∙ get_or-append-add before (l ++ (r ++ was ∷ after)) (2 * 2 ^ k - 2) []
      ∙ get_or_append_left l (r ++ was ∷ after) [] (2 * 2 ^ k - 2) (omega (arith, left_count, pow_pos k))
      ∙ full_last H k left_half left_full in
      let from_right : get_or mid (right + 2 * 2 ^ k - 2) [] ≡ subtree_hash H k right_half =
      ap (λ xs. get_or xs (right + 2 * 2 ^ k - 2) []) second ∙ ap (λ p. get_or ((before ++ l) ++ (r ++ was ∷ after)) p []) place_right
      ∙ get_or-append-add (before ++ l) (r ++ was ∷ after) (2 * 2 ^ k - 2) []
      ∙ get_or_append_left r (was ∷ after) [] (2 * 2 ^ k - 2) (omega (arith, right_count, pow_pos k))
      ∙ full_last H k right_half right_full in
      let now = subtree_hash H (suc k) new in
      let digest : node_hash H (get_or mid (right - 1) []) (get_or mid (right + 2 * 2 ^ k - 2) []) ≡ now =
      ap (λ x. node_hash H x (get_or mid (right + 2 * 2 ^ k - 2) [])) from_left ∙ ap (λ x. node_hash H (subtree_hash H k left_half) x) from_right
      ∙ sym (hash_split H k new (omega (arith, h, twice k, pow_pos k))) in
      ap (λ x. set mid (right + 2 * 2 ^ k - 1) x) digest ∙ ap (λ p. set mid p now) place_whole ∙ ap (λ xs. set xs (length (before ++ l ++ r)) now) third
      ∙ set-append_seam (before ++ l ++ r) was after now
      ∙ joined before l r after now
      ∙ ap (λ xs. before ++ xs ++ after) (sym (below_full H k new h))

-- the only leaf, as the code has it
pub code_leaf : (H : List ℕ → List ℕ) (level place : ℕ) (now before block after : List (List ℕ)) (i : ℕ) (digest : List ℕ) → level ≡ 0 → length before ≡ place → length block ≤ 2 ^ level → i < length block
    → now ≡ before ++ stored_below H level block ++ after → set now place digest ≡ before ++ stored_below H level (set block i digest) ++ after
code_leaf H level place now before block after i digest z lb few some is =
    let one : 2 ^ level ≡ 1 = ap (λ l. 2 ^ l) z in
    ap (λ xs. set xs place digest) (is ∙ ap (λ l. before ++ stored_below H l block ++ after) z)
    ∙ ap (λ p. set (before ++ stored_below H zero block ++ after) p digest) (sym lb)
    ∙ at_zero H before block after i digest (omega (arith, few, one)) some
    ∙ sym (ap (λ l. before ++ stored_below H l (set block i digest) ++ after) z)

-- the same at a level above 0, from what the code ensures
module _ (H : List ℕ → List ℕ) (level half : ℕ) (e : half ≡ 2 ^ (level - 1)) (p : 0 < level) (before block after : List (List ℕ)) where
  up : suc (level - 1) ≡ level
  up = omega arith

  pub code_low : length block ≤ half → before ++ stored_below H level block ++ after ≡ before ++ stored_below H (level - 1) block ++ after
  code_low few = sym (ap (λ l. before ++ stored_below H l block ++ after) up) ∙ ap (λ xs. before ++ xs ++ after) (below_low H (level - 1) block (omega (arith, few, e)))

  pub code_as_left : before ++ stored_below H level block ++ after
      ≡ before ++ stored_below H (level - 1) (take (2 ^ (level - 1)) block) ++ (stored_below H (level - 1) (drop (2 ^ (level - 1)) block) ++ (top H (level - 1) block ++ after))
  code_as_left = sym (ap (λ l. before ++ stored_below H l block ++ after) up) ∙ as_left H (level - 1) before block after 0 []

  pub code_as_right : before ++ stored_below H level block ++ after
      ≡ (before ++ stored_below H (level - 1) (take (2 ^ (level - 1)) block)) ++ stored_below H (level - 1) (drop (2 ^ (level - 1)) block) ++ (top H (level - 1) block ++ after)
  code_as_right = sym (ap (λ l. before ++ stored_below H l block ++ after) up) ∙ as_right H (level - 1) before block after 0 []

  pub code_from_right : (i : ℕ) (digest : List ℕ) → half ≤ i
      → (before ++ stored_below H (level - 1) (take (2 ^ (level - 1)) block)) ++ stored_below H (level - 1) (set (drop (2 ^ (level - 1)) block) (i - half) digest) ++ (top H (level - 1) block ++ after)
      ≡ before ++ halfway H (level - 1) (set block i digest) block ++ after
  code_from_right i digest h =
      ap (λ m. (before ++ stored_below H (level - 1) (take (2 ^ (level - 1)) block)) ++ stored_below H (level - 1) (set (drop (2 ^ (level - 1)) block) (i - m) digest) ++ (top H (level - 1) block ++ after)) e
      ∙ from_right H (level - 1) before block after i digest (omega (arith, h, e))

  pub code_finishes : (new mid result : List (List ℕ)) (right : ℕ) → length new ≡ length block → length new ≤ 2 ^ level → mid ≡ before ++ halfway H (level - 1) new block ++ after → right ≡ length before + 2 * half - 1
      → (length new < 2 * half → result ≡ mid)
      → (length new ≡ 2 * half → result ≡ set mid (right + 2 * half - 1) (node_hash H (get_or mid (right - 1) []) (get_or mid (right + 2 * half - 2) [])))
      → result ≡ before ++ stored_below H level new ++ after
  code_finishes new mid result right same few is at if_part if_whole =
      let k = level - 1 in
      let size : 2 ^ suc k ≡ 2 * half = omega (arith, twice k, e) in
      let all : 2 ^ level ≡ 2 ^ suc k = ap (λ l. 2 ^ l) (sym up) in
      elim (le_or_lt (2 ^ suc k) (length new)) [
        | inl full ↦ (
            let h : length new ≡ 2 ^ suc k = omega (arith, full, few, all) in
            if_whole (omega (arith, h, size))
            ∙ ap (λ m. set mid (right + 2 * m - 1) (node_hash H (get_or mid (right - 1) []) (get_or mid (right + 2 * m - 2) []))) e
            ∙ whole H k before new block after same h mid right is (omega (arith, at, e, pow_pos k))
            ∙ ap (λ l. before ++ stored_below H l new ++ after) up)
        | inr less ↦ (
            if_part (omega (arith, less, size)) ∙ is ∙ part H k before new block after same less
            ∙ ap (λ l. before ++ stored_below H l new ++ after) up)
      ]

  -- the same where the digest of the whole may be refused
  pub code_finishes_ok : {A E : Type 0} (r : Result A E) (new mid result : List (List ℕ)) (right : ℕ) → length new ≡ length block → length new ≤ 2 ^ level → mid ≡ before ++ halfway H (level - 1) new block ++ after
      → right ≡ length before + 2 * half - 1
      → (length new < 2 * half → result ≡ mid)
      → (length new ≡ 2 * half → OnOk r (result ≡ set mid (right + 2 * half - 1) (node_hash H (get_or mid (right - 1) []) (get_or mid (right + 2 * half - 2) []))))
      → OnOk r (result ≡ before ++ stored_below H level new ++ after)
  code_finishes_ok (Ok x) new mid result right same few is at if_part if_whole = code_finishes new mid result right same few is at if_part if_whole
  code_finishes_ok (Err x) new mid result right same few is at if_part if_whole = tt

-- what is equal on success is equal to each of two equal lists
pub on_ok_equal : {A E : Type 0} (r : Result A E) (new one other : List (List ℕ)) → OnOk r (new ≡ one) → one ≡ other → OnOk r (new ≡ other)
on_ok_equal (Ok x) new one other h e = h ∙ e
on_ok_equal (Err x) new one other h e = tt

-- what is so on success is so if nothing fails
pub surely : {A E P : Type 0} (r : Result A E) → IsOk r → OnOk r P → P
surely (Ok x) ok h = h
surely (Err x) ok h = absurd (false≢true ok)
