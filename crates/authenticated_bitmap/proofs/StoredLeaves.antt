-- The digests of the leaves of a tree, found among those that are stored for it.
use Rattle.std.proofs.Common.{◌≡◌, ℕ, zero, ◌+◌, ◌-◌, ◌*◌, ◌^◌, ◌<◌, ◌≤◌, min, List, [], ◌∷◌, ◌++◌, length, take, drop, map, get_or, set, replicate, refl, sym, ap, ◌∙◌, arith, inl, inr, append_assoc}
use Rattle.std.proofs.lemmas.Bool.{cases_lt, le-ltb, lt-ltb}
use Rattle.std.proofs.lemmas.List.{drop_more, get_or-append_right, get_or-map, get_or_append_left, length-append, length-map, length-set, length-take, length_push, replicate_more}
use Rattle.std.proofs.lemmas.List.FromFn.{fill_by_all, get_or-map-range_with_len, get_or-range_with_len, length-map-range_with_len, length-range_with_len}
use Rattle.bitmap_core.specs.PrunedBits.{PrunedBits, bit_len, chunk}
use Rattle.authenticated_bitmap.specs.Tree.{leaf_hash, subtree_hash, tree_hash}
use Rattle.authenticated_bitmap.specs.Root.{chunk_digests}
use Rattle.authenticated_bitmap.specs.Stored.{leaves_under, nodes, position, stored}
use Rattle.historical_bitmap.specs.Changes.{chunk_total}
use Rattle.historical_bitmap.specs.Pending.{PendingEdits}
use Rattle.historical_bitmap.specs.Replaced.{retained_chunks}
use Rattle.historical_bitmap.specs.View.{View}
use Rattle.historical_bitmap.proofs.History.Replaced.{pruned_total}
use Rattle.authenticated_bitmap.specs.LeafDigests.{Authenticates, StoresTree, bitmap_of, digests_of, leaf_digests, leaves_in, with_leaf, with_leaves}
use Rattle.authenticated_bitmap.specs.StoredBitmap.{IsOnBaseOf}
use Rattle.authenticated_bitmap.proofs.Heights.{tree_at}
use Rattle.authenticated_bitmap.proofs.Places.{stores_subtrees}

leaf_alone : (H : List ℕ → List ℕ) (digest : List ℕ) → subtree_hash H zero (digest ∷ []) ≡ digest
unfolding subtree_hash
leaf_alone H digest = refl

-- the digest of a leaf is at the place of its level
leaf_there : (H : List ℕ → List ℕ) (digests : List (List ℕ)) (i : ℕ) → i < length digests → get_or (stored H digests) (position 0 i) [] ≡ get_or digests i []
leaf_there H digests i inside =
    let first : i * 2 ^ 0 ≡ i = omega arith in
    let under : leaves_under 0 i digests ≡ get_or digests i [] ∷ [] = ap (λ k. take (2 ^ 0) (drop k digests)) first ∙ ap (take (2 ^ 0)) (drop_more digests i [] inside) in
    (stores_subtrees H).at digests 0 i (omega (arith, inside)) ∙ ap (tree_hash H) under ∙ sym (tree_at H 0 (get_or digests i [] ∷ []) (omega arith)) ∙ leaf_alone H (get_or digests i [])

-- the leaves of the digests that are stored for some leaves are these
pub leaves_of_stored : (H : List ℕ → List ℕ) (digests : List (List ℕ)) (count : ℕ) → length digests ≡ count → leaf_digests count (stored H digests) ≡ digests
leaves_of_stored H digests count size =
    sym (fill_by_all (λ i. get_or (stored H digests) (position 0 i) []) digests count [] size (λ i below. sym (leaf_there H digests i (omega (arith, below, size)))))

pub count_leaves : (count : ℕ) (t : PrunedBits) → length (leaves_in count t) ≡ count
count_leaves count t = length-map-range_with_len (λ i. get_or (digests_of t) (position 0 i) []) 0 count

-- a bitmap that has the digests that are stored for some leaves stores their tree
pub record Stores (H : List ℕ → List ℕ) (count : ℕ) (t : PrunedBits) (leaves : List (List ℕ)) : Type 0 where
  pub tree : StoresTree H count t
  pub are : leaves_in count t ≡ leaves

pub stores : (H : List ℕ → List ℕ) (count : ℕ) (t : PrunedBits) (leaves : List (List ℕ)) → length leaves ≡ count → t.pruned ≡ 0 → bit_len 32 t ≡ 256 * nodes count → digests_of t ≡ stored H leaves → Stores H count t leaves
stores H count t leaves size pruned len is =
    let are : leaves_in count t ≡ leaves = ap (leaf_digests count) is ∙ leaves_of_stored H leaves count size in
    record { tree = record { pruned = pruned; len = len; digests = is ∙ ap (λ xs. stored H xs) (sym are) }; are = are }

-- what an edit makes of a stored tree, from what it makes of its digests
module _ (H : List ℕ → List ℕ) (count : ℕ) (old new : PrunedBits) (tree : StoresTree H count old) (pruned : new.pruned ≡ 0) where
  pub leaf_replaced : (i : ℕ) (digest : List ℕ) → bit_len 32 new ≡ 256 * nodes count → ((digests : List (List ℕ)) → length digests ≡ count → digests_of old ≡ stored H digests → digests_of new ≡ stored H (set digests i digest))
      → Stores H count new (set (leaves_in count old) i digest)
  leaf_replaced i digest len value =
      stores H count new (set (leaves_in count old) i digest) (length-set (leaves_in count old) i digest ∙ count_leaves count old) pruned len (value (leaves_in count old) (count_leaves count old) tree.digests)

  pub leaf_appended : (digest : List ℕ) → bit_len 32 new ≡ 256 * nodes (count + 1) → ((digests : List (List ℕ)) → length digests ≡ count → digests_of old ≡ stored H digests → digests_of new ≡ stored H (digests ++ digest ∷ []))
      → Stores H (count + 1) new (leaves_in count old ++ digest ∷ [])
  leaf_appended digest len value =
      stores H (count + 1) new (leaves_in count old ++ digest ∷ []) (omega (arith, length_push (leaves_in count old) digest, count_leaves count old)) pruned len (value (leaves_in count old) (count_leaves count old) tree.digests)

  pub leaves_cut : (kept : ℕ) → bit_len 32 new ≡ 256 * nodes (min kept count) → ((digests : List (List ℕ)) → length digests ≡ count → digests_of old ≡ stored H digests → digests_of new ≡ stored H (take kept digests))
      → Stores H (min kept count) new (take kept (leaves_in count old))
  leaves_cut kept len value =
      stores H (min kept count) new (take kept (leaves_in count old)) (length-take kept (leaves_in count old) ∙ ap (min kept) (count_leaves count old)) pruned len (value (leaves_in count old) (count_leaves count old) tree.digests)

-- one more digest of a chunk of zero bytes
pub zeros_more : (leaves front : List (List ℕ)) (from count : ℕ) (digest same : List ℕ) → from ≤ count → leaves ≡ front ++ replicate (count - from) same → digest ≡ same → leaves ++ digest ∷ [] ≡ front ++ replicate (count + 1 - from) same
zeros_more leaves front from count digest same low before is =
    let more : count - from + 1 ≡ count + 1 - from = omega arith in
    ap (λ xs. xs ++ digest ∷ []) before ∙ ap (λ x. front ++ replicate (count - from) same ++ x ∷ []) is ∙ append_assoc front (replicate (count - from) same) (same ∷ [])
    ∙ ap (λ xs. front ++ xs) (replicate_more (count - from) same ∙ ap (λ k. replicate k same) more)

-- the digest of a changed chunk is replaced if the chunk had one, and else appended
pub leaf_within : (H : List ℕ → List ℕ) (leaves : List (List ℕ)) (i : ℕ) (bytes : List ℕ) → i < length leaves → with_leaf H leaves (i, bytes) ≡ set leaves i (leaf_hash H bytes)
leaf_within H leaves i bytes inside = rw (lt-ltb i (length leaves) inside) refl

pub leaf_past : (H : List ℕ → List ℕ) (leaves : List (List ℕ)) (i : ℕ) (bytes : List ℕ) → length leaves ≤ i → with_leaf H leaves (i, bytes) ≡ leaves ++ leaf_hash H bytes ∷ []
leaf_past H leaves i bytes outside = rw (le-ltb i (length leaves) outside) refl

-- one change is made, and the others are left
pub change_put : (H : List ℕ → List ℕ) (leaves after all : List (List ℕ)) (changes rest : List (ℕ × List ℕ)) (change : ℕ × List ℕ) → changes ≡ change ∷ rest → after ≡ with_leaf H leaves change → with_leaves H leaves changes ≡ all → with_leaves H after rest ≡ all
change_put H leaves after all changes rest change is put before = ap (λ xs. with_leaves H xs rest) put ∙ sym (ap (with_leaves H leaves) is) ∙ before

-- a batch is on the base of another one that is on the base of a third
pub base_then : (first second third : View PendingEdits) → IsOnBaseOf first second → IsOnBaseOf second third → IsOnBaseOf first third
base_then first second third before after = record { current = after.current ∙ before.current; commits = after.commits ∙ before.commits; last = after.last ∙ before.last }

-- the digests of all chunks of a bitmap are the leaves that are stored for it
pub chunk_digests_are : (H : List ℕ → List ℕ) (n : ℕ) (s t : PrunedBits) → 0 < n → Authenticates H n s t → chunk_digests H (bitmap_of n s t) ≡ leaves_in (chunk_total n s) t
chunk_digests_are H n s t pos a = fill_by_all leaf both total [] size at
  where
    total : ℕ
    total = chunk_total n s

    leaf : ℕ → List ℕ
    leaf i = get_or (digests_of t) (position 0 i) []

    front : List (List ℕ)
    front = leaves_in s.pruned t

    back : List (List ℕ)
    back = map (leaf_hash H) (map (chunk n s) (retained_chunks n s))

    both : List (List ℕ)
    both = front ++ back

    size : length both ≡ total
    size =
        omega (arith, length-append front back, count_leaves s.pruned t, length-map (map (chunk n s) (retained_chunks n s)) (leaf_hash H), length-map (retained_chunks n s) (chunk n s), length-range_with_len s.pruned (total - s.pruned), pruned_total n s pos)

    at : (i : ℕ) → i < total → get_or both i [] ≡ leaf i
    at i below = elim (cases_lt i s.pruned) [
      | inl l ↦ get_or_append_left front back [] i (omega (arith, l, count_leaves s.pruned t)) ∙ get_or-map-range_with_len leaf 0 s.pruned i i [] l (omega arith)
      | inr l ↦ (
          let place = i - s.pruned in
          let within : place < total - s.pruned = omega (arith, l, below) in
          let index : get_or (retained_chunks n s) place 0 ≡ i = get_or-range_with_len s.pruned (total - s.pruned) place 0 within ∙ omega (arith, l) in
          get_or-append_right front back s.pruned i [] (count_leaves s.pruned t) l
          ∙ get_or-map (leaf_hash H) (map (chunk n s) (retained_chunks n s)) place [] [] (omega (arith, within, length-map (retained_chunks n s) (chunk n s), length-range_with_len s.pruned (total - s.pruned)))
          ∙ ap (leaf_hash H) (get_or-map (chunk n s) (retained_chunks n s) place 0 [] (omega (arith, within, length-range_with_len s.pruned (total - s.pruned))) ∙ ap (chunk n s) index)
          ∙ sym (a.leaves i l below) ∙ get_or-map-range_with_len leaf 0 total i i [] below (omega arith))
    ]
