-- What is read from stored digests is the root, or the audit path, of the state that they authenticate.
use Rattle.std.proofs.Common.{◌≡◌, ℕ, ◌+◌, ◌-◌, ◌*◌, ◌^◌, ◌<◌, ◌≤◌, List, [], length, get_or, sym, ap, subst, ◌∙◌, arith}
use Rattle.std.specs.Int.{div_ceil}
use Rattle.std.specs.Prelude.{⊤, Some, IfOk, IfSome, Result}
use Rattle.std.proofs.lemmas.Option.{same_Some}
use Rattle.std.proofs.lemmas.Result.{IfOk-weaker}
use Rattle.std.proofs.lemmas.List.FromFn.{get_or-map-range_with_len}
use Rattle.std.proofs.lemmas.List.{length-map}
use Rattle.std.proofs.lemmas.List.FromFn.{length-range_with_len}
use Rattle.std.proofs.lemmas.Nat.{ones_le_self}
use Rattle.bitmap_bytes.specs.Chunk.{IsWidth}
use Rattle.bitmap_core.specs.Meaning.{IsLawful, Meaning, pruned_meaning}
use Rattle.bitmap_core.specs.PrunedBits.{PrunedBits, bit_len, chunk}
use Rattle.historical_bitmap.specs.Changes.{chunk_total}
use Rattle.historical_bitmap.specs.History.{kept_under}
use Rattle.historical_bitmap.specs.View.{history_of}
use Rattle.authenticated_bitmap.specs.LeafDigests.{Authenticates, bitmap_of}
use Rattle.historical_bitmap.specs.Replaced.{retained_chunks}
use Rattle.authenticated_bitmap.specs.Root.{IsBitmap, LeadsTo, chunk_digests, root_of, root_over}
use Rattle.authenticated_bitmap.specs.Stored.{nodes, stored}
use Rattle.authenticated_bitmap.specs.StoredBitmap.{full_chunks}
use Rattle.authenticated_bitmap.specs.Tree.{audit_path, tree_hash}
use Rattle.authenticated_history.specs.Versions.{Authenticated, Follows, version_of}
use Rattle.authenticated_history.proofs.Versions.{authenticated_at}
use Rattle.authenticated_bitmap.proofs.Bitmaps.{authenticated_is_bitmap}
use Rattle.authenticated_bitmap.proofs.Roots.{shows_chunks}
use Rattle.authenticated_bitmap.proofs.StoredLeaves.{chunk_digests_are, count_leaves}

-- the number of leaves, if their digests have fewer than 2 ^ 64 bits
pub leaves_fit : (count len : ℕ) (m : Meaning) → len ≡ m.len → IsLawful 32 m → m.len ≡ 256 * nodes count → count ≤ 2 ^ 61
leaves_fit count len m len_is lawful is = omega (arith, lawful.len_fits, is, ones_le_self count)

-- the stored digests of a state, as the code reads them, and its tree
module _ (H : List ℕ → List ℕ) (n : ℕ) (pos : 0 < n) (s t : PrunedBits) (m : Meaning) (a : Authenticates H n s t) (m_is : m ≡ pruned_meaning 32 t) (len count : ℕ) (len_is : bit_len n s ≡ len) (count_is : count ≡ div_ceil len (8 * n)) where
  total : count ≡ chunk_total n s
  total = count_is ∙ ap (λ l. div_ceil l (8 * n)) (sym len_is)

  -- the leaves are the digests of its chunks
  pub size : length (chunk_digests H (bitmap_of n s t)) ≡ count
  size = ap length (chunk_digests_are H n s t pos a) ∙ count_leaves (chunk_total n s) t ∙ sym total

  pub are_stored : full_chunks m ≡ stored H (chunk_digests H (bitmap_of n s t))
  are_stored = ap full_chunks m_is ∙ a.tree.digests ∙ ap (λ xs. stored H xs) (sym (chunk_digests_are H n s t pos a))

  pub root_read : (pruned : ℕ) (tree root : List ℕ) → s.pruned ≡ pruned → tree ≡ tree_hash H (chunk_digests H (bitmap_of n s t)) → root ≡ root_over H (record { width = n; len = len; pruned = pruned }) tree → root ≡ root_of H (bitmap_of n s t)
  root_read pruned tree root pruned_is tree_is root_is =
      root_is ∙ ap (λ l. root_over H (record { width = n; len = l; pruned = pruned }) tree) (sym len_is)
      ∙ ap (λ p. root_over H (record { width = n; len = bit_len n s; pruned = p }) tree) (sym pruned_is)
      ∙ ap (root_over H (record { width = n; len = bit_len n s; pruned = s.pruned })) tree_is

-- a retained chunk and its audit path lead to the root
pub shown : (H : List ℕ → List ℕ) (n : ℕ) (s t : PrunedBits) → IsWidth n → bit_len n s < 2 ^ 64 → Authenticates H n s t → (i : ℕ) → s.pruned ≤ i → i < chunk_total n s
    → LeadsTo H (root_of H (bitmap_of n s t)) (bitmap_of n s t).shape i (chunk n s i) (audit_path H i (chunk_digests H (bitmap_of n s t)))
shown H n s t width small a i low below =
    subst (λ k. LeadsTo H (root_of H (bitmap_of n s t)) (bitmap_of n s t).shape k (chunk n s i) (audit_path H k (chunk_digests H (bitmap_of n s t)))) index
    (subst (λ bytes. LeadsTo H (root_of H (bitmap_of n s t)) (bitmap_of n s t).shape (s.pruned + (i - s.pruned)) bytes (audit_path H (s.pruned + (i - s.pruned)) (chunk_digests H (bitmap_of n s t)))) bytes_there
    (shows_chunks H (bitmap_of n s t) (i - s.pruned) (authenticated_is_bitmap H n s t width small a) inside))
  where
    index : s.pruned + (i - s.pruned) ≡ i
    index = omega (arith, low)

    within : i - s.pruned < chunk_total n s - s.pruned
    within = omega (arith, low, below)

    inside : i - s.pruned < length (bitmap_of n s t).chunks
    inside = omega (arith, length-map (retained_chunks n s) (chunk n s), length-range_with_len s.pruned (chunk_total n s - s.pruned), within)

    bytes_there : get_or (bitmap_of n s t).chunks (i - s.pruned) [] ≡ chunk n s i
    bytes_there = get_or-map-range_with_len (chunk n s) s.pruned (chunk_total n s - s.pruned) (i - s.pruned) i [] within index

-- the same of a path that a call returns
pub path_shows : {X E : Type 0} (items : X → List (List ℕ)) (r : Result X E) (H : List ℕ → List ℕ) (n : ℕ) (s t : PrunedBits) → IsWidth n → bit_len n s < 2 ^ 64 → Authenticates H n s t → (i : ℕ)
    → IfOk r (λ x. items x ≡ audit_path H i (chunk_digests H (bitmap_of n s t))) → s.pruned ≤ i → i < chunk_total n s → IfOk r (λ x. LeadsTo H (root_of H (bitmap_of n s t)) (bitmap_of n s t).shape i (chunk n s i) (items x))
path_shows items r H n s t width small a i is low below =
    IfOk-weaker r (λ x. items x ≡ audit_path H i (chunk_digests H (bitmap_of n s t))) (λ x. LeadsTo H (root_of H (bitmap_of n s t)) (bitmap_of n s t).shape i (chunk n s i) (items x))
    (λ x e. subst (λ path. LeadsTo H (root_of H (bitmap_of n s t)) (bitmap_of n s t).shape i (chunk n s i) path) (sym e) (shown H n s t width small a i low below)) is

-- a version that is kept under a number
module _ {D : Type 0} (H : List ℕ → List ℕ) (n number : ℕ) (v : Authenticated D ⊤) (s t : PrunedBits) (f : Follows H n v.bits v.digests) (width : IsWidth n) (lawful : IsLawful n (pruned_meaning n s)) (s_is : Some s ≡ kept_under (history_of n v.bits) number) (t_is : Some t ≡ kept_under (history_of 32 v.digests) number) where
  pub authenticated_there : Authenticates H n s t
  authenticated_there = authenticated_at H n number v.bits v.digests s t f (sym s_is) (sym t_is)

  pub version_is_bitmap : IfSome (version_of n v number) IsBitmap
  version_is_bitmap = rw (sym s_is, sym t_is) (authenticated_is_bitmap H n s t width lawful.len_fits authenticated_there)

  pub version_shows : (i : ℕ) (path : List (List ℕ)) → i < chunk_total n s → path ≡ audit_path H i (chunk_digests H (bitmap_of n s t)) → (r : PrunedBits) → kept_under (history_of n v.bits) number ≡ Some r → r.pruned ≤ i
      → IfSome (version_of n v number) (λ b. LeadsTo H (root_of H b) b.shape i (chunk n r i) path)
  version_shows i path below path_is r r_is low =
      let same : s ≡ r = same_Some s r (s_is ∙ r_is) in
      let from : s.pruned ≤ i = subst (λ q. q.pruned ≤ i) (sym same) low in
      rw (sym s_is, sym t_is)
      (subst (λ q. LeadsTo H (root_of H (bitmap_of n s t)) (bitmap_of n s t).shape i (chunk n q i) path) same
      (subst (λ p. LeadsTo H (root_of H (bitmap_of n s t)) (bitmap_of n s t).shape i (chunk n s i) p) (sym path_is) (shown H n s t width lawful.len_fits authenticated_there i from below)))
