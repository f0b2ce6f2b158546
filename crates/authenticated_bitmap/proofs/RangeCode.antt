-- The definitions of ranges as the code goes through them: at a height, and half of the leaves that fit it.
use Rattle.std.proofs.Common.{◌≡◌, ◌≢◌, ℕ, suc, ◌-◌, ◌^◌, ◌<◌, ◌≤◌, min, List, [], ◌∷◌, ◌++◌, length, take, drop, get_or, All, Some, None, refl, sym, ap, subst, ◌∙◌, arith, append_assoc}
use Rattle.std.specs.List.{take-map, drop-map, flat_map}
use Rattle.std.specs.Option.{option_and_then}
use Rattle.std.proofs.lemmas.List.{take_rest, append-nil, length-map, take_min, drop_min, take_at, drop_at}
use Rattle.std.proofs.lemmas.List.Elements.{All-nil, All-cons, All-get_or, All-take, All-drop, All-from_get_or}
use Rattle.authenticated_bitmap.specs.Tree.{AreBytes, IsDigest, leaf_hash, leaf_hashes, node_hash, node_input, subtree_hash}
use Rattle.authenticated_bitmap.specs.Range.{siblings_below, rebuilt, Rebuilds, if_none_left, tree_from_range}
use Rattle.authenticated_bitmap.proofs.Complete.{below_power}
use Rattle.authenticated_bitmap.proofs.Ranges.{rebuilt_same}
use Rattle.authenticated_bitmap.proofs.RangeSteps.{siblings_none, siblings_leaf, range_low, range_split, rebuilt_missing, rebuilt_sibling, rebuilt_leaf, rebuilt_low, split_missing_left, split_missing_right, split_both}

module _ (H : List ℕ → List ℕ) where
  pub code_siblings_none : (h first count : ℕ) (digests : List (List ℕ)) → count ≡ 0 → subtree_hash H h digests ∷ [] ≡ siblings_below H h first count digests
  code_siblings_none h first count digests z = sym (siblings_none H h first digests) ∙ ap (λ c. siblings_below H h first c digests) (sym z)

  pub code_siblings_leaf : (h first count : ℕ) (old digests : List (List ℕ)) → 0 < count → h ≡ 0 → old ≡ old ++ siblings_below H h first count digests
  code_siblings_leaf h first count old digests p z = sym (append-nil old) ∙ ap (λ s. old ++ s) (sym (siblings_leaf H first count digests p) ∙ ap (λ k. siblings_below H k first count digests) (sym z))

  pub code_rebuilt_missing : (h n first : ℕ) (chunks siblings : List (List ℕ)) → length chunks ≡ 0 → length siblings ≡ 0 → rebuilt H h n first (leaf_hashes H chunks) siblings ≡ None
  code_rebuilt_missing h n first [] [] c s = rebuilt_missing H h n first
  code_rebuilt_missing h n first (chunk ∷ chunks) siblings c s = absurd (omega arith)
  code_rebuilt_missing h n first [] (sibling ∷ siblings) c s = absurd (omega arith)

  pub code_rebuilt_sibling : (h n first : ℕ) (chunks siblings rest : List (List ℕ)) (sibling : List ℕ) → length chunks ≡ 0 → siblings ≡ sibling ∷ rest → Rebuilds (rebuilt H h n first (leaf_hashes H chunks) siblings) sibling rest
  code_rebuilt_sibling h n first [] siblings rest sibling c s = record { hashed = []; is = ap (rebuilt H h n first []) s ∙ rebuilt_sibling H h n first sibling rest }
  code_rebuilt_sibling h n first (chunk ∷ chunks) siblings rest sibling c s = absurd (omega arith)

  pub code_rebuilt_leaf : (h n first : ℕ) (chunks siblings : List (List ℕ)) (digest leaf : List ℕ) → h ≡ 0 → length chunks ≢ 0 → leaf ≡ get_or chunks 0 leaf → digest ≡ leaf_hash H leaf → Rebuilds (rebuilt H h n first (leaf_hashes H chunks) siblings) digest siblings
  code_rebuilt_leaf h n first [] siblings digest leaf z c l d = absurd (c refl)
  code_rebuilt_leaf h n first (chunk ∷ chunks) siblings digest leaf z c l d = record {
    hashed = [];
    is = ap (λ k. rebuilt H k n first (leaf_hash H chunk ∷ leaf_hashes H chunks) siblings) z ∙ rebuilt_leaf H n first (leaf_hash H chunk) (leaf_hashes H chunks) siblings
        ∙ ap (λ x. Some (record { digest = x; rest = siblings; hashed = [] })) (ap (leaf_hash H) (sym l) ∙ sym d);
  }

module _ (H : List ℕ → List ℕ) (h half : ℕ) (e : half ≡ 2 ^ (h - 1)) (p : 0 < h) where
  up : suc (h - 1) ≡ h
  up = omega arith

  pub code_range_low : (first count : ℕ) (digests : List (List ℕ)) → length digests ≤ half → siblings_below H (h - 1) first count digests ≡ siblings_below H h first count digests
  code_range_low first count digests l = sym (range_low H (h - 1) first count digests (omega arith)) ∙ ap (λ k. siblings_below H k first count digests) up

  pub code_range_split : (first count : ℕ) (digests old : List (List ℕ)) → 0 < count → half < length digests
      → (old ++ siblings_below H (h - 1) first (min (half - first) count) (take half digests)) ++ siblings_below H (h - 1) (first - half) (count - (half - first)) (take (length digests - half) (drop half digests))
      ≡ old ++ siblings_below H h first count digests
  code_range_split first count digests old some l =
      append_assoc old (siblings_below H (h - 1) first (min (half - first) count) (take half digests)) (siblings_below H (h - 1) (first - half) (count - (half - first)) (take (length digests - half) (drop half digests)))
      ∙ ap (λ rest. old ++ (siblings_below H (h - 1) first (min (half - first) count) (take half digests) ++ siblings_below H (h - 1) (first - half) (count - (half - first)) rest)) (take_rest digests half)
      ∙ ap (λ m. old ++ (siblings_below H (h - 1) first (min (m - first) count) (take m digests) ++ siblings_below H (h - 1) (first - m) (count - (m - first)) (drop m digests))) e
      ∙ ap (λ s. old ++ s) (sym (range_split H (h - 1) first count digests some (omega arith)) ∙ ap (λ k. siblings_below H k first count digests) up)

  pub code_rebuilt_low : (n first : ℕ) (range siblings : List (List ℕ)) → n ≤ half → rebuilt H (h - 1) n first range siblings ≡ rebuilt H h n first range siblings
  code_rebuilt_low n first range siblings l = sym (rebuilt_low H (h - 1) n first range siblings (omega arith)) ∙ ap (λ k. rebuilt H k n first range siblings) up

  module _ (n first count : ℕ) (chunks siblings : List (List ℕ)) (some : length chunks ≢ 0) (many : half < n) (after : ℕ) (c : count ≡ min (half - first) (length chunks)) (a : after ≡ first - half) where
    range : List (List ℕ)
    range = leaf_hashes H chunks

    some_left : 0 < length range
    unfolding range
    some_left = omega (arith, length-map chunks (leaf_hash H))

    left_chunks : rebuilt H (h - 1) half first (leaf_hashes H (take count chunks)) siblings ≡ rebuilt H (h - 1) (2 ^ (h - 1)) first (take (2 ^ (h - 1) - first) range) siblings
    unfolding range
    left_chunks =
        ap (λ m. rebuilt H (h - 1) half first (leaf_hashes H (take m chunks)) siblings) c
        ∙ ap (λ xs. rebuilt H (h - 1) half first (leaf_hashes H xs) siblings) (take_min (half - first) chunks)
        ∙ ap (λ xs. rebuilt H (h - 1) half first xs siblings) (sym (take-map (leaf_hash H) (half - first) chunks))
        ∙ ap (λ m. rebuilt H (h - 1) m first (take (m - first) (leaf_hashes H chunks)) siblings) e

    right_chunks : (rest : List (List ℕ)) → rebuilt H (h - 1) (n - half) after (leaf_hashes H (take (length chunks - count) (drop count chunks))) rest ≡ rebuilt H (h - 1) (n - 2 ^ (h - 1)) (first - 2 ^ (h - 1)) (drop (2 ^ (h - 1) - first) range) rest
    unfolding range
    right_chunks rest =
        ap (λ f. rebuilt H (h - 1) (n - half) f (leaf_hashes H (take (length chunks - count) (drop count chunks))) rest) a
        ∙ ap (λ xs. rebuilt H (h - 1) (n - half) (first - half) (leaf_hashes H xs) rest) (take_rest chunks count)
        ∙ ap (λ m. rebuilt H (h - 1) (n - half) (first - half) (leaf_hashes H (drop m chunks)) rest) c
        ∙ ap (λ xs. rebuilt H (h - 1) (n - half) (first - half) (leaf_hashes H xs) rest) (drop_min (half - first) chunks)
        ∙ ap (λ xs. rebuilt H (h - 1) (n - half) (first - half) xs rest) (sym (drop-map (leaf_hash H) (half - first) chunks))
        ∙ ap (λ m. rebuilt H (h - 1) (n - m) (first - m) (drop (m - first) (leaf_hashes H chunks)) rest) e

    pub code_missing_left : rebuilt H (h - 1) half first (leaf_hashes H (take count chunks)) siblings ≡ None → rebuilt H h n first (leaf_hashes H chunks) siblings ≡ None
    unfolding range
    code_missing_left x =
        ap (λ k. rebuilt H k n first (leaf_hashes H chunks) siblings) (sym up)
        ∙ split_missing_left H (h - 1) n first range siblings some_left (omega arith) (sym left_chunks ∙ x)

    pub code_missing_right : (left : List ℕ) (rest : List (List ℕ)) → Rebuilds (rebuilt H (h - 1) half first (leaf_hashes H (take count chunks)) siblings) left rest
        → rebuilt H (h - 1) (n - half) after (leaf_hashes H (take (length chunks - count) (drop count chunks))) rest ≡ None → rebuilt H h n first (leaf_hashes H chunks) siblings ≡ None
    unfolding range
    code_missing_right left rest l x =
        ap (λ k. rebuilt H k n first (leaf_hashes H chunks) siblings) (sym up)
        ∙ split_missing_right H (h - 1) n first range siblings (record { digest = left; rest = rest; hashed = l.hashed }) some_left (omega arith) (sym left_chunks ∙ l.is) (sym (right_chunks rest) ∙ x)

    pub code_both : (digest left right : List ℕ) (rest last : List (List ℕ)) → Rebuilds (rebuilt H (h - 1) half first (leaf_hashes H (take count chunks)) siblings) left rest
        → Rebuilds (rebuilt H (h - 1) (n - half) after (leaf_hashes H (take (length chunks - count) (drop count chunks))) rest) right last
        → digest ≡ node_hash H left right → Rebuilds (rebuilt H h n first (leaf_hashes H chunks) siblings) digest last
    unfolding range
    code_both digest left right rest last l r d = record {
      hashed = node_input left right ∷ (l.hashed ++ r.hashed);
      is = ap (λ k. rebuilt H k n first (leaf_hashes H chunks) siblings) (sym up)
          ∙ split_both H (h - 1) n first range siblings (record { digest = left; rest = rest; hashed = l.hashed }) (record { digest = right; rest = last; hashed = r.hashed }) some_left (omega arith) (sym left_chunks ∙ l.is) (sym (right_chunks rest) ∙ r.is)
          ∙ ap (λ x. Some (record { digest = x; rest = last; hashed = node_input left right ∷ (l.hashed ++ r.hashed) })) (sym d);
    }

-- the items of lists that follow one another are bytes
pub items_are_bytes : (xs : List (List ℕ)) (flat : List ℕ) → flat ≡ flat_map (λ x. x) xs → AreBytes flat → All AreBytes xs
items_are_bytes [] flat e h = All-nil AreBytes
items_are_bytes (x ∷ xs) flat e h =
    let both : AreBytes (x ++ flat_map (λ y. y) xs) = subst AreBytes e h in
    let rest = flat_map (λ y. y) xs in
    All-cons AreBytes x xs (subst AreBytes (take_at x rest (length x) refl) (All-take (λ n. n < 256) (length x) (x ++ rest) both))
    (items_are_bytes xs rest refl (subst AreBytes (drop_at x rest (length x) refl) (All-drop (λ n. n < 256) (length x) (x ++ rest) both)))

-- lists of 32 bytes are digests
pub are_digests : (xs : List (List ℕ)) → All AreBytes xs → ((i : ℕ) → i < length xs → length (get_or xs i []) ≡ 32) → All IsDigest xs
are_digests xs b s = All-from_get_or IsDigest xs [] (λ i l. record { size = s i l; bytes = All-get_or AreBytes xs i [] l b })

-- what is left when a tree is rebuilt
module _ (H : List ℕ → List ℕ) (n first : ℕ) (range siblings : List (List ℕ)) (fits : n ≤ 2 ^ 64) where
  height : rebuilt H 64 n first range siblings ≡ rebuilt H n n first range siblings
  height = rebuilt_same H 64 n n first range siblings fits (below_power n)

  pub code_tree_missing : rebuilt H 64 n first range siblings ≡ None → None ≡ tree_from_range H first n range siblings
  code_tree_missing e = sym (ap (option_and_then (λ tree. if_none_left tree.rest tree.digest)) (sym height ∙ e))

  pub code_tree_whole : (digest : List ℕ) (rest : List (List ℕ)) → Rebuilds (rebuilt H 64 n first range siblings) digest rest → length rest ≡ 0 → Some digest ≡ tree_from_range H first n range siblings
  code_tree_whole digest [] r z = sym (ap (option_and_then (λ tree. if_none_left tree.rest tree.digest)) (sym height ∙ r.is))
  code_tree_whole digest (sibling ∷ rest) r z = absurd (omega arith)

  pub code_tree_left : (digest : List ℕ) (rest : List (List ℕ)) → Rebuilds (rebuilt H 64 n first range siblings) digest rest → length rest ≢ 0 → None ≡ tree_from_range H first n range siblings
  code_tree_left digest [] r z = absurd (z refl)
  code_tree_left digest (sibling ∷ rest) r z = sym (ap (option_and_then (λ tree. if_none_left tree.rest tree.digest)) (sym height ∙ r.is))
