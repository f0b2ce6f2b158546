-- The digests of the leaves follow a commit: those of the chunks that differ are replaced or appended, and every other one stays.
use Rattle.std.proofs.Common.{◌≡◌, ℕ, zero, suc, ◌+◌, ◌-◌, ◌*◌, ◌<◌, ◌≤◌, min, max, Bool, true, false, not, List, [], ◌∷◌, ◌++◌, length, take, replicate, get_or, set, refl, sym, ap, subst, ◌∙◌, arith, inl, inr, ◌⊎◌}
use Rattle.std.specs.Cmp.Lexicographic.{pointwise}
use Rattle.std.specs.List.{filter, range_with_len}
use Rattle.std.specs.Option.{option_eq}
use Rattle.std.specs.Prelude.{Some, nat_eq}
use Rattle.std.proofs.lemmas.Bool.{cases_Bool, cases_lt, lt-ltb, le-ltb}
use Rattle.std.proofs.lemmas.Option.{none-some, same_Some}
use Rattle.std.proofs.lemmas.List.{length-append, length-replicate, length-set, length-take, get_or-take, get_or_append_left, get_or-append_right, get_or-replicate, get_or-set_same, get_or-set_other, get_or_push, length_push}
use Rattle.std.proofs.lemmas.List.FromFn.{fill_by_all, get_or-map-range_with_len, length-map-range_with_len}
use Rattle.bitmap_core.specs.PrunedBits.{PrunedBits, bit_len, chunk, IsRetainedChunk}
use Rattle.authenticated_bitmap.specs.Tree.{leaf_hash}
use Rattle.bitmap_core.proofs.Pruned.Positions.{ceil_above_index, index_below_ceil}
use Rattle.historical_bitmap.specs.Changes.{changed, chunk_total, differs, listed, retained_bytes}
use Rattle.historical_bitmap.proofs.Changes.Patched.{same_option}
use Rattle.historical_bitmap.proofs.Changes.Unnamed.{bytes_none, bytes_there, is_there}
use Rattle.historical_bitmap.proofs.History.Replaced.{pruned_total}
use Rattle.authenticated_bitmap.specs.LeafDigests.{Authenticates, StoresTree, digests_of, leaves_in, next_leaf, next_leaves, with_leaf, with_leaves, zero_leaf}
use Rattle.authenticated_bitmap.specs.Stored.{nodes, stored}
use Rattle.authenticated_bitmap.proofs.StoredLeaves.{Stores, count_leaves, leaves_cut}

-- a chunk that does not differ has the same bytes, or none in both states
alike : (n : ℕ) (old new : PrunedBits) (i : ℕ) → differs n old new i ≡ false → retained_bytes n old i ≡ retained_bytes n new i
alike n old new i f = same_option (retained_bytes n old i) (retained_bytes n new i) (is_true (option_eq (pointwise nat_eq) (retained_bytes n old i) (retained_bytes n new i)) f)
  where
    is_true : (b : Bool) → not b ≡ false → b ≡ true
    is_true true e = refl
    is_true false e = sym e

-- a chunk that is retained in the newer of two states, and does not differ, is retained in the older one too, with the same bytes
pub record StaysRetained (n : ℕ) (old new : PrunedBits) (i : ℕ) : Type 0 where
  pub retained : IsRetainedChunk n old i
  pub bytes : chunk n old i ≡ chunk n new i

stays_retained : (n : ℕ) (old new : PrunedBits) (i : ℕ) → differs n old new i ≡ false → IsRetainedChunk n new i → StaysRetained n old new i
stays_retained n old new i f has =
    let same : retained_bytes n old i ≡ Some (chunk n new i) = alike n old new i f ∙ bytes_there n new i has in
    elim (is_there n old i) [
      | inl h ↦ record { retained = h; bytes = same_Some (chunk n old i) (chunk n new i) (sym (bytes_there n old i h) ∙ same) }
      | inr g ↦ absurd (none-some (chunk n new i) (sym (bytes_none n old i g) ∙ same))
    ]

-- the digests so far: those of the chunks before chunk j are right, and the others are as they were at the start
record IsRightTo (size after : ℕ) (start : ℕ → List ℕ) (next : ℕ → List ℕ) (leaves : List (List ℕ)) (j : ℕ) : Type 0 where
  pub count : length leaves ≡ max size (min j after)
  pub done : (i : ℕ) → i < j → i < length leaves → get_or leaves i [] ≡ next i
  pub left : (i : ℕ) → j ≤ i → i < size → get_or leaves i [] ≡ start i

-- one chunk more
module _ (size after : ℕ) (start : ℕ → List ℕ) (next : ℕ → List ℕ) (few : size ≤ after) (leaves : List (List ℕ)) (j : ℕ) (right : IsRightTo size after start next leaves j) where
  -- chunk j is none, or its digest is right at the start
  stays : (j < after → j < size) → (j < size → start j ≡ next j) → IsRightTo size after start next leaves (j + 1)
  stays within same = record {
    count = right.count ∙ count_same;
    done = λ i below inside. elim (cases_lt i j) [
      | inl l ↦ right.done i l inside
      | inr l ↦ (
          let e : i ≡ j = omega arith in
          let here : j < size = omega (arith, right.count) in
          subst (λ k. get_or leaves k [] ≡ next k) (sym e) (right.left j (omega arith) here ∙ same here))
    ];
    left = λ i above inside. right.left i (omega arith) inside;
  }
    where
      count_same : max size (min j after) ≡ max size (min (j + 1) after)
      count_same = elim (cases_lt j after) [
        | inl l ↦ (let w : j < size = within l in omega arith)
        | inr l ↦ omega arith
      ]

  -- the digest of chunk j is replaced
  replaced : j < length leaves → j < after → IsRightTo size after start next (set leaves j (next j)) (j + 1)
  replaced inside below =
      let here : j < size = omega (arith, right.count) in
      record {
        count = length-set leaves j (next j) ∙ right.count ∙ omega arith;
        done = λ i before within. elim (cases_lt i j) [
          | inl l ↦ get_or-set_other leaves j i (next j) [] (omega arith) ∙ right.done i l (omega (arith, length-set leaves j (next j), within))
          | inr l ↦ (
              let e : i ≡ j = omega arith in
              subst (λ k. get_or (set leaves j (next j)) k [] ≡ next k) (sym e) (get_or-set_same leaves j (next j) [] inside))
        ];
        left = λ i above within. get_or-set_other leaves j i (next j) [] (omega arith) ∙ right.left i (omega arith) within;
      }

  -- the digest of chunk j is appended
  appended : length leaves ≤ j → j < after → IsRightTo size after start next (leaves ++ next j ∷ []) (j + 1)
  appended outside below =
      let here : length leaves ≡ j = omega (arith, right.count) in
      record {
        count = length_push leaves (next j) ∙ omega (arith, right.count);
        done = λ i before within. elim (cases_lt i j) [
          | inl l ↦ get_or_append_left leaves (next j ∷ []) [] i (omega (arith, here)) ∙ right.done i l (omega (arith, here))
          | inr l ↦ (
              let e : i ≡ j = omega arith in
              subst (λ k. get_or (leaves ++ next j ∷ []) k [] ≡ next k) (sym e) (get_or_push leaves (next j) [] j here))
        ];
        left = λ i above within. absurd (omega (arith, here, right.count));
      }

-- the digests before, and what is done first: those past the new number of chunks are removed, and those of zero chunks appended
module _ (H : List ℕ → List ℕ) (n : ℕ) (pos : 0 < n) (old new : PrunedBits) (leaves : List (List ℕ)) (count : length leaves ≡ chunk_total n old)
    (shown : (i : ℕ) → old.pruned ≤ i → i < chunk_total n old → get_or leaves i [] ≡ leaf_hash H (chunk n old i)) where
  abbrev kept : List (List ℕ)
  kept = take (chunk_total n new) leaves

  abbrev pub started : List (List ℕ)
  started = kept ++ replicate (new.pruned - length kept) (zero_leaf H n)

  abbrev next : ℕ → List ℕ
  next = next_leaf H n leaves new

  abbrev start : ℕ → List ℕ
  start i = get_or started i []

  kept_count : length kept ≡ min (chunk_total n new) (chunk_total n old)
  kept_count = length-take (chunk_total n new) leaves ∙ ap (min (chunk_total n new)) count

  started_count : length started ≡ max (length kept) new.pruned
  started_count = length-append kept (replicate (new.pruned - length kept) (zero_leaf H n)) ∙ omega (arith, length-replicate (new.pruned - length kept) (zero_leaf H n))

  few : length started ≤ chunk_total n new
  few = omega (arith, started_count, kept_count, pruned_total n new pos)

  abbrev Right : List (List ℕ) → ℕ → Type 0
  Right = IsRightTo (length started) (chunk_total n new) start next

  -- the digest of a pruned chunk
  pruned_is : (i : ℕ) → i < new.pruned → start i ≡ next i
  pruned_is i low =
      elim (cases_lt i (length kept)) [
        | inl l ↦
            get_or_append_left kept (replicate (new.pruned - length kept) (zero_leaf H n)) [] i l ∙ get_or-take (chunk_total n new) leaves i [] (omega (arith, l, kept_count))
            ∙ sym (rw (lt-ltb i new.pruned low, lt-ltb i (length leaves) (omega (arith, l, kept_count, count))) refl)
        | inr l ↦
            get_or-append_right kept (replicate (new.pruned - length kept) (zero_leaf H n)) (length kept) i [] refl l
            ∙ get_or-replicate (new.pruned - length kept) (i - length kept) (zero_leaf H n) [] (omega (arith, low, l))
            ∙ sym (rw (lt-ltb i new.pruned low, le-ltb i (length leaves) (omega (arith, l, kept_count, count, low, pruned_total n new pos))) refl)
      ]

  -- the digest of a retained chunk
  retained_is : (i : ℕ) → new.pruned ≤ i → next i ≡ leaf_hash H (chunk n new i)
  retained_is i low = rw (le-ltb i new.pruned low) refl

  -- the digest of a retained chunk that does not differ
  unchanged_is : (i : ℕ) → new.pruned ≤ i → i < length started → differs n old new i ≡ false → start i ≡ next i
  unchanged_is i low inside f =
      let l : i < length kept = omega (arith, started_count, inside, low) in
      let same = stays_retained n old new i f (low, index_below_ceil n (bit_len n new) i pos (omega (arith, l, kept_count))) in
      get_or_append_left kept (replicate (new.pruned - length kept) (zero_leaf H n)) [] i l ∙ get_or-take (chunk_total n new) leaves i [] (omega (arith, l, kept_count))
      ∙ shown i same.retained.0 (omega (arith, l, kept_count)) ∙ ap (leaf_hash H) same.bytes ∙ sym (retained_is i low)

  -- a chunk that does not differ
  stays_right : (digests : List (List ℕ)) (j : ℕ) → Right digests j → differs n old new j ≡ false → Right digests (j + 1)
  stays_right digests j right f = stays (length started) (chunk_total n new) start next few digests j right within same
    where
      within : j < chunk_total n new → j < length started
      within below = elim (cases_lt j new.pruned) [
        | inl l ↦ omega (arith, l, started_count)
        | inr l ↦ (
            let was = stays_retained n old new j f (l, index_below_ceil n (bit_len n new) j pos below) in
            omega (arith, started_count, kept_count, below, ceil_above_index n (bit_len n old) j pos was.retained.1))
      ]

      same : j < length started → start j ≡ next j
      same inside = elim (cases_lt j new.pruned) [ inl l ↦ pruned_is j l | inr l ↦ unchanged_is j l inside f ]

  -- a chunk that the new state does not retain
  gone_right : (digests : List (List ℕ)) (j : ℕ) → Right digests j → (j < new.pruned) ⊎ (bit_len n new ≤ 8 * n * j) → Right digests (j + 1)
  gone_right digests j right (inl l) = stays (length started) (chunk_total n new) start next few digests j right (λ _. omega (arith, l, started_count)) (λ _. pruned_is j l)
  gone_right digests j right (inr past) =
      let not_below : j < chunk_total n new → ⊥ = λ below. absurd (omega (arith, past, index_below_ceil n (bit_len n new) j pos below)) in
      stays (length started) (chunk_total n new) start next few digests j right (λ below. absurd (not_below below)) (λ inside. absurd (not_below (omega (arith, inside, few))))

  -- a chunk that the new state retains
  put_right : (digests : List (List ℕ)) (j : ℕ) → Right digests j → IsRetainedChunk n new j → Right (with_leaf H digests (j, chunk n new j)) (j + 1)
  put_right digests j right has =
      let below : j < chunk_total n new = ceil_above_index n (bit_len n new) j pos has.1 in
      let is : next j ≡ leaf_hash H (chunk n new j) = retained_is j has.0 in
      elim (cases_lt j (length digests)) [
        | inl l ↦ rw (lt-ltb j (length digests) l) (subst (λ x. Right (set digests j x) (j + 1)) is (replaced (length started) (chunk_total n new) start next few digests j right l below))
        | inr l ↦ rw (le-ltb j (length digests) l) (subst (λ x. Right (digests ++ x ∷ []) (j + 1)) is (appended (length started) (chunk_total n new) start next few digests j right l below))
      ]

  -- the chunks from chunk j on
  all_right : (k j : ℕ) (digests : List (List ℕ)) → Right digests j → Right (with_leaves H digests (listed n new (filter (differs n old new) (range_with_len j k)))) (j + k)
  all_right zero j digests right = (let e : j ≡ j + 0 = omega arith in subst (Right digests) e right)
  all_right (suc k) j digests right =
      let later : j + 1 + k ≡ j + suc k = omega arith in
      elim (cases_Bool (differs n old new j)) [
        | inl t ↦ elim (is_there n new j) [
          | inl has ↦ rw (t, bytes_there n new j has) (subst (Right (with_leaves H (with_leaf H digests (j, chunk n new j)) (listed n new (filter (differs n old new) (range_with_len (j + 1) k))))) later
              (all_right k (j + 1) (with_leaf H digests (j, chunk n new j)) (put_right digests j right has)))
          | inr gone ↦ rw (t, bytes_none n new j gone) (subst (Right (with_leaves H digests (listed n new (filter (differs n old new) (range_with_len (j + 1) k))))) later
              (all_right k (j + 1) digests (gone_right digests j right gone)))
        ]
        | inr f ↦ rw f (subst (Right (with_leaves H digests (listed n new (filter (differs n old new) (range_with_len (j + 1) k))))) later
            (all_right k (j + 1) digests (stays_right digests j right f)))
      ]

  -- the digests after the changes are those of the new state
  pub followed : with_leaves H started (listed n new (changed n old new)) ≡ next_leaves H n leaves new
  followed =
      let end = max (chunk_total n old) (chunk_total n new) in
      let all = all_right (end - 0) 0 started (record { count = omega arith; done = λ i below _. absurd (omega arith); left = λ i _ _. refl }) in
      let size : length (with_leaves H started (listed n new (changed n old new))) ≡ chunk_total n new = omega (arith, all.count, few) in
      fill_by_all next (with_leaves H started (listed n new (changed n old new))) (chunk_total n new) [] size (λ i below. all.done i (omega arith) (omega (arith, size, below)))

  pub next_shown : (i : ℕ) → new.pruned ≤ i → i < chunk_total n new → get_or (next_leaves H n leaves new) i [] ≡ leaf_hash H (chunk n new i)
  next_shown i low below = get_or-map-range_with_len next 0 (chunk_total n new) i i [] below (omega arith) ∙ retained_is i low

-- a bitmap of width 32 has followed a commit: it authenticates the new state, and has the leaves that follow from those before
pub record HasFollowed (H : List ℕ → List ℕ) (n : ℕ) (before : List (List ℕ)) (new t : PrunedBits) : Type 0 where
  pub authenticates : Authenticates H n new t
  pub are : leaves_in (chunk_total n new) t ≡ next_leaves H n before new

-- the steps of the code
module _ (H : List ℕ → List ℕ) (n : ℕ) (pos : 0 < n) (old new t : PrunedBits) (a : Authenticates H n old t) (count after pruned : ℕ) (count_is : count ≡ chunk_total n old) (after_is : after ≡ chunk_total n new) (pruned_is : pruned ≡ new.pruned) where
  tree_before : StoresTree H count t
  tree_before = subst (λ k. StoresTree H k t) (sym count_is) a.tree

  shown_before : (i : ℕ) → old.pruned ≤ i → i < chunk_total n old → get_or (leaves_in count t) i [] ≡ leaf_hash H (chunk n old i)
  shown_before i low below = subst (λ k. get_or (leaves_in k t) i [] ≡ leaf_hash H (chunk n old i)) (sym count_is) (a.leaves i low below)

  size_before : length (leaves_in count t) ≡ chunk_total n old
  size_before = count_leaves count t ∙ count_is

  -- the leaves past the new number of chunks are removed
  pub code_cut : (kept : ℕ) (cut : PrunedBits) → kept ≡ min after count → cut.pruned ≡ 0 → bit_len 32 cut ≡ 256 * nodes (min after count)
      → ((digests : List (List ℕ)) → length digests ≡ count → digests_of t ≡ stored H digests → digests_of cut ≡ stored H (take after digests)) → Stores H kept cut (take after (leaves_in count t))
  code_cut kept cut kept_is none len value = subst (λ k. Stores H k cut (take after (leaves_in count t))) (sym kept_is) (leaves_cut H count t cut tree_before none after len value)

  -- then those of zero chunks are appended, and those of changed chunks follow
  pub code_follows : (kept middle next : ℕ) (cut zeros done : PrunedBits) → kept ≡ min after count → leaves_in kept cut ≡ take after (leaves_in count t)
      → leaves_in middle zeros ≡ leaves_in kept cut ++ replicate (pruned - kept) (zero_leaf H n) → leaves_in next done ≡ with_leaves H (leaves_in middle zeros) (listed n new (changed n old new)) → StoresTree H next done
      → HasFollowed H n (leaves_in count t) new done
  code_follows kept middle next cut zeros done kept_is cut_are zeros_are put_are tree =
      let before = leaves_in count t in
      let taken : kept ≡ length (take (chunk_total n new) before) = kept_is ∙ ap (λ k. min k count) after_is ∙ sym (length-take (chunk_total n new) before ∙ ap (min (chunk_total n new)) (count_leaves count t)) in
      let begun : leaves_in middle zeros ≡ take (chunk_total n new) before ++ replicate (new.pruned - length (take (chunk_total n new) before)) (zero_leaf H n) =
      zeros_are ∙ ap (λ xs. xs ++ replicate (pruned - kept) (zero_leaf H n)) (cut_are ∙ ap (λ k. take k before) after_is)
      ∙ ap (λ k. take (chunk_total n new) before ++ replicate (pruned - k) (zero_leaf H n)) taken
      ∙ ap (λ k. take (chunk_total n new) before ++ replicate (k - length (take (chunk_total n new) before)) (zero_leaf H n)) pruned_is in
      let are : leaves_in next done ≡ next_leaves H n before new =
      put_are ∙ ap (λ xs. with_leaves H xs (listed n new (changed n old new))) begun ∙ followed H n pos old new before size_before shown_before in
      let total : next ≡ chunk_total n new = sym (count_leaves next done) ∙ ap length are ∙ length-map-range_with_len (next_leaf H n before new) 0 (chunk_total n new) in
      let all_are : leaves_in (chunk_total n new) done ≡ next_leaves H n before new = subst (λ k. leaves_in k done ≡ next_leaves H n before new) total are in
      record {
        authenticates = record {
          tree = subst (λ k. StoresTree H k done) total tree;
          leaves = λ i low below. ap (λ xs. get_or xs i []) all_are ∙ next_shown H n pos old new before size_before shown_before i low below;
        };
        are = all_are;
      }
