-- A chunk that leads to the root of a bitmap is in it, or two inputs that are hashed for them collide.
use Rattle.std.proofs.Common.{◌≡◌, ℕ, zero, suc, ◌+◌, ◌-◌, ◌<◌, ◌≤◌, List, [], ◌∷◌, ◌++◌, length, take, drop, map, get_or, reverse, All, Some, inl, inr, refl, sym, ap, subst, ◌∙◌, arith, append_assoc}
use Rattle.std.specs.Option.{option_map}
use Rattle.std.specs.Int.{w64, to_be_bytes, from_be_bytes, byte_at, bytes_high_first}
use Rattle.std.proofs.lemmas.List.{length-append, length-map, length-drop, length-take-le, map-append, take-append-drop, get_or-map, get_or-append_right}
use Rattle.std.proofs.lemmas.List.Elements.{All-nil, All-cons, All-append, All-drop, All-get_or, Contains-append_left, Contains-append_right}
use Rattle.std.proofs.lemmas.Nat.{from_be_bytes-to_be_bytes_8}
use Rattle.authenticated_bitmap.specs.Tree.{leaf_input, leaf_hash, leaf_hashes, tree_hash, root_from_path, audit_path, and_above, hashed, path_inputs, node_inputs, AreBytes, IsHash, IsDigest}
use Rattle.authenticated_bitmap.specs.Root.{Shape, Bitmap, chunk_count, chunk_digests, header, root_input, root_over, root_of, chunk_inputs, bitmap_inputs, shape_after_pruning, after_pruning, Fits, IsBitmap, LeadsTo, ShowsChunks, BindsBitmaps, BindsChunk, KeepsProofs}
use Rattle.authenticated_bitmap.proofs.Tests.{Mapped, mapped, le_or_lt}
use Rattle.authenticated_bitmap.proofs.Complete.{path_gives_tree}
use Rattle.authenticated_bitmap.proofs.Sound.{same_or_collide, leaf_same, leaf_hashed, widened, at_top, deeper, tails, marked_bytes, joined_bytes, subtree_digest, climbed_digest, reversed_bytes, binds_digests, leaf_digests}

-- the digest of each chunk: how many, that each is one, and that of a retained chunk
module _ (H : List ℕ → List ℕ) (b : Bitmap) where
  pub digest_count : length (chunk_digests H b) ≡ length b.pruned_digests + length b.chunks
  digest_count = omega (arith, length-append b.pruned_digests (leaf_hashes H b.chunks), length-map b.chunks (leaf_hash H))

  pub all_digests : IsHash H → IsBitmap b → All IsDigest (chunk_digests H b)
  all_digests g is = All-append IsDigest b.pruned_digests (leaf_hashes H b.chunks) is.digests (leaf_digests H g b.chunks)

  pub retained_digest : (i : ℕ) → length b.pruned_digests ≡ b.shape.pruned → b.shape.pruned ≤ i → i - b.shape.pruned < length b.chunks → get_or (chunk_digests H b) i [] ≡ leaf_hash H (get_or b.chunks (i - b.shape.pruned) [])
  retained_digest i e from l =
      get_or-append_right b.pruned_digests (leaf_hashes H b.chunks) b.shape.pruned i [] e from ∙ get_or-map (leaf_hash H) b.chunks (i - b.shape.pruned) [] [] l

pub shows_chunks : (H : List ℕ → List ℕ) → ShowsChunks H
shows_chunks H b i is l =
    let p = b.shape.pruned in
    let digests = chunk_digests H b in
    let count : length digests ≡ chunk_count b.shape = omega (arith, digest_count H b, is.pruned, is.count) in
    let within : p + i < chunk_count b.shape = omega (arith, is.count) in
    let z : p + i - p ≡ i = omega arith in
    let at : get_or digests (p + i) [] ≡ leaf_hash H (get_or b.chunks i []) = retained_digest H b (p + i) is.pruned (omega arith) (omega arith) ∙ ap (λ j. leaf_hash H (get_or b.chunks j [])) z in
    let shows = ap (λ d. root_from_path H (p + i) (length digests) d (audit_path H (p + i) digests)) (sym at) ∙ path_gives_tree H digests (p + i) (omega arith) in (
      within,
      subst (λ n. option_map (root_over H b.shape) (root_from_path H (p + i) n (leaf_hash H (get_or b.chunks i [])) (audit_path H (p + i) digests)) ≡ Some (root_of H b)) count
          (ap (option_map (root_over H b.shape)) shows),
    )

shape : ℕ → ℕ → ℕ → Shape
shape w l p = record { width = w; len = l; pruned = p }

same_shape : (s t : Shape) → s.width ≡ t.width → s.len ≡ t.len → s.pruned ≡ t.pruned → s ≡ t
unfolding shape
same_shape s t w l p = ap (λ x. shape x s.len s.pruned) w ∙ ap (λ x. shape t.width x s.pruned) l ∙ ap (λ x. shape t.width t.len x) p

-- the numbers of a header, read back
numbers : (s t : Shape) (x y : List ℕ) → Fits s → Fits t → header s ++ x ≡ header t ++ y → (s ≡ t) × (x ≡ y)
numbers s t x y fs ft e =
    let w : s.width ≡ t.width = sym (from_be_bytes-to_be_bytes_8 s.width fs.width) ∙ ap (λ bytes. from_be_bytes w64 (take 8 bytes)) e ∙ from_be_bytes-to_be_bytes_8 t.width ft.width in
    let l : s.len ≡ t.len = sym (from_be_bytes-to_be_bytes_8 s.len fs.len) ∙ ap (λ bytes. from_be_bytes w64 (take 8 (drop 8 bytes))) e ∙ from_be_bytes-to_be_bytes_8 t.len ft.len in
    let p : s.pruned ≡ t.pruned = sym (from_be_bytes-to_be_bytes_8 s.pruned fs.pruned) ∙ ap (λ bytes. from_be_bytes w64 (take 8 (drop 16 bytes))) e ∙ from_be_bytes-to_be_bytes_8 t.pruned ft.pruned in
    (same_shape s t w l p, ap (drop 24) e)

byte_lt : (k n : ℕ) → byte_at k n < 256
byte_lt zero n = omega arith
byte_lt (suc k) n = omega arith

be_bytes : (k n : ℕ) → AreBytes (bytes_high_first k n)
be_bytes zero n = All-nil (λ x. x < 256)
be_bytes (suc k) n = All-cons (λ x. x < 256) (byte_at k n) (bytes_high_first k n) (byte_lt k n) (be_bytes k n)

header_bytes : (s : Shape) → AreBytes (header s)
header_bytes s = joined_bytes (to_be_bytes w64 s.width ++ to_be_bytes w64 s.len) (to_be_bytes w64 s.pruned) (joined_bytes (to_be_bytes w64 s.width) (to_be_bytes w64 s.len) (be_bytes 8 s.width) (be_bytes 8 s.len)) (be_bytes 8 s.pruned)

pub root_bytes : (s : Shape) (tree : List ℕ) → AreBytes tree → AreBytes (root_input s tree)
unfolding root_input
root_bytes s tree h = marked_bytes 2 (header s ++ tree) (omega arith) (joined_bytes (header s) tree (header_bytes s) h)

-- equal inputs of two roots
pub same_root_input : (s t : Shape) (x y : List ℕ) → Fits s → Fits t → root_input s x ≡ root_input t y → (s ≡ t) × (x ≡ y)
unfolding root_input
same_root_input s t x y fs ft e = numbers s t x y fs ft (tails 2 2 (header s ++ x) (header t ++ y) e)

pub binds_bitmaps : (H : List ℕ → List ℕ) → IsHash H → BindsBitmaps H
binds_bitmaps H g b s i chunk path is fs bc bp leads =
    let n = chunk_count s in
    let digests = chunk_digests H b in
    let m : Mapped (root_over H s) (root_from_path H i n (leaf_hash H chunk) path) (root_of H b) = mapped (root_over H s) (root_from_path H i n (leaf_hash H chunk) path) (root_of H b) leads.1 in
    let here = chunk_inputs H s i chunk path in
    let there = bitmap_inputs H b in
    let x = root_input s m.before in
    let y = root_input b.shape (tree_hash H digests) in
    let xs = path_inputs H i n chunk path in
    let ys = map leaf_input b.chunks ++ node_inputs H digests in
    let tx : here ≡ x ∷ xs = ap (λ o. and_above (root_input s) o xs) m.was in
    let ty : there ≡ y ∷ ys = refl in
    let ds = all_digests H b g is in
    let d : IsDigest m.before = climbed_digest H g n i n (leaf_hash H chunk) (reverse path) m.before (g (leaf_input chunk)) (reversed_bytes path bp) m.was in
    let f : IsDigest (tree_hash H digests) = subtree_digest H g (length digests) digests ds in
    elim (same_or_collide H here there x y (at_top here x xs tx) (at_top there y ys ty) (root_bytes s m.before d.bytes) (root_bytes b.shape (tree_hash H digests) f.bytes) m.gives) [
      | inl t ↦ (
          let r = same_root_input s b.shape m.before (tree_hash H digests) fs is.fits t in
          let pruned : s.pruned ≡ b.shape.pruned = ap (λ q. q.pruned) r.0 in
          let counts : n ≡ chunk_count b.shape = ap chunk_count r.0 in
          let count : length digests ≡ n = omega (arith, digest_count H b, is.pruned, is.count, counts) in
          elim (binds_digests H g digests i n (leaf_hash H chunk) path count ds leads.0 (g (leaf_input chunk)) bp (m.was ∙ ap Some r.1)) [
            | inl e ↦ elim (le_or_lt s.pruned i) [
              | inl from ↦ (
                  let l : i - s.pruned < length b.chunks = omega (arith, is.count, counts, pruned, leads.0) in
                  let z : i - b.shape.pruned ≡ i - s.pruned = ap (λ q. i - q) (sym pruned) in
                  let at : get_or digests i [] ≡ leaf_hash H (get_or b.chunks (i - s.pruned) []) =
                  retained_digest H b i is.pruned (omega (arith, pruned)) (omega (arith, z)) ∙ ap (λ j. leaf_hash H (get_or b.chunks j [])) z in
                  let original = get_or b.chunks (i - s.pruned) [] in
                  let hx = deeper here x xs tx (leaf_input chunk) (at_top xs (leaf_input chunk) (hashed H n i n (leaf_hash H chunk) (reverse path)) refl) in
                  let hy = deeper there y ys ty (leaf_input original) (Contains-append_left (map leaf_input b.chunks) (node_inputs H digests) (leaf_input original) (leaf_hashed b.chunks (i - s.pruned) l)) in
                  elim (leaf_same H here there chunk original hx hy bc (All-get_or AreBytes b.chunks (i - s.pruned) [] l is.bytes) (e ∙ at)) [
                    | inl q ↦ inl (record { shape = sym r.0; digest = e; retained = λ _. q })
                    | inr c ↦ inr c
                  ])
              | inr before ↦ inl (record { shape = sym r.0; digest = e; retained = λ from. absurd (omega arith) })
            ]
            | inr c ↦ inr (widened H (hashed H n i n (leaf_hash H chunk) (reverse path)) (node_inputs H digests) here there
                (λ z h. deeper here x xs tx z (deeper xs (leaf_input chunk) (hashed H n i n (leaf_hash H chunk) (reverse path)) refl z h))
                (λ z h. deeper there y ys ty z (Contains-append_right (map leaf_input b.chunks) (node_inputs H digests) z h)) c)
          ])
      | inr c ↦ inr c
    ]

-- pruning moves digests, and changes none
pub same_digests : (H : List ℕ → List ℕ) (b : Bitmap) (more : ℕ) → chunk_digests H (after_pruning H more b) ≡ chunk_digests H b
same_digests H b more =
    append_assoc b.pruned_digests (leaf_hashes H (take more b.chunks)) (leaf_hashes H (drop more b.chunks))
    ∙ ap (λ xs. b.pruned_digests ++ xs) (sym (map-append (leaf_hash H) (take more b.chunks) (drop more b.chunks)) ∙ ap (leaf_hashes H) (take-append-drop more b.chunks))

pub keeps_proofs : (H : List ℕ → List ℕ) → IsHash H → KeepsProofs H
keeps_proofs H g = record {
  bitmap = λ b more is l small. record {
    fits = record { width = is.fits.width; len = is.fits.len; pruned = small };
    pruned = omega (arith, is.pruned, length-append b.pruned_digests (leaf_hashes H (take more b.chunks)), length-map (take more b.chunks) (leaf_hash H), length-take-le more b.chunks l);
    count = omega (arith, is.count, length-drop more b.chunks);
    digests = All-append IsDigest b.pruned_digests (leaf_hashes H (take more b.chunks)) is.digests (leaf_digests H g (take more b.chunks));
    bytes = All-drop AreBytes more b.chunks is.bytes;
  };
  digests = same_digests H;
  paths = λ b more i chunk path l e. (
    l,
    ap (option_map (root_over H (shape_after_pruning more b.shape))) e ∙ ap (λ ds. Some (root_over H (shape_after_pruning more b.shape) (tree_hash H ds))) (sym (same_digests H b more)),
  );
}

-- the same of each bitmap that has a root
pub binds_chunk : (H : List ℕ → List ℕ) → IsHash H → (root : List ℕ) (s : Shape) (i : ℕ) (chunk : List ℕ) (path : List (List ℕ)) → Fits s → AreBytes chunk → All AreBytes path → LeadsTo H root s i chunk path → BindsChunk H root s i chunk path
binds_chunk H g root s i chunk path fs bc bp leads b is e =
    binds_bitmaps H g b s i chunk path is fs bc bp (leads.0, leads.1 ∙ ap Some (sym e))
