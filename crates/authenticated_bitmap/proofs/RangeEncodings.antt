-- The encoding of a proof of a range is read as that proof, and what is read is its encoding.
use Rattle.std.proofs.Common.{◌≡◌, ◌≢◌, ◌==◌, ℕ, zero, suc, ◌+◌, ◌-◌, ◌*◌, ◌/◌, ◌%◌, ◌<◌, ◌≤◌, true, List, [], ◌∷◌, ◌++◌, length, take, drop, All, Result, Ok, Err, refl, sym, ap, ◌∙◌, arith, inl, inr, append_assoc}
use Rattle.std.specs.List.{flat_map}
use Rattle.std.specs.Int.{w64, to_be_bytes}
use Rattle.std.specs.Simd.{first_chunks}
use Rattle.std.proofs.Math.Nat.{suc-mul, mul-div_cancel, mul-mod_left}
use Rattle.std.proofs.Math.Seq.{take-add}
use Rattle.std.proofs.lemmas.Bool.Decides.{eqb_tells}
use Rattle.std.proofs.lemmas.List.{take_at, drop_at, take-append-drop, take_all, take-take, drop-take, append-nil, length-append, length-drop}
use Rattle.std.proofs.lemmas.List.Elements.{All-head, All-tail}
use Rattle.std.proofs.lemmas.Nat.{from_be_bytes-to_be_bytes_8, div-add-mod'}
use Rattle.authenticated_bitmap.specs.declared.encoding.DecodeError.{DecodeError}
use Rattle.authenticated_bitmap.specs.declared.encoding.DecodeError.TheVariants.{Short, Width, TooManyDigests, Length}
use Rattle.authenticated_bitmap.specs.Root.{header}
use Rattle.authenticated_bitmap.specs.Encoding.{number_at}
use Rattle.authenticated_bitmap.specs.RangeEncoding.{ChunkRangeProof, range_encoding, range_proof_in, IsRangeProof, IsRangeReadAgain, IsRangeWrittenSo}
use Rattle.authenticated_bitmap.proofs.Tests.{lt_true, lt_false, le_or_lt}
use Rattle.authenticated_bitmap.proofs.Nodes.{eq_true, eq_false}
use Rattle.authenticated_bitmap.proofs.Encodings.{IsBytes, number_takes}

-- lists that follow one another, and what they are cut into
flat : List (List ℕ) → List ℕ
flat xs = flat_map (λ x. x) xs

flat_length : (w : ℕ) (xs : List (List ℕ)) → All (λ x. length x ≡ w) xs → length (flat xs) ≡ length xs * w
unfolding flat
flat_length w [] h = omega arith
flat_length w (x ∷ xs) h =
    let one = All-head (λ y. length y ≡ w) x xs h in
    let rest = flat_length w xs (All-tail (λ y. length y ≡ w) x xs h) in
    omega (arith, length-append x (flat_map (λ y. y) xs), one, rest, suc-mul (length xs) w)

cut_again : (w : ℕ) (xs : List (List ℕ)) (more : List ℕ) → All (λ x. length x ≡ w) xs → first_chunks w (length xs) (flat xs ++ more) ≡ xs
unfolding flat
cut_again w [] more h = refl
cut_again w (x ∷ xs) more h =
    let one = All-head (λ y. length y ≡ w) x xs h in
    let rest = cut_again w xs more (All-tail (λ y. length y ≡ w) x xs h) in
    let parts = append_assoc x (flat_map (λ y. y) xs) more in
    let t = ap (take w) parts ∙ take_at x (flat_map (λ y. y) xs ++ more) w one in
    let d = ap (drop w) parts ∙ drop_at x (flat_map (λ y. y) xs ++ more) w one in
    ap (λ y. y ∷ first_chunks w (length xs) (drop w ((x ++ flat_map (λ z. z) xs) ++ more))) t ∙ ap (λ ys. x ∷ first_chunks w (length xs) ys) d ∙ ap (λ ys. x ∷ ys) rest

flat_again : (w count : ℕ) (bytes : List ℕ) → count * w ≤ length bytes → flat (first_chunks w count bytes) ≡ take (count * w) bytes
unfolding flat
flat_again w zero bytes h = (let z : 0 ≡ 0 * w = omega arith in ap (λ m. take m bytes) z)
flat_again w (suc count) bytes h =
    let s : w + count * w ≡ suc count * w = omega (arith, suc-mul count w) in
    ap (λ xs. take w bytes ++ xs) (flat_again w count (drop w bytes) (omega (arith, length-drop w bytes, suc-mul count w)))
    ∙ sym (take-add w (count * w) bytes) ∙ ap (λ m. take m bytes) s

cut_length : (w count : ℕ) (bytes : List ℕ) → length (first_chunks w count bytes) ≡ count
cut_length w zero bytes = refl
cut_length w (suc count) bytes = ap suc (cut_length w count (drop w bytes))

-- a list that is cut does not matter after the pieces
pub cut_front : (w count m : ℕ) (bytes : List ℕ) → count * w ≤ m → first_chunks w count (take m bytes) ≡ first_chunks w count bytes
cut_front w zero m bytes h = refl
cut_front w (suc count) m bytes h =
    let more : count * w + w ≤ m = omega (arith, suc-mul count w) in
    let e : w + (m - w) ≡ m = omega arith in
    let d : drop w (take m bytes) ≡ take (m - w) (drop w bytes) = ap (λ k. drop w (take k bytes)) (sym e) ∙ drop-take w (m - w) bytes in
    ap (λ x. x ∷ first_chunks w count (drop w (take m bytes))) (take-take w m bytes (omega (arith, more)))
    ∙ ap (λ xs. take w bytes ∷ first_chunks w count xs) d
    ∙ ap (λ xs. take w bytes ∷ xs) (cut_front w count (m - w) (drop w bytes) (omega (arith, more)))

made : ℕ → ℕ → ℕ → ℕ → List (List ℕ) → List (List ℕ) → ChunkRangeProof
made w l p first chunks siblings = record { shape = record { width = w; len = l; pruned = p }; first = first; chunks = chunks; siblings = siblings }

-- what bytes are read as, if no error applies
accepted : (n : ℕ) (bytes : List ℕ) → 48 ≤ length bytes → number_at 0 bytes ≡ n → number_at 40 bytes ≤ 128 → length bytes ≡ 48 + number_at 32 bytes * n + 32 * number_at 40 bytes
    → range_proof_in n bytes ≡ Ok (made n (number_at 8 bytes) (number_at 16 bytes) (number_at 24 bytes) (first_chunks n (number_at 32 bytes) (drop 48 bytes)) (first_chunks 32 (number_at 40 bytes) (drop (number_at 32 bytes * n) (drop 48 bytes))))
unfolding range_proof_in made
accepted n bytes long width few len =
    let w : (number_at 0 bytes == n) ≡ true = eq_true (number_at 0 bytes) n width in
    let l : (length bytes == 48 + number_at 32 bytes * n + 32 * number_at 40 bytes) ≡ true = eq_true (length bytes) (48 + number_at 32 bytes * n + 32 * number_at 40 bytes) len in
    rw (lt_false (length bytes) 48 long, w, lt_false 128 (number_at 40 bytes) few, l) refl

-- the same, from what the code reads
pub range_read_as : (n : ℕ) (bytes : List ℕ) (l p first : ℕ) (chunks siblings : List (List ℕ)) → 48 ≤ length bytes → number_at 0 bytes ≡ n → number_at 40 bytes ≤ 128 → length bytes ≡ 48 + number_at 32 bytes * n + 32 * number_at 40 bytes
    → l ≡ number_at 8 bytes → p ≡ number_at 16 bytes → first ≡ number_at 24 bytes → chunks ≡ first_chunks n (number_at 32 bytes) (drop 48 bytes) → siblings ≡ first_chunks 32 (number_at 40 bytes) (drop (number_at 32 bytes * n) (drop 48 bytes))
    → range_proof_in n bytes ≡ Ok (record { shape = record { width = n; len = l; pruned = p }; first = first; chunks = chunks; siblings = siblings })
unfolding made
range_read_as n bytes l p first chunks siblings long width few len el ep ef ec es =
    let c = first_chunks n (number_at 32 bytes) (drop 48 bytes) in
    let s = first_chunks 32 (number_at 40 bytes) (drop (number_at 32 bytes * n) (drop 48 bytes)) in
    accepted n bytes long width few len
    ∙ ap (λ x. Ok (made n x (number_at 16 bytes) (number_at 24 bytes) c s)) (sym el)
    ∙ ap (λ x. Ok (made n l x (number_at 24 bytes) c s)) (sym ep)
    ∙ ap (λ x. Ok (made n l p x c s)) (sym ef)
    ∙ ap (λ x. Ok (made n l p first x s)) (sym ec)
    ∙ ap (λ x. Ok (made n l p first chunks x)) (sym es)

-- the six numbers and what follows them
six : (bytes : List ℕ) → IsBytes bytes → 48 ≤ length bytes
    → bytes ≡ to_be_bytes w64 (number_at 0 bytes) ++ (to_be_bytes w64 (number_at 8 bytes) ++ (to_be_bytes w64 (number_at 16 bytes) ++ (to_be_bytes w64 (number_at 24 bytes) ++ (to_be_bytes w64 (number_at 32 bytes) ++ (to_be_bytes w64 (number_at 40 bytes) ++ drop 48 bytes)))))
six bytes fits long =
    number_takes 0 bytes fits (omega arith)
    ∙ ap (λ (x : List ℕ). to_be_bytes w64 (number_at 0 bytes) ++ x) (number_takes 8 bytes fits (omega arith)
    ∙ ap (λ (x : List ℕ). to_be_bytes w64 (number_at 8 bytes) ++ x) (number_takes 16 bytes fits (omega arith)
    ∙ ap (λ (x : List ℕ). to_be_bytes w64 (number_at 16 bytes) ++ x) (number_takes 24 bytes fits (omega arith)
    ∙ ap (λ (x : List ℕ). to_be_bytes w64 (number_at 24 bytes) ++ x) (number_takes 32 bytes fits (omega arith)
    ∙ ap (λ (x : List ℕ). to_be_bytes w64 (number_at 32 bytes) ++ x) (number_takes 40 bytes fits (omega arith))))))

-- the encoding of a proof, from its numbers
written : (w l p first count digests : ℕ) (chunks siblings : List (List ℕ)) → count ≡ length chunks → digests ≡ length siblings
    → to_be_bytes w64 w ++ (to_be_bytes w64 l ++ (to_be_bytes w64 p ++ (to_be_bytes w64 first ++ (to_be_bytes w64 count ++ (to_be_bytes w64 digests ++ (flat chunks ++ flat siblings)))))) ≡ range_encoding (made w l p first chunks siblings)
unfolding range_encoding made flat
written w l p first count digests chunks siblings c d =
    ap (λ (k : ℕ). to_be_bytes w64 w ++ (to_be_bytes w64 l ++ (to_be_bytes w64 p ++ (to_be_bytes w64 first ++ (to_be_bytes w64 k ++ (to_be_bytes w64 digests ++ (flat_map (λ x. x) chunks ++ flat_map (λ x. x) siblings))))))) c
    ∙ ap (λ (k : ℕ). to_be_bytes w64 w ++ (to_be_bytes w64 l ++ (to_be_bytes w64 p ++ (to_be_bytes w64 first ++ (to_be_bytes w64 (length chunks) ++ (to_be_bytes w64 k ++ (flat_map (λ x. x) chunks ++ flat_map (λ x. x) siblings))))))) d

-- bytes for which no error applies
encoded : (n : ℕ) (bytes : List ℕ) → IsBytes bytes → 48 ≤ length bytes → number_at 0 bytes ≡ n → length bytes ≡ 48 + number_at 32 bytes * n + 32 * number_at 40 bytes
    → bytes ≡ range_encoding (made n (number_at 8 bytes) (number_at 16 bytes) (number_at 24 bytes) (first_chunks n (number_at 32 bytes) (drop 48 bytes)) (first_chunks 32 (number_at 40 bytes) (drop (number_at 32 bytes * n) (drop 48 bytes))))
encoded n bytes fits long width len =
    let count = number_at 32 bytes in
    let digests = number_at 40 bytes in
    let rest = drop 48 bytes in
    let back = drop (count * n) rest in
    let chunks = first_chunks n count rest in
    let siblings = first_chunks 32 digests back in
    let size : length rest ≡ count * n + 32 * digests = omega (arith, length-drop 48 bytes) in
    let left : length back ≡ 32 * digests = omega (arith, length-drop (count * n) rest) in
    let all : take (digests * 32) back ≡ back = take_all (digests * 32) back (omega arith) in
    let parts : rest ≡ flat chunks ++ flat siblings =
    sym (take-append-drop (count * n) rest) ∙ ap (λ xs. xs ++ back) (sym (flat_again n count rest (omega arith))) ∙ ap (λ xs. flat chunks ++ xs) (sym (flat_again 32 digests back (omega arith) ∙ all)) in
    six bytes fits long
    ∙ ap (λ w. to_be_bytes w64 w ++ (to_be_bytes w64 (number_at 8 bytes) ++ (to_be_bytes w64 (number_at 16 bytes) ++ (to_be_bytes w64 (number_at 24 bytes) ++ (to_be_bytes w64 count ++ (to_be_bytes w64 digests ++ rest)))))) width
    ∙ ap (λ (xs : List ℕ). to_be_bytes w64 n ++ (to_be_bytes w64 (number_at 8 bytes) ++ (to_be_bytes w64 (number_at 16 bytes) ++ (to_be_bytes w64 (number_at 24 bytes) ++ (to_be_bytes w64 count ++ (to_be_bytes w64 digests ++ xs)))))) parts
    ∙ written n (number_at 8 bytes) (number_at 16 bytes) (number_at 24 bytes) count digests chunks siblings (sym (cut_length n count rest)) (sym (cut_length 32 digests back))

pub range_short : (n : ℕ) (bytes : List ℕ) → length bytes < 48 → range_proof_in n bytes ≡ Err Short
unfolding range_proof_in
range_short n bytes h = rw (lt_true (length bytes) 48 h) refl

pub range_width : (n : ℕ) (bytes : List ℕ) → 48 ≤ length bytes → number_at 0 bytes ≢ n → range_proof_in n bytes ≡ Err (Width (number_at 0 bytes))
unfolding range_proof_in
range_width n bytes h w = rw (lt_false (length bytes) 48 h, eq_false (number_at 0 bytes) n w) refl

pub range_many : (n : ℕ) (bytes : List ℕ) → 48 ≤ length bytes → number_at 0 bytes ≡ n → 128 < number_at 40 bytes → range_proof_in n bytes ≡ Err (TooManyDigests (number_at 40 bytes))
unfolding range_proof_in
range_many n bytes h w m = rw (lt_false (length bytes) 48 h, eq_true (number_at 0 bytes) n w, lt_true 128 (number_at 40 bytes) m) refl

pub range_length : (n : ℕ) (bytes : List ℕ) → 48 ≤ length bytes → number_at 0 bytes ≡ n → number_at 40 bytes ≤ 128 → length bytes ≢ 48 + number_at 32 bytes * n + 32 * number_at 40 bytes → range_proof_in n bytes ≡ Err Length
unfolding range_proof_in
range_length n bytes h w m l = rw (lt_false (length bytes) 48 h, eq_true (number_at 0 bytes) n w, lt_false 128 (number_at 40 bytes) m, eq_false (length bytes) (48 + number_at 32 bytes * n + 32 * number_at 40 bytes) l) refl

no_error : (read : Result ChunkRangeProof DecodeError) (p : ChunkRangeProof) (e : DecodeError) → read ≡ Err e → read ≡ Ok p → ⊥
no_error read p e f g = cc

same_value : (read : Result ChunkRangeProof DecodeError) (p q : ChunkRangeProof) → read ≡ Ok p → read ≡ Ok q → p ≡ q
same_value read p q f g = cc

is_encoding : (n : ℕ) (bytes : List ℕ) (p : ChunkRangeProof) → IsBytes bytes → 48 ≤ length bytes → number_at 0 bytes ≡ n → number_at 40 bytes ≤ 128 → length bytes ≡ 48 + number_at 32 bytes * n + 32 * number_at 40 bytes → range_proof_in n bytes ≡ Ok p → bytes ≡ range_encoding p
is_encoding n bytes p fits long w few l e =
    let q : ChunkRangeProof = made n (number_at 8 bytes) (number_at 16 bytes) (number_at 24 bytes) (first_chunks n (number_at 32 bytes) (drop 48 bytes)) (first_chunks 32 (number_at 40 bytes) (drop (number_at 32 bytes * n) (drop 48 bytes))) in
    encoded n bytes fits long w l ∙ ap range_encoding (same_value (range_proof_in n bytes) q p (accepted n bytes long w few l) e)

pub range_written_so : IsRangeWrittenSo
unfolding IsBytes
range_written_so n bytes p fits e =
    let read = range_proof_in n bytes in
    elim (le_or_lt 48 (length bytes)) [
      | inr short ↦ absurd (no_error read p Short (range_short n bytes short) e)
      | inl long ↦ elim (eqb_tells (number_at 0 bytes) n) [
        | inr w ↦ absurd (no_error read p (Width (number_at 0 bytes)) (range_width n bytes long w.1) e)
        | inl w ↦ elim (le_or_lt (number_at 40 bytes) 128) [
          | inr many ↦ absurd (no_error read p (TooManyDigests (number_at 40 bytes)) (range_many n bytes long w.1 many) e)
          | inl few ↦ elim (eqb_tells (length bytes) (48 + number_at 32 bytes * n + 32 * number_at 40 bytes)) [
            | inr l ↦ absurd (no_error read p Length (range_length n bytes long w.1 few l.1) e)
            | inl l ↦ is_encoding n bytes p fits long w.1 few l.1 e
          ]
        ]
      ]
    ]

front : ChunkRangeProof → List ℕ
front p = header p.shape ++ to_be_bytes w64 p.first ++ to_be_bytes w64 (length p.chunks) ++ to_be_bytes w64 (length p.siblings)

in_two : (p : ChunkRangeProof) → range_encoding p ≡ front p ++ (flat p.chunks ++ flat p.siblings)
unfolding range_encoding front flat
in_two p = refl

front_length : (p : ChunkRangeProof) → length (front p) ≡ 48
unfolding front
front_length p = refl

module _ (p : ChunkRangeProof) (n : ℕ) (is : IsRangeProof n p) where
  width_again : number_at 0 (range_encoding p) ≡ p.shape.width
  unfolding range_encoding
  width_again = from_be_bytes-to_be_bytes_8 p.shape.width is.fits.width

  len_again : number_at 8 (range_encoding p) ≡ p.shape.len
  unfolding range_encoding
  len_again = from_be_bytes-to_be_bytes_8 p.shape.len is.fits.len

  pruned_again : number_at 16 (range_encoding p) ≡ p.shape.pruned
  unfolding range_encoding
  pruned_again = from_be_bytes-to_be_bytes_8 p.shape.pruned is.fits.pruned

  first_again : number_at 24 (range_encoding p) ≡ p.first
  unfolding range_encoding
  first_again = from_be_bytes-to_be_bytes_8 p.first is.first

  count_again : number_at 32 (range_encoding p) ≡ length p.chunks
  unfolding range_encoding
  count_again = from_be_bytes-to_be_bytes_8 (length p.chunks) is.count

  digests_again : number_at 40 (range_encoding p) ≡ length p.siblings
  unfolding range_encoding
  digests_again = from_be_bytes-to_be_bytes_8 (length p.siblings) (omega (arith, is.few))

  rest_again : drop 48 (range_encoding p) ≡ flat p.chunks ++ flat p.siblings
  rest_again = ap (drop 48) (in_two p) ∙ drop_at (front p) (flat p.chunks ++ flat p.siblings) 48 (front_length p)

  chunks_length : length (flat p.chunks) ≡ number_at 32 (range_encoding p) * n
  chunks_length = flat_length n p.chunks is.chunks ∙ ap (λ c. c * n) (sym count_again)

  size_again : length (range_encoding p) ≡ 48 + number_at 32 (range_encoding p) * n + 32 * number_at 40 (range_encoding p)
  size_again = omega (arith, ap length (in_two p), length-append (front p) (flat p.chunks ++ flat p.siblings), front_length p, length-append (flat p.chunks) (flat p.siblings), chunks_length, flat_length 32 p.siblings is.digests, digests_again)

  chunks_again : first_chunks n (number_at 32 (range_encoding p)) (drop 48 (range_encoding p)) ≡ p.chunks
  chunks_again =
      ap (λ k. first_chunks n k (drop 48 (range_encoding p))) count_again
      ∙ ap (first_chunks n (length p.chunks)) rest_again
      ∙ cut_again n p.chunks (flat p.siblings) is.chunks

  siblings_again : first_chunks 32 (number_at 40 (range_encoding p)) (drop (number_at 32 (range_encoding p) * n) (drop 48 (range_encoding p))) ≡ p.siblings
  siblings_again =
      ap (λ k. first_chunks 32 k (drop (number_at 32 (range_encoding p) * n) (drop 48 (range_encoding p)))) digests_again
      ∙ ap (λ xs. first_chunks 32 (length p.siblings) (drop (number_at 32 (range_encoding p) * n) xs)) rest_again
      ∙ ap (first_chunks 32 (length p.siblings)) (drop_at (flat p.chunks) (flat p.siblings) (number_at 32 (range_encoding p) * n) chunks_length ∙ sym (append-nil (flat p.siblings)))
      ∙ cut_again 32 p.siblings [] is.digests

  again : range_proof_in n (range_encoding p) ≡ Ok p
  unfolding made
  again =
      let b = range_encoding p in
      let c = first_chunks n (number_at 32 b) (drop 48 b) in
      let s = first_chunks 32 (number_at 40 b) (drop (number_at 32 b * n) (drop 48 b)) in
      accepted n b (omega (arith, size_again)) (width_again ∙ is.width) (omega (arith, digests_again, is.few)) size_again
      ∙ ap (λ w. Ok (made w (number_at 8 b) (number_at 16 b) (number_at 24 b) c s)) (sym is.width)
      ∙ ap (λ l. Ok (made p.shape.width l (number_at 16 b) (number_at 24 b) c s)) len_again
      ∙ ap (λ q. Ok (made p.shape.width p.shape.len q (number_at 24 b) c s)) pruned_again
      ∙ ap (λ f. Ok (made p.shape.width p.shape.len p.shape.pruned f c s)) first_again
      ∙ ap (λ x. Ok (made p.shape.width p.shape.len p.shape.pruned p.first x s)) chunks_again
      ∙ ap (λ x. Ok (made p.shape.width p.shape.len p.shape.pruned p.first p.chunks x)) siblings_again

pub range_read_again : IsRangeReadAgain
range_read_again n p is = again p n is

-- what the code writes, piece by piece
pub range_write_as : (p : ChunkRangeProof) (h f c d fc fs v0 v1 v2 v3 v4 v5 v6 : List ℕ) → v0 ≡ [] → v1 ≡ v0 ++ h → v2 ≡ v1 ++ f → v3 ≡ v2 ++ c → v4 ≡ v3 ++ d → v5 ≡ v4 ++ fc → v6 ≡ v5 ++ fs
    → h ≡ header p.shape → f ≡ to_be_bytes w64 p.first → c ≡ to_be_bytes w64 (length p.chunks) → d ≡ to_be_bytes w64 (length p.siblings) → fc ≡ flat_map (λ x. x) p.chunks → fs ≡ flat_map (λ x. x) p.siblings → v6 ≡ range_encoding p
unfolding front flat
range_write_as p h f c d fc fs v0 v1 v2 v3 v4 v5 v6 e0 e1 e2 e3 e4 e5 e6 eh ef ec ed efc efs =
    let w1 : v1 ≡ header p.shape = e1 ∙ ap (λ v. v ++ h) e0 ∙ eh in
    let w2 : v2 ≡ header p.shape ++ to_be_bytes w64 p.first = e2 ∙ ap (λ v. v ++ f) w1 ∙ ap (λ x. header p.shape ++ x) ef in
    let w3 : v3 ≡ header p.shape ++ to_be_bytes w64 p.first ++ to_be_bytes w64 (length p.chunks) = e3 ∙ ap (λ v. v ++ c) w2 ∙ ap (λ x. header p.shape ++ to_be_bytes w64 p.first ++ x) ec in
    let w4 : v4 ≡ front p = e4 ∙ ap (λ v. v ++ d) w3 ∙ ap (λ x. header p.shape ++ to_be_bytes w64 p.first ++ to_be_bytes w64 (length p.chunks) ++ x) ed in
    let w5 : v5 ≡ front p ++ flat_map (λ x. x) p.chunks = e5 ∙ ap (λ v. v ++ fc) w4 ∙ ap (λ x. front p ++ x) efc in
    e6 ∙ ap (λ v. v ++ fs) w5 ∙ ap (λ x. front p ++ flat_map (λ y. y) p.chunks ++ x) efs
    ∙ append_assoc (front p) (flat_map (λ x. x) p.chunks) (flat_map (λ x. x) p.siblings) ∙ sym (in_two p)

-- the length of the chunks, as the code cuts them
pub exact : (n len count : ℕ) → 0 < n → len / n ≡ count → len % n ≡ 0 → len ≡ count * n
exact n len count p q r = sym (div-add-mod' len n) ∙ omega (arith, r, ap (λ x. x * n) q)

pub inexact_count : (n len count : ℕ) → 0 < n → len / n ≢ count → len ≢ count * n
inexact_count n len count p q e = q (ap (λ x. x / n) e ∙ mul-div_cancel count p)

pub inexact_rest : (n len count : ℕ) → 0 < n → len % n ≢ 0 → len ≢ count * n
inexact_rest n len count p q e = q (ap (λ x. x % n) e ∙ mul-mod_left count n)
