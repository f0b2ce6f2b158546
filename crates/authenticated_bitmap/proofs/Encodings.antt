-- The encoding of a proof is read as that proof, and what is read is its encoding.
use Rattle.std.proofs.Common.{◌≡◌, ◌≢◌, ◌==◌, ℕ, zero, suc, ◌+◌, ◌*◌, ◌<◌, ◌≤◌, true, List, [], ◌∷◌, ◌++◌, length, get_or, take, drop, All, Result, Ok, Err, refl, sym, ap, ◌∙◌, arith, inl, inr, append_assoc}
use Rattle.std.specs.List.{flat_map}
use Rattle.std.specs.Int.{w64, to_be_bytes}
use Rattle.std.specs.Simd.{first_chunks}
use Rattle.std.proofs.lemmas.Bool.{cases_lt}
use Rattle.std.proofs.lemmas.Bool.Decides.{eqb_tells}
use Rattle.std.proofs.lemmas.List.{take_at, drop_at, drop-drop, take-append-drop, length-append, length-take, length-drop, get_or-drop, get_or-take, get_or_past, nil_from_length}
use Rattle.std.proofs.lemmas.List.Elements.{All-head, All-tail}
use Rattle.std.proofs.lemmas.Nat.{be_bytes_8, from_be_bytes-to_be_bytes_8}
use Rattle.authenticated_bitmap.specs.declared.encoding.DecodeError.{DecodeError}
use Rattle.authenticated_bitmap.specs.declared.encoding.DecodeError.TheVariants.{Short, Width, TooManyDigests, Length}
use Rattle.authenticated_bitmap.specs.Root.{header}
use Rattle.authenticated_bitmap.specs.Encoding.{ChunkProof, encoding, number_at, proof_in, IsProof, IsReadAgain, IsWrittenSo}
use Rattle.authenticated_bitmap.proofs.Tests.{lt_true, lt_false, le_or_lt}
use Rattle.authenticated_bitmap.proofs.Nodes.{eq_true, eq_false}

-- digests that follow one another, and their bytes cut into digests
pub joined : List (List ℕ) → List ℕ
joined path = flat_map (λ digest. digest) path

joined_length : (path : List (List ℕ)) → All (λ digest. length digest ≡ 32) path → length (joined path) ≡ 32 * length path
unfolding joined
joined_length [] h = omega arith
joined_length (digest ∷ path) h =
    let one = All-head (λ d. length d ≡ 32) digest path h in
    let rest = joined_length path (All-tail (λ d. length d ≡ 32) digest path h) in
    omega (arith, length-append digest (flat_map (λ d. d) path), one, rest)

cut_again : (path : List (List ℕ)) → All (λ digest. length digest ≡ 32) path → first_chunks 32 (length path) (joined path) ≡ path
unfolding joined
cut_again [] h = refl
cut_again (digest ∷ path) h =
    let one = All-head (λ d. length d ≡ 32) digest path h in
    let rest = cut_again path (All-tail (λ d. length d ≡ 32) digest path h) in
    let t = take_at digest (flat_map (λ d. d) path) 32 one in
    let d = drop_at digest (flat_map (λ d. d) path) 32 one in
    ap (λ x. x ∷ first_chunks 32 (length path) (drop 32 (digest ++ flat_map (λ d. d) path))) t ∙ ap (λ xs. digest ∷ first_chunks 32 (length path) xs) d ∙ ap (λ xs. digest ∷ xs) rest

joined_again : (count : ℕ) (bytes : List ℕ) → length bytes ≡ 32 * count → joined (first_chunks 32 count bytes) ≡ bytes
unfolding joined
joined_again zero bytes h = sym (nil_from_length bytes (omega arith))
joined_again (suc count) bytes h =
    ap (λ xs. take 32 bytes ++ xs) (joined_again count (drop 32 bytes) (omega (arith, length-drop 32 bytes))) ∙ take-append-drop 32 bytes

cut_length : (count : ℕ) (bytes : List ℕ) → length (first_chunks 32 count bytes) ≡ count
cut_length zero bytes = refl
cut_length (suc count) bytes = ap suc (cut_length count (drop 32 bytes))

-- what bytes are read as, if no error applies
pub accepted : (n : ℕ) (bytes : List ℕ) → 40 ≤ length bytes → number_at 0 bytes ≡ n → number_at 32 bytes ≤ 64 → length bytes ≡ 40 + n + 32 * number_at 32 bytes
    → proof_in n bytes ≡ Ok (record { shape = record { width = n; len = number_at 8 bytes; pruned = number_at 16 bytes }; index = number_at 24 bytes; chunk = take n (drop 40 bytes); path = first_chunks 32 (number_at 32 bytes) (drop n (drop 40 bytes)) })
unfolding proof_in
accepted n bytes long width few len =
    let w : (number_at 0 bytes == n) ≡ true = eq_true (number_at 0 bytes) n width in
    let l : (length bytes == 40 + n + 32 * number_at 32 bytes) ≡ true = eq_true (length bytes) (40 + n + 32 * number_at 32 bytes) len in
    rw (lt_false (length bytes) 40 long, w, lt_false 64 (number_at 32 bytes) few, l) refl

made : ℕ → ℕ → ℕ → ℕ → List ℕ → List (List ℕ) → ChunkProof
made w l p i chunk path = record { shape = record { width = w; len = l; pruned = p }; index = i; chunk = chunk; path = path }

-- the same, from what the code reads
pub read_as : (n : ℕ) (bytes : List ℕ) (l p i : ℕ) (chunk : List ℕ) (path : List (List ℕ)) → 40 ≤ length bytes → number_at 0 bytes ≡ n → number_at 32 bytes ≤ 64 → length bytes ≡ 40 + n + 32 * number_at 32 bytes
    → l ≡ number_at 8 bytes → p ≡ number_at 16 bytes → i ≡ number_at 24 bytes → chunk ≡ take n (drop 40 bytes) → path ≡ first_chunks 32 (number_at 32 bytes) (drop n (drop 40 bytes))
    → proof_in n bytes ≡ Ok (record { shape = record { width = n; len = l; pruned = p }; index = i; chunk = chunk; path = path })
unfolding made
read_as n bytes l p i chunk path long width few len el ep ei ec es =
    let c = take n (drop 40 bytes) in
    let s = first_chunks 32 (number_at 32 bytes) (drop n (drop 40 bytes)) in
    accepted n bytes long width few len
    ∙ ap (λ x. Ok (made n x (number_at 16 bytes) (number_at 24 bytes) c s)) (sym el)
    ∙ ap (λ x. Ok (made n l x (number_at 24 bytes) c s)) (sym ep)
    ∙ ap (λ x. Ok (made n l p x c s)) (sym ei)
    ∙ ap (λ x. Ok (made n l p i x s)) (sym ec)
    ∙ ap (λ x. Ok (made n l p i chunk x)) (sym es)

-- each item is a byte
unfoldable pub IsBytes : List ℕ → Type 0
IsBytes bytes = (i : ℕ) → get_or bytes i 0 < 256

bytes_drop : (n : ℕ) (bytes : List ℕ) → IsBytes bytes → IsBytes (drop n bytes)
unfolding IsBytes
bytes_drop n bytes h i = rw get_or-drop (h (n + i))

bytes_take : (n : ℕ) (bytes : List ℕ) → IsBytes bytes → IsBytes (take n bytes)
unfolding IsBytes
bytes_take n bytes h i =
    elim (cases_lt i n) [
      | inl lt ↦ rw (get_or-take n bytes i 0 lt) (h i)
      | inr le ↦ rw (get_or_past (take n bytes) i 0 (omega (arith, length-take n bytes))) (omega arith)
    ]

-- the bytes of a number that is read are there
pub number_takes : (start : ℕ) (bytes : List ℕ) → IsBytes bytes → start + 8 ≤ length bytes → drop start bytes ≡ to_be_bytes w64 (number_at start bytes) ++ drop (start + 8) bytes
unfolding IsBytes
number_takes start bytes fits long =
    let from : List ℕ = drop start bytes in
    let eight : length (take 8 from) ≡ 8 = omega (arith, length-take 8 from, length-drop start bytes) in
    let is : to_be_bytes w64 (number_at start bytes) ≡ take 8 from = be_bytes_8 (take 8 from) (number_at start bytes) eight (bytes_take 8 from (bytes_drop start bytes fits)) refl in
    sym (take-append-drop 8 from) ∙ ap (λ (x : List ℕ). x ++ drop 8 from) (sym is) ∙ ap (λ (x : List ℕ). to_be_bytes w64 (number_at start bytes) ++ x) (drop-drop 8 start bytes)

-- the five numbers and what follows them
five : (bytes : List ℕ) → IsBytes bytes → 40 ≤ length bytes
    → bytes ≡ to_be_bytes w64 (number_at 0 bytes) ++ (to_be_bytes w64 (number_at 8 bytes) ++ (to_be_bytes w64 (number_at 16 bytes) ++ (to_be_bytes w64 (number_at 24 bytes) ++ (to_be_bytes w64 (number_at 32 bytes) ++ drop 40 bytes))))
five bytes fits long =
    number_takes 0 bytes fits (omega arith)
    ∙ ap (λ (x : List ℕ). to_be_bytes w64 (number_at 0 bytes) ++ x) (number_takes 8 bytes fits (omega arith)
    ∙ ap (λ (x : List ℕ). to_be_bytes w64 (number_at 8 bytes) ++ x) (number_takes 16 bytes fits (omega arith)
    ∙ ap (λ (x : List ℕ). to_be_bytes w64 (number_at 16 bytes) ++ x) (number_takes 24 bytes fits (omega arith)
    ∙ ap (λ (x : List ℕ). to_be_bytes w64 (number_at 24 bytes) ++ x) (number_takes 32 bytes fits (omega arith)))))

-- the encoding of a proof, from its numbers
written : (w l p i count : ℕ) (chunk : List ℕ) (path : List (List ℕ)) → count ≡ length path
    → to_be_bytes w64 w ++ (to_be_bytes w64 l ++ (to_be_bytes w64 p ++ (to_be_bytes w64 i ++ (to_be_bytes w64 count ++ (chunk ++ joined path))))) ≡ encoding (made w l p i chunk path)
unfolding encoding made joined
written w l p i count chunk path e =
    ap (λ (c : ℕ). to_be_bytes w64 w ++ (to_be_bytes w64 l ++ (to_be_bytes w64 p ++ (to_be_bytes w64 i ++ (to_be_bytes w64 c ++ (chunk ++ flat_map (λ d. d) path)))))) e

-- bytes for which no error applies
encoded : (n : ℕ) (bytes : List ℕ) → IsBytes bytes → 40 ≤ length bytes → number_at 0 bytes ≡ n → length bytes ≡ 40 + n + 32 * number_at 32 bytes
    → bytes ≡ encoding (made n (number_at 8 bytes) (number_at 16 bytes) (number_at 24 bytes) (take n (drop 40 bytes)) (first_chunks 32 (number_at 32 bytes) (drop n (drop 40 bytes))))
encoded n bytes fits long width len =
    let count = number_at 32 bytes in
    let rest = drop 40 bytes in
    let path = first_chunks 32 count (drop n rest) in
    let size : length (drop n rest) ≡ 32 * count = omega (arith, length-drop n rest, length-drop 40 bytes) in
    let parts : rest ≡ take n rest ++ joined path = sym (take-append-drop n rest) ∙ ap (λ xs. take n rest ++ xs) (sym (joined_again count (drop n rest) size)) in
    five bytes fits long
    ∙ ap (λ w. to_be_bytes w64 w ++ (to_be_bytes w64 (number_at 8 bytes) ++ (to_be_bytes w64 (number_at 16 bytes) ++ (to_be_bytes w64 (number_at 24 bytes) ++ (to_be_bytes w64 count ++ rest))))) width
    ∙ ap (λ (xs : List ℕ). to_be_bytes w64 n ++ (to_be_bytes w64 (number_at 8 bytes) ++ (to_be_bytes w64 (number_at 16 bytes) ++ (to_be_bytes w64 (number_at 24 bytes) ++ (to_be_bytes w64 count ++ xs))))) parts
    ∙ written n (number_at 8 bytes) (number_at 16 bytes) (number_at 24 bytes) count (take n rest) path (sym (cut_length count (drop n rest)))

pub refused_short : (n : ℕ) (bytes : List ℕ) → length bytes < 40 → proof_in n bytes ≡ Err Short
unfolding proof_in
refused_short n bytes h = rw (lt_true (length bytes) 40 h) refl

pub refused_width : (n : ℕ) (bytes : List ℕ) → 40 ≤ length bytes → number_at 0 bytes ≢ n → proof_in n bytes ≡ Err (Width (number_at 0 bytes))
unfolding proof_in
refused_width n bytes h w = rw (lt_false (length bytes) 40 h, eq_false (number_at 0 bytes) n w) refl

pub refused_many : (n : ℕ) (bytes : List ℕ) → 40 ≤ length bytes → number_at 0 bytes ≡ n → 64 < number_at 32 bytes → proof_in n bytes ≡ Err (TooManyDigests (number_at 32 bytes))
unfolding proof_in
refused_many n bytes h w m = rw (lt_false (length bytes) 40 h, eq_true (number_at 0 bytes) n w, lt_true 64 (number_at 32 bytes) m) refl

pub refused_length : (n : ℕ) (bytes : List ℕ) → 40 ≤ length bytes → number_at 0 bytes ≡ n → number_at 32 bytes ≤ 64 → length bytes ≢ 40 + n + 32 * number_at 32 bytes → proof_in n bytes ≡ Err Length
unfolding proof_in
refused_length n bytes h w m l = rw (lt_false (length bytes) 40 h, eq_true (number_at 0 bytes) n w, lt_false 64 (number_at 32 bytes) m, eq_false (length bytes) (40 + n + 32 * number_at 32 bytes) l) refl

no_error : (read : Result ChunkProof DecodeError) (p : ChunkProof) (e : DecodeError) → read ≡ Err e → read ≡ Ok p → ⊥
no_error read p e f g = cc

same_value : (read : Result ChunkProof DecodeError) (p q : ChunkProof) → read ≡ Ok p → read ≡ Ok q → p ≡ q
same_value read p q f g = cc

is_encoding : (n : ℕ) (bytes : List ℕ) (p : ChunkProof) → IsBytes bytes → 40 ≤ length bytes → number_at 0 bytes ≡ n → number_at 32 bytes ≤ 64 → length bytes ≡ 40 + n + 32 * number_at 32 bytes → proof_in n bytes ≡ Ok p → bytes ≡ encoding p
unfolding made
is_encoding n bytes p fits long w few l e =
    let q : ChunkProof = made n (number_at 8 bytes) (number_at 16 bytes) (number_at 24 bytes) (take n (drop 40 bytes)) (first_chunks 32 (number_at 32 bytes) (drop n (drop 40 bytes))) in
    encoded n bytes fits long w l ∙ ap encoding (same_value (proof_in n bytes) q p (accepted n bytes long w few l) e)

pub written_so : IsWrittenSo
unfolding IsBytes
written_so n bytes p fits e =
    let read = proof_in n bytes in
    elim (le_or_lt 40 (length bytes)) [
      | inr short ↦ absurd (no_error read p Short (refused_short n bytes short) e)
      | inl long ↦ elim (eqb_tells (number_at 0 bytes) n) [
        | inr w ↦ absurd (no_error read p (Width (number_at 0 bytes)) (refused_width n bytes long w.1) e)
        | inl w ↦ elim (le_or_lt (number_at 32 bytes) 64) [
          | inr many ↦ absurd (no_error read p (TooManyDigests (number_at 32 bytes)) (refused_many n bytes long w.1 many) e)
          | inl few ↦ elim (eqb_tells (length bytes) (40 + n + 32 * number_at 32 bytes)) [
            | inr l ↦ absurd (no_error read p Length (refused_length n bytes long w.1 few l.1) e)
            | inl l ↦ is_encoding n bytes p fits long w.1 few l.1 e
          ]
        ]
      ]
    ]

front : ChunkProof → List ℕ
front p = header p.shape ++ to_be_bytes w64 p.index ++ to_be_bytes w64 (length p.path)

in_two : (p : ChunkProof) → encoding p ≡ front p ++ (p.chunk ++ joined p.path)
unfolding encoding front joined
in_two p = refl

front_length : (p : ChunkProof) → length (front p) ≡ 40
unfolding front
front_length p = refl

module _ (p : ChunkProof) (n : ℕ) (is : IsProof n p) where
  width_again : number_at 0 (encoding p) ≡ p.shape.width
  unfolding encoding
  width_again = from_be_bytes-to_be_bytes_8 p.shape.width is.fits.width

  len_again : number_at 8 (encoding p) ≡ p.shape.len
  unfolding encoding
  len_again = from_be_bytes-to_be_bytes_8 p.shape.len is.fits.len

  pruned_again : number_at 16 (encoding p) ≡ p.shape.pruned
  unfolding encoding
  pruned_again = from_be_bytes-to_be_bytes_8 p.shape.pruned is.fits.pruned

  index_again : number_at 24 (encoding p) ≡ p.index
  unfolding encoding
  index_again = from_be_bytes-to_be_bytes_8 p.index is.index

  count_again : number_at 32 (encoding p) ≡ length p.path
  unfolding encoding
  count_again = from_be_bytes-to_be_bytes_8 (length p.path) (omega (arith, is.few))

  rest_again : drop 40 (encoding p) ≡ p.chunk ++ joined p.path
  rest_again = ap (drop 40) (in_two p) ∙ drop_at (front p) (p.chunk ++ joined p.path) 40 (front_length p)

  size_again : length (encoding p) ≡ 40 + n + 32 * number_at 32 (encoding p)
  size_again = omega (arith, ap length (in_two p), length-append (front p) (p.chunk ++ joined p.path), front_length p, length-append p.chunk (joined p.path), is.chunk, joined_length p.path is.digests, count_again)

  chunk_again : take n (drop 40 (encoding p)) ≡ p.chunk
  chunk_again = ap (take n) rest_again ∙ take_at p.chunk (joined p.path) n is.chunk

  path_again : first_chunks 32 (number_at 32 (encoding p)) (drop n (drop 40 (encoding p))) ≡ p.path
  path_again =
      ap (λ k. first_chunks 32 k (drop n (drop 40 (encoding p)))) count_again
      ∙ ap (λ xs. first_chunks 32 (length p.path) (drop n xs)) rest_again
      ∙ ap (first_chunks 32 (length p.path)) (drop_at p.chunk (joined p.path) n is.chunk)
      ∙ cut_again p.path is.digests

  again : proof_in n (encoding p) ≡ Ok p
  unfolding made
  again =
      let b = encoding p in
      accepted n b (omega (arith, size_again)) (width_again ∙ is.width) (omega (arith, count_again, is.few)) size_again
      ∙ ap (λ w. Ok (made w (number_at 8 b) (number_at 16 b) (number_at 24 b) (take n (drop 40 b)) (first_chunks 32 (number_at 32 b) (drop n (drop 40 b))))) (sym is.width)
      ∙ ap (λ l. Ok (made p.shape.width l (number_at 16 b) (number_at 24 b) (take n (drop 40 b)) (first_chunks 32 (number_at 32 b) (drop n (drop 40 b))))) len_again
      ∙ ap (λ q. Ok (made p.shape.width p.shape.len q (number_at 24 b) (take n (drop 40 b)) (first_chunks 32 (number_at 32 b) (drop n (drop 40 b))))) pruned_again
      ∙ ap (λ i. Ok (made p.shape.width p.shape.len p.shape.pruned i (take n (drop 40 b)) (first_chunks 32 (number_at 32 b) (drop n (drop 40 b))))) index_again
      ∙ ap (λ c. Ok (made p.shape.width p.shape.len p.shape.pruned p.index c (first_chunks 32 (number_at 32 b) (drop n (drop 40 b))))) chunk_again
      ∙ ap (λ ds. Ok (made p.shape.width p.shape.len p.shape.pruned p.index p.chunk ds)) path_again

pub read_again : IsReadAgain
read_again n p is = again p n is

-- what the code writes, piece by piece
pub write_as : (p : ChunkProof) (h i c flat v0 v1 v2 v3 v4 v5 : List ℕ) → v0 ≡ [] → v1 ≡ v0 ++ h → v2 ≡ v1 ++ i → v3 ≡ v2 ++ c → v4 ≡ v3 ++ p.chunk → v5 ≡ v4 ++ flat
    → h ≡ header p.shape → i ≡ to_be_bytes w64 p.index → c ≡ to_be_bytes w64 (length p.path) → flat ≡ joined p.path → v5 ≡ encoding p
unfolding front
write_as p h i c flat v0 v1 v2 v3 v4 v5 e0 e1 e2 e3 e4 e5 eh ei ec ef =
    let w1 : v1 ≡ header p.shape = e1 ∙ ap (λ v. v ++ h) e0 ∙ eh in
    let w2 : v2 ≡ header p.shape ++ to_be_bytes w64 p.index = e2 ∙ ap (λ v. v ++ i) w1 ∙ ap (λ x. header p.shape ++ x) ei in
    let w3 : v3 ≡ front p = e3 ∙ ap (λ v. v ++ c) w2 ∙ ap (λ x. header p.shape ++ to_be_bytes w64 p.index ++ x) ec in
    e5 ∙ ap (λ v. v ++ flat) (e4 ∙ ap (λ v. v ++ p.chunk) w3) ∙ ap (λ x. front p ++ p.chunk ++ x) ef
    ∙ append_assoc (front p) p.chunk (joined p.path) ∙ sym (in_two p)

-- the same, from the bytes of a slice of digests
pub flattened : (path : List (List ℕ)) (flat : List ℕ) → flat ≡ flat_map (λ digest. digest) path → flat ≡ joined path
unfolding joined
flattened path flat e = e
