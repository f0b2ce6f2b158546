-- The number of set bits of bytes, and whether one is set, by blocks of bytes and a rest.
use Rattle.std.proofs.Common.{◌≡◌, ℕ, ◌+◌, ◌-◌, ◌*◌, ◌/◌, ◌%◌, ◌<◌, ◌≤◌, Bool, true, false, not, cond, eqb, List, [], length, get_or, drop, replicate, refl, sym, ap, ◌∙◌, inl, inr, arith}
use Rattle.std.specs.List.{count_by, list_all}
use Rattle.std.specs.Simd.{first_chunks}
use Rattle.std.proofs.Math.Nat.{div-add-mod, div-eq_of_lt, mul-add, mul-add-div, mul-add-mod_self_left, mod-mod}
use Rattle.std.proofs.lemmas.Nat.{mod_below, div_below}
use Rattle.std.proofs.lemmas.List.{ext_get_or, get_or-replicate, length-replicate}
use Rattle.std.proofs.lemmas.Bool.{cases_lt, false≢true}
use Rattle.std.proofs.lemmas.Bool.Decides.{Decides-eqb}
use Rattle.std.specs.Cmp.Lexicographic.{pointwise, pointwise_decides}
use Rattle.bitmap_bytes.specs.Chunk.{chunk_bit, chunk_bits, bytes_bit, IsChunk}
use Rattle.bitmap_bytes.specs.Bits.{chunks_bit, bits}
use Rattle.bitmap_bytes.proofs.Bytes.Bits.{bit_of_zero_byte}
use Rattle.bitmap_bytes.proofs.Chunks.Bits.{chunk_bit-fill, chunk_bit-mod, byte_from_bits}
use Rattle.bitmap_bytes.proofs.Counting.Ones.{ones_from, ones_from_add, ones_from_same, count-bits}
use Rattle.bitmap_bytes.proofs.Counting.Places.{none_bits, ones_from_clear, ones_from_mono, found, rest_zero, some_left}
use Rattle.bitmap_bytes.proofs.Counting.Words.{bytes_bit-drop, count-chunk, none_chunk}
use Rattle.bitmap_bytes.proofs.Chunks.OfBytes.{chunks_bit-first_chunks}

-- ---- one block

true_of_not : (b : Bool) → not b ≡ false → b ≡ true
true_of_not true h = refl
true_of_not false h = absurd (false≢true (sym h))

-- a chunk of zeros has no set bit
pub zero_bit : (n i : ℕ) → 0 < n → chunk_bit n (replicate {A = ℕ} n 0) i ≡ false
zero_bit n i p = chunk_bit-fill n 0 false i p (λ k _. bit_of_zero_byte 0 k refl)

-- the index of bit t of block j among the bits of all blocks
pub block_bit : (n : ℕ) (blocks : List (List ℕ)) (j t : ℕ) → 0 < n → t < 8 * n → chunks_bit n blocks (8 * n * j + t) ≡ chunk_bit n (get_or blocks j []) t
block_bit n blocks j t p h =
    let q : (8 * n * j + t) / (8 * n) ≡ j = mul-add-div (omega arith) j t ∙ ap (λ x. j + x) (div-eq_of_lt h) ∙ omega arith in
    ap (λ k. chunk_bit n (get_or blocks k []) (8 * n * j + t)) q ∙ chunk_bit-mod n (get_or blocks j []) (8 * n * j + t) t p (mul-add-mod_self_left (8 * n) j t)

next_block : (n j : ℕ) → 8 * n * j + 8 * n ≡ 8 * n * (j + 1)
next_block n j = omega (arith, mul-add (8 * n) j 1)

blocks_within : (n j k : ℕ) → j < k → 8 * n * (j + 1) ≤ 8 * n * k
blocks_within n j k h = let u : j + 1 + (k - (j + 1)) ≡ k = omega arith in omega (arith, mul-add (8 * n) (j + 1) (k - (j + 1)), ap (λ m. 8 * n * m) u)

-- after a block of zeros there is still no set bit
pub zero_block : (n : ℕ) (blocks : List (List ℕ)) (j : ℕ) → 0 < n → get_or blocks j [] ≡ replicate n 0 → ones_from (chunks_bit n blocks) 0 (8 * n * j) ≡ 0 → ones_from (chunks_bit n blocks) 0 (8 * n * (j + 1)) ≡ 0
zero_block n blocks j p e s =
    let clear = ones_from_clear (chunks_bit n blocks) (0 + 8 * n * j) (8 * n) (λ t h.
    let a : 0 + 8 * n * j + t ≡ 8 * n * j + t = omega arith in
    ap (chunks_bit n blocks) a ∙ block_bit n blocks j t p h ∙ ap (λ c. chunk_bit n c t) e ∙ zero_bit n t p) in
    ap (λ k. ones_from (chunks_bit n blocks) 0 k) (sym (next_block n j)) ∙ ones_from_add (chunks_bit n blocks) 0 (8 * n * j) (8 * n) ∙ omega (arith, clear, s)

clear_place : (b : Bool) (m k : ℕ) → m + (cond b 1 0 + 0) ≤ k → k ≡ 0 → b ≡ false
clear_place true m k h e = absurd (omega arith)
clear_place false m k h e = refl

-- if none of k positions passes the test, no single one does
none_at : (f : ℕ → Bool) (k i : ℕ) → ones_from f 0 k ≡ 0 → i < k → f i ≡ false
none_at f k i e h =
    let z : 0 + i ≡ i = omega arith in
    let o : ones_from f 0 (i + 1) ≡ ones_from f 0 i + (cond (f i) 1 0 + 0) = ones_from_add f 0 i 1 ∙ ap (λ x. ones_from f 0 i + (cond (f x) 1 0 + 0)) z in
    clear_place (f i) (ones_from f 0 i) (ones_from f 0 k) (omega (arith, o, ones_from_mono f (i + 1) k (omega arith))) e

-- a block without a set bit is a block of zeros
pub zeros_from_bits : (n : ℕ) (block : List ℕ) → 0 < n → IsChunk n block → ((t : ℕ) → t < 8 * n → chunk_bit n block t ≡ false) → block ≡ replicate n 0
zeros_from_bits n block p c h =
    ext_get_or 0 block (replicate n 0) (c.len ∙ sym (length-replicate n 0)) (λ j w.
    byte_from_bits n block (replicate n 0) j (omega (arith, c.len)) (c.bytes j) (let z : get_or (replicate {A = ℕ} n 0) j 0 ≡ 0 = get_or-replicate n j 0 0 (omega (arith, c.len)) in omega arith) (λ i.
    let m : i % (8 * n) < 8 * n = mod_below i (8 * n) (omega arith) in
    chunk_bit-mod n block i (i % (8 * n)) p (sym (mod-mod i (8 * n))) ∙ h (i % (8 * n)) m ∙ sym (zero_bit n i p)))

-- any other block has a set bit
pub other_block : (n : ℕ) (blocks : List (List ℕ)) (j : ℕ) → 0 < n → j < length blocks → IsChunk n (get_or blocks j []) → (get_or blocks j [] ≡ replicate n 0 → ⊥) → list_all not (bits n blocks (8 * n * length blocks)) ≡ false
other_block n blocks j p l c e = elim (cases_lt 0 (ones_from (chunks_bit n blocks) 0 (8 * n * (j + 1)))) [
  | inl s ↦ none_bits n blocks (8 * n * length blocks) ∙ found (chunks_bit n blocks) (8 * n * (j + 1)) (8 * n * length blocks) (blocks_within n j (length blocks) l) s
  | inr s ↦ absurd (e (zeros_from_bits n (get_or blocks j []) p c (λ t h. sym (block_bit n blocks j t p h) ∙ none_at (chunks_bit n blocks) (8 * n * (j + 1)) (8 * n * j + t) (omega arith) (omega (arith, next_block n j)))))
]

-- a block that is compared with a block of zeros
pub zeros_where_same : (n : ℕ) (block : List ℕ) (r : Bool) → r ≡ not (pointwise eqb block (replicate n 0)) → r ≡ false → block ≡ replicate n 0
zeros_where_same n block r e h = (pointwise_decides Decides-eqb block (replicate n 0)).0 (true_of_not (pointwise eqb block (replicate n 0)) (sym e ∙ h))

pub other_where_not : (n : ℕ) (block : List ℕ) (r : Bool) → r ≡ not (pointwise eqb block (replicate n 0)) → r ≡ true → block ≡ replicate n 0 → ⊥
other_where_not n block r e h z = false≢true (ap not (sym ((pointwise_decides Decides-eqb block (replicate n 0)).1 z)) ∙ sym e ∙ h)

-- ---- bytes as blocks and a rest

blocks_and_rest : (n : ℕ) (xs : List ℕ) (blocks : List (List ℕ)) (rest : List ℕ) → 0 < n → blocks ≡ first_chunks n (length xs / n) xs → rest ≡ drop (length xs / n * n) xs → length blocks ≡ length xs / n → length rest ≡ length xs % n
    → ones_from (bytes_bit xs) 0 (8 * length xs) ≡ ones_from (chunks_bit n blocks) 0 (8 * n * length blocks) + ones_from (bytes_bit rest) 0 (8 * length rest)
blocks_and_rest n xs blocks rest p e f l m =
    let d = div-add-mod (length xs) n in
    let w : 8 * n * length blocks ≡ 8 * (n * (length xs / n)) = ap (λ k. 8 * n * k) l ∙ grind arith in
    let v : n * (length xs / n) ≡ length xs / n * n = grind arith in
    let a : 8 * length xs ≡ 8 * n * length blocks + 8 * length rest = omega arith in
    let within : ones_from (bytes_bit xs) 0 (8 * n * length blocks) ≡ ones_from (chunks_bit n blocks) 0 (8 * n * length blocks) = ones_from_same (bytes_bit xs) (chunks_bit n blocks) 0 0 (8 * n * length blocks) (λ t h.
    let u : 8 * n * length blocks ≡ length xs / n * (8 * n) = w ∙ grind arith in
    sym (ap (λ bs. chunks_bit n bs (0 + t)) e ∙ chunks_bit-first_chunks n (length xs / n) xs (0 + t) p (div_below (0 + t) (8 * n) (length xs / n) (omega arith) (omega arith)))) in
    let after : ones_from (bytes_bit xs) (0 + 8 * n * length blocks) (8 * length rest) ≡ ones_from (bytes_bit rest) 0 (8 * length rest) = ones_from_same (bytes_bit xs) (bytes_bit rest) (0 + 8 * n * length blocks) 0 (8 * length rest) (λ t h.
    let q : 8 * (length xs / n * n) + (0 + t) ≡ 0 + 8 * n * length blocks + t = omega arith in
    sym (ap (λ r. bytes_bit r (0 + t)) f ∙ bytes_bit-drop (length xs / n * n) xs (0 + t) ∙ ap (bytes_bit xs) q)) in
    ap (λ x. ones_from (bytes_bit xs) 0 x) a ∙ ones_from_add (bytes_bit xs) 0 (8 * n * length blocks) (8 * length rest) ∙ omega arith

-- bytes whose blocks are zero are zero if the rest is
pub zero_rest : (n : ℕ) (xs : List ℕ) (blocks : List (List ℕ)) (rest : List ℕ) → 0 < n → blocks ≡ first_chunks n (length xs / n) xs → rest ≡ drop (length xs / n * n) xs → length blocks ≡ length xs / n → length rest ≡ length xs % n
    → list_all not (bits n blocks (8 * n * length blocks)) ≡ true → list_all not (chunk_bits (length rest) rest) ≡ list_all not (chunk_bits (length xs) xs)
zero_rest n xs blocks rest p e f l m h =
    none_chunk (length rest) rest ∙ rest_zero _ _ _ (blocks_and_rest n xs blocks rest p e f l m) (sym (none_bits n blocks (8 * n * length blocks)) ∙ h) ∙ sym (none_chunk (length xs) xs)

-- bytes with a block that is not zero are not zero
pub other_blocks : (n : ℕ) (xs : List ℕ) (blocks : List (List ℕ)) (rest : List ℕ) → 0 < n → blocks ≡ first_chunks n (length xs / n) xs → rest ≡ drop (length xs / n * n) xs → length blocks ≡ length xs / n → length rest ≡ length xs % n
    → list_all not (bits n blocks (8 * n * length blocks)) ≡ false → list_all not (chunk_bits (length xs) xs) ≡ false
other_blocks n xs blocks rest p e f l m h =
    none_chunk (length xs) xs ∙ some_left _ _ _ (blocks_and_rest n xs blocks rest p e f l m) (sym (none_bits n blocks (8 * n * length blocks)) ∙ h)

-- the set bits of bytes are those of their blocks and of the rest
pub count-blocks_and_rest : (n : ℕ) (xs : List ℕ) (blocks : List (List ℕ)) (rest : List ℕ) → 0 < n → blocks ≡ first_chunks n (length xs / n) xs → rest ≡ drop (length xs / n * n) xs → length blocks ≡ length xs / n → length rest ≡ length xs % n
    → count_by (λ b. b) (chunk_bits (length xs) xs) ≡ count_by (λ b. b) (bits n blocks (8 * n * length blocks)) + count_by (λ b. b) (chunk_bits (length rest) rest)
count-blocks_and_rest n xs blocks rest p e f l m = omega (arith, count-chunk (length xs) xs, blocks_and_rest n xs blocks rest p e f l m, count-bits n blocks (8 * n * length blocks), count-chunk (length rest) rest)
