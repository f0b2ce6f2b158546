-- The meaning of a bitmap as readers see it, by chunks and as a list of bits.
use Rattle.std.proofs.Common.{◌≡◌, ℕ, ◌+◌, ◌-◌, ◌*◌, ◌/◌, ◌%◌, ◌^◌, ◌<◌, Bool, false, List, [], length, get_or, sym, ap, ◌∙◌, arith}
use Rattle.std.proofs.Math.Nat.{div-add-mod, mod-eq_of_lt, div-le_self, lt_of_mul-lt-mul_left}
use Rattle.std.proofs.lemmas.Nat.{mod_below, div-mul-add, mod-mul-add}
use Rattle.bitmap_bytes.specs.Chunk.{chunk_bit}
use Rattle.bitmap_bytes.specs.Bits.{bits, IsChunkCount}
use Rattle.bitmap_core.specs.Meaning.{Meaning, plain_meaning, IsLawful, ShowsChunk}
use Rattle.bitmap_bytes.proofs.Chunks.Bits.{chunk_bit-mod}
use Rattle.bitmap_bytes.proofs.Lists.Bits.{get_or-bits, len_is}

-- a bit below the length is the bit of its chunk
pub shown_bit : (n : ℕ) (m : Meaning) (bytes : List ℕ) (k : ℕ) → 0 < n → k < m.len → ShowsChunk n m (k / (8 * n)) bytes
    → chunk_bit n bytes k ≡ m.bit k
shown_bit n m bytes k p h shows =
    let l : k % (8 * n) < 8 * n = mod_below k (8 * n) (omega arith) in
    let e : 8 * n * (k / (8 * n)) + k % (8 * n) ≡ k = div-add-mod k (8 * n) in
    chunk_bit-mod n bytes k (k % (8 * n)) p (sym (mod-eq_of_lt {n = k % (8 * n)} {m = 8 * n} l)) ∙ shows (k % (8 * n)) l (omega arith) ∙ ap m.bit e

-- ---- a list of bits

pub plain_lawful : (n : ℕ) (v : List Bool) → 0 < n → 8 * n < 2 ^ 64 → length v < 2 ^ 64 → IsLawful n (plain_meaning v)
plain_lawful n v p w h = record {
  width = record { positive = p; fits = w };
  pruned_within = omega arith;
  len_fits = h;
  chunks_fit = omega (arith, div-le_self (length v) (8 * n));
}

-- a chunk of a dense bitmap has the bits of the list
pub plain_shows : (n : ℕ) (chunks : List (List ℕ)) (len : ℕ) (v : List Bool) (c : ℕ) (bytes : List ℕ) → 0 < n
    → bits n chunks len ≡ v → bytes ≡ get_or chunks c []
    → ShowsChunk n (plain_meaning v) c bytes
plain_shows n chunks len v c bytes p e r k h s =
    let at : 8 * n * c + k ≡ c * (8 * n) + k = grind arith in
    let q : (8 * n * c + k) / (8 * n) ≡ c = ap (λ x. x / (8 * n)) at ∙ div-mul-add c (8 * n) k h in
    let m : k % (8 * n) ≡ (8 * n * c + k) % (8 * n) =
    mod-eq_of_lt {n = k} {m = 8 * n} h
    ∙ sym (ap (λ x. x % (8 * n)) at ∙ mod-mul-add c (8 * n) k h) in
    let l = len_is n chunks len v e in
    chunk_bit-mod n bytes k (8 * n * c + k) p m
    ∙ ap (λ x. chunk_bit n x (8 * n * c + k)) (r ∙ ap (λ x. get_or chunks x []) (sym q))
    ∙ sym (get_or-bits n chunks len (8 * n * c + k) false (omega arith))
    ∙ ap (λ x. get_or x (8 * n * c + k) false) e

-- a chunk with a bit below the length exists
pub plain_has : (n : ℕ) (chunks : List (List ℕ)) (len : ℕ) (v : List Bool) (c : ℕ) → bits n chunks len ≡ v
    → IsChunkCount n (length chunks) len → 8 * n * c < length v
    → c < length chunks
plain_has n chunks len v c e k h = lt_of_mul-lt-mul_left (8 * n) (omega (arith, len_is n chunks len v e, k.0))

-- the last chunk exists
pub plain_has_last : (n : ℕ) (chunks : List (List ℕ)) (len : ℕ) (v : List Bool) → bits n chunks len ≡ v
    → IsChunkCount n (length chunks) len → 0 < length v
    → (length v - 1) / (8 * n) < length chunks
plain_has_last n chunks len v e k h = plain_has n chunks len v ((length v - 1) / (8 * n)) e k (omega (arith, div-add-mod (length v - 1) (8 * n)))
