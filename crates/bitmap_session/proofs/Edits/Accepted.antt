-- The edits that a call makes are accepted, each after those before it.
use Rattle.std.proofs.Common.{◌≡◌, ℕ, zero, suc, ◌+◌, ◌-◌, ◌*◌, ◌^◌, ◌<◌, ◌≤◌, Bool, false, List, [], ◌∷◌, length, map, subst, sym, inl, inr, arith}
use Rattle.std.specs.Prelude.{replicate}
use Rattle.std.specs.List.{range_with_len}
use Rattle.std.proofs.lemmas.Bool.{cases_lt}
use Rattle.std.proofs.lemmas.List.{length-replicate, length-set, length-take-le}
use Rattle.std.proofs.lemmas.Nat.{mul-le}
use Rattle.bitmap_bytes.specs.Chunk.{chunk_bit}
use Rattle.bitmap_core.specs.PrunedBits.{PrunedBits, IsRetainedChunk, bit_len, popped, pruned_bits, pushed, set_at}
use Rattle.bitmap_core.proofs.Pruned.Edits.{len_pushed}
use Rattle.historical_bitmap.specs.Edits.{AllAccepted, chunk_end, pops, pushes, sets, sets_of}
use Rattle.historical_bitmap.specs.Edits.Edit.{Set}
use Rattle.historical_bitmap.specs.Lengths.{pushes_to}

-- appended bits, if the length after them fits 64 bits
pub pushes_accepted : (N : ℕ) (b : PrunedBits) (bits : List Bool) → bit_len N b + length bits < 2 ^ 64 → AllAccepted N b (pushes bits)
pushes_accepted N b [] fits = tt
pushes_accepted N b (bit ∷ bits) fits = (
  omega (arith, fits),
  pushes_accepted N (pushed b bit) bits (omega (arith, fits, len_pushed N b bit)),
)

-- zeros up to a length of 64 bits
pub zeros_accepted : (N : ℕ) (b : PrunedBits) (len : ℕ) → len < 2 ^ 64 → AllAccepted N b (pushes_to N b len)
zeros_accepted N b len fits = elim (cases_lt (bit_len N b) len) [
  | inl longer ↦
      let count = length-replicate (len - bit_len N b) false in
      pushes_accepted N b (replicate (len - bit_len N b) false) (omega (arith, longer, fits, count))
  | inr none ↦
      let count : len - bit_len N b ≡ 0 = omega (arith, none) in
      subst (λ (m : ℕ). AllAccepted N b (pushes (replicate m false))) (sym count) tt
]

-- dropped bits, if they are retained
pub pops_accepted : (N : ℕ) (b : PrunedBits) (count : ℕ) → count ≤ length b.bits → AllAccepted N b (pops count)
pops_accepted N b zero within = tt
pops_accepted N b (suc count) within =
    let less = length-take-le (length b.bits - 1) b.bits (omega arith) in
    (omega (arith, within), pops_accepted N (popped b) count (omega (arith, within, less)))

-- replaced bits at consecutive positions, if these are retained
run_accepted : (N : ℕ) (b : PrunedBits) (value : ℕ → Bool) (lo count : ℕ)
    → pruned_bits N b ≤ lo
    → lo + count ≤ bit_len N b
    → AllAccepted N b (map (λ position. Set position (value position)) (range_with_len lo count))
run_accepted N b value lo zero low within = tt
run_accepted N b value lo (suc count) low within =
    let same = length-set b.bits (lo - pruned_bits N b) (value lo) in
    ((low, omega (arith, within)), run_accepted N (set_at N b lo (value lo)) value (lo + 1) count (omega (arith, low)) (omega (arith, within, same)))

pub sets_accepted : (N : ℕ) (b : PrunedBits) (lo hi : ℕ) (value : Bool)
    → pruned_bits N b ≤ lo
    → lo < hi
    → hi ≤ bit_len N b
    → AllAccepted N b (sets lo hi value)
sets_accepted N b lo hi value low some within = run_accepted N b (λ position. value) lo (hi - lo) low (omega (arith, some, within))

-- the bits of a retained chunk
pub chunk_accepted : (N : ℕ) (b : PrunedBits) (index : ℕ) (bytes : List ℕ)
    → IsRetainedChunk N b index
    → AllAccepted N b (sets_of N bytes (8 * N * index) (chunk_end N b index))
chunk_accepted N b index bytes retained =
    let low = mul-le (8 * N) b.pruned (8 * N) index (omega arith) retained.0 in
    let within : 8 * N * index + (chunk_end N b index - 8 * N * index) ≤ bit_len N b = omega (arith, retained.1) in
    run_accepted N b (chunk_bit N bytes) (8 * N * index) (chunk_end N b index - 8 * N * index) low within
