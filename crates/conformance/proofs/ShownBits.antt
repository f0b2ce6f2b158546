use Rattle.std.proofs.Common.{◌≡◌, ℕ, ◌-◌, ◌/◌, ◌%◌, ◌<◌, ◌≤◌, Bool, true, false, [], ◌∷◌, replicate, sym, ◌∙◌, arith}
use Rattle.std.proofs.lemmas.Nat.{mod_below}
use Rattle.std.proofs.lemmas.List.{get_or-replicate}
use Rattle.std.proofs.lemmas.List.FromFn.{get_or-map-range_with_len}
use Rattle.bitmap_bytes.specs.Chunk.{chunk_bit}
use Rattle.bitmap_bytes.proofs.Bytes.Bits.{bit_of_full_byte}

-- each bit of a chunk of bytes 255 is true
pub full_chunk : (n i : ℕ) → 0 < n → chunk_bit n (replicate n 255) i ≡ true
full_chunk n i p = bit_of_full_byte _ (i % 8) (get_or-replicate {A = ℕ} n (i / 8 % n) 255 0 (mod_below (i / 8) n p)) (mod_below i 8 (omega arith))

-- a second chunk with its first three bits alone is zero past 35 bits
pub zero_past_three : (len k : ℕ) → len ≡ 35 → len ≤ k → k / 32 ≡ 1 → chunk_bit 4 (7 ∷ 0 ∷ 0 ∷ 0 ∷ []) k ≡ false
zero_past_three len k e h q =
    sym (get_or-map-range_with_len (chunk_bit 4 (7 ∷ 0 ∷ 0 ∷ 0 ∷ [])) 35 29 (k - 35) k false (omega arith) (omega arith))
    ∙ get_or-replicate {A = Bool} 29 (k - 35) false false (omega arith)
