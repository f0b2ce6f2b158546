-- A bitmap that is made bit by bit: after each bit it has the bits up to a position, and at last it is the whole.
use Rattle.std.proofs.Common.{◌≡◌, ℕ, ◌+◌, ◌-◌, ◌*◌, ◌/◌, ◌≤◌, Bool, List, [], ◌∷◌, ◌++◌, length, map, ap, sym, ◌∙◌, arith}
use Rattle.std.proofs.lemmas.List.FromFn.{length-map-range_with_len, map-range_with_len_more}
use Rattle.std.specs.List.{range_with_len}
use Rattle.std.specs.Prelude.{Option}
use Rattle.bitmap_core.specs.PrunedBits.{PrunedBits, bit_at, bit_len, from_bits, IsRetained}
use Rattle.bitmap_core.proofs.Pruned.Positions.{bit_from_bits, same_from_bits, same_pruned}
use Rattle.historical_bitmap.specs.Changes.{changed, sent_bytes}
use Rattle.historical_bitmap.specs.Record.{bit_or_else}
use Rattle.historical_bitmap.proofs.Changes.Patched.{patched_changed}
use Rattle.historical_bitmap.proofs.Records.Restores.{has_chunk}
use Rattle.uses.specs.Replicas.{Brings}

-- the bits from s up to, but not including, a position
abbrev pub bits_up_to : (ℕ → Bool) → ℕ → ℕ → List Bool
bits_up_to bit s position = map bit (range_with_len s (position - s))

-- the length is the position
pub made_len : (bit : ℕ → Bool) (made : PrunedBits) (p position : ℕ) → made.pruned ≡ p → 64 * p ≤ position → made.bits ≡ bits_up_to bit (64 * p) position → bit_len 8 made ≡ position
made_len bit made p position e from is =
    let count : length made.bits ≡ position - 64 * p = ap length is ∙ length-map-range_with_len bit (64 * p) (position - 64 * p) in
    omega (arith, count, e, from)

-- one more bit is appended
pub one_more : (bit : ℕ → Bool) (s position : ℕ) (bits more : List Bool) (x : Bool) → s ≤ position → more ≡ bits ++ x ∷ [] → bits ≡ bits_up_to bit s position → x ≡ bit position
    → more ≡ bits_up_to bit s (position + 1)
one_more bit s position bits more x from e before is =
    let place : s + (position - s) ≡ position = omega (arith, from) in
    let count : position - s + 1 ≡ position + 1 - s = omega (arith, from) in
    e ∙ (ap (λ xs. xs ++ x ∷ []) before ∙ (ap (λ y. bits_up_to bit s position ++ y ∷ []) is
    ∙ (sym (map-range_with_len_more bit s (position - s) position place) ∙ ap (λ c. map bit (range_with_len s c)) count)))

-- at the end it is the bitmap with these bits
pub all_made : (bit : ℕ → Bool) (made : PrunedBits) (p position len : ℕ) → made.pruned ≡ p → position - 64 * p ≤ len - 64 * p → len ≤ position → made.bits ≡ bits_up_to bit (64 * p) position
    → made ≡ from_bits 8 p len bit
all_made bit made p position len e within past is =
    let count : position - 64 * p ≡ len - 64 * p = omega (arith, within, past) in
    same_pruned made (from_bits 8 p len bit) e (is ∙ ap (λ c. map bit (range_with_len (64 * p) c)) count)

-- a message that brings the older version to the newer one makes it
pub brought : (older newer : PrunedBits) (p len : ℕ) (received : ℕ → Option (List ℕ)) → Brings 8 older newer len p received
    → from_bits 8 p len (λ k. bit_or_else 8 (received (k / 64)) older k) ≡ newer
brought older newer p len received b = rw (b.pruned_is, b.len_is) (same_from_bits 8 newer (λ k. bit_or_else 8 (received (k / 64)) older k) led)
  where
    sent : ℕ → Bool
    sent k = bit_or_else 8 (sent_bytes 8 newer (changed 8 older newer) (k / (8 * 8))) older k

    led : (k : ℕ) → IsRetained 8 newer k → bit_or_else 8 (received (k / 64)) older k ≡ bit_at 8 newer k
    led k has =
        ap (λ r. bit_or_else 8 r older k) (b.bytes (k / 64) (has_chunk 8 newer k (omega arith) has))
        ∙ (sym (bit_from_bits 8 newer.pruned (bit_len 8 newer) sent k has.0 has.1)
        ∙ ap (λ v. bit_at 8 v k) (patched_changed 8 older newer (omega arith)))
