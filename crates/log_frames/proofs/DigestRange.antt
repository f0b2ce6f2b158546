-- A digest fits 64 bits: each word of the hasher's state does, and stays so.
use Rattle.std.proofs.Common.{ℕ, ◌+◌, ◌*◌, ◌/◌, ◌%◌, ◌-◌, ◌^◌, ◌<◌, Bool, true, false, cond, eqb, List, [], ◌∷◌, arith}
use Rattle.std.specs.Int.{w64, rotate_left}
use Rattle.std.specs.Int.Bits.{bit_and, bit_or, bit_xor}
use Rattle.std.specs.List.{fold}
use Rattle.std.specs.Hash.DefaultHasher as sip
use Rattle.std.specs.declared.hash.DefaultHasher.{DefaultHasher}
use Rattle.std.proofs.Math.Nat.{div-le_self}
use Rattle.std.proofs.lemmas.Nat.{or_lt, xor_lt, mod_below}
use Rattle.log_frames.specs.Digest.{digest}

record Fits (s : DefaultHasher) : Type 0 where
  v0 : s.v0 < 2 ^ 64
  v1 : s.v1 < 2 ^ 64
  v2 : s.v2 < 2 ^ 64
  v3 : s.v3 < 2 ^ 64
  tail : s.tail < 2 ^ 64

word : (n : ℕ) → n % 2 ^ 64 < 2 ^ 64
word n = mod_below n (2 ^ 64) (omega arith)

rotated : (n k : ℕ) → n < 2 ^ 64 → rotate_left w64 n k < 2 ^ 64
rotated n k h =
    let low = div-le_self n (2 ^ ((64 - k % 64) % 64)) in
    or_lt 64 ((n * 2 ^ (k % 64)) % 2 ^ 64) (n / 2 ^ ((64 - k % 64) % 64)) (word (n * 2 ^ (k % 64))) (omega (arith, low))

round-fits : (s : DefaultHasher) → Fits s → Fits (sip.round s)
unfolding sip.round
round-fits s h =
    let a0 = sip.wrapping_add s.v0 s.v1 in
    let a2 = sip.wrapping_add s.v2 s.v3 in
    let a1 = bit_xor (rotate_left w64 s.v1 13) a0 in
    let a3 = bit_xor (rotate_left w64 s.v3 16) a2 in
    let a1-fits : a1 < 2 ^ 64 = xor_lt 64 (rotate_left w64 s.v1 13) a0 (rotated s.v1 13 h.v1) (word (s.v0 + s.v1)) in
    let a3-fits : a3 < 2 ^ 64 = xor_lt 64 (rotate_left w64 s.v3 16) a2 (rotated s.v3 16 h.v3) (word (s.v2 + s.v3)) in
    let b2 = sip.wrapping_add a2 a1 in
    let b0 = sip.wrapping_add (rotate_left w64 a0 32) a3 in
    record {
      v0 = word (rotate_left w64 a0 32 + a3);
      v1 = xor_lt 64 (rotate_left w64 a1 17) b2 (rotated a1 17 a1-fits) (word (a2 + a1));
      v2 = rotated b2 32 (word (a2 + a1));
      v3 = xor_lt 64 (rotate_left w64 a3 21) b0 (rotated a3 21 a3-fits) (word (rotate_left w64 a0 32 + a3));
      tail = h.tail;
    }

with_word-fits : (s : DefaultHasher) (m : ℕ) → Fits s → m < 2 ^ 64 → Fits (sip.write_word s m)
unfolding sip.write_word
with_word-fits s m h small =
    let mixed : DefaultHasher = record { v0 = s.v0; v1 = s.v1; v2 = s.v2; v3 = bit_xor s.v3 m; tail = s.tail; length = s.length } in
    let before : Fits mixed = record { v0 = h.v0; v1 = h.v1; v2 = h.v2; v3 = xor_lt 64 s.v3 m h.v3 small; tail = h.tail } in
    let after = round-fits mixed before in
    record { v0 = xor_lt 64 (sip.round mixed).v0 m after.v0 small; v1 = after.v1; v2 = after.v2; v3 = after.v3; tail = after.tail }

-- of a state and of one whose tail was written as a word, the one that a test chooses
either : (b : Bool) (t u : DefaultHasher) → Fits t → Fits u → Fits (cond b (record { v0 = u.v0; v1 = u.v1; v2 = u.v2; v3 = u.v3; tail = 0; length = u.length }) t)
either true t u h k = record { v0 = k.v0; v1 = k.v1; v2 = k.v2; v3 = k.v3; tail = omega arith }
either false t u h k = h

with_byte-fits : (s : DefaultHasher) (b : ℕ) → Fits s → Fits (sip.write_byte s b)
unfolding sip.write_byte
with_byte-fits s b h =
    let shifted : ℕ = b * 2 ^ (8 * (s.length % 8)) in
    let t : DefaultHasher = record { v0 = s.v0; v1 = s.v1; v2 = s.v2; v3 = s.v3; tail = bit_or s.tail (shifted % 2 ^ 64); length = sip.wrapping_add s.length 1 } in
    let t-fits : Fits t = record { v0 = h.v0; v1 = h.v1; v2 = h.v2; v3 = h.v3; tail = or_lt 64 s.tail (shifted % 2 ^ 64) h.tail (word shifted) } in
    let u-fits = with_word-fits t t.tail t-fits t-fits.tail in
    either (eqb (t.length % 8) 0) t (sip.write_word t t.tail) t-fits u-fits

with_bytes-fits : (s : DefaultHasher) (bytes : List ℕ) → Fits s → Fits (fold sip.write_byte s bytes)
with_bytes-fits s [] h = h
with_bytes-fits s (b ∷ bytes) h = with_bytes-fits (sip.write_byte s b) bytes (with_byte-fits s b h)

finish-lt : (s : DefaultHasher) → Fits s → sip.finish s < 2 ^ 64
unfolding sip.finish
finish-lt s h =
    let count : ℕ = bit_and s.length 255 * 2 ^ 56 in
    let last : ℕ = bit_or (count % 2 ^ 64) s.tail in
    let t : DefaultHasher = sip.write_word s last in
    let t-fits = with_word-fits s last h (or_lt 64 (count % 2 ^ 64) s.tail (word count) h.tail) in
    let mixed : DefaultHasher = record { v0 = t.v0; v1 = t.v1; v2 = bit_xor t.v2 255; v3 = t.v3; tail = t.tail; length = t.length } in
    let mixed-fits : Fits mixed = record { v0 = t-fits.v0; v1 = t-fits.v1; v2 = xor_lt 64 t.v2 255 t-fits.v2 (omega arith); v3 = t-fits.v3; tail = t-fits.tail } in
    let u : DefaultHasher = sip.round (sip.round (sip.round mixed)) in
    let u-fits = round-fits (sip.round (sip.round mixed)) (round-fits (sip.round mixed) (round-fits mixed mixed-fits)) in
    xor_lt 64 (bit_xor (bit_xor u.v0 u.v1) u.v2) u.v3 (xor_lt 64 (bit_xor u.v0 u.v1) u.v2 (xor_lt 64 u.v0 u.v1 u-fits.v0 u-fits.v1) u-fits.v2) u-fits.v3

initial-fits : Fits sip.initial
unfolding sip.initial
initial-fits = record { v0 = omega arith; v1 = omega arith; v2 = omega arith; v3 = omega arith; tail = omega arith }

-- a digest fits 64 bits
pub digest-lt : (bytes : List ℕ) → digest bytes < 2 ^ 64
unfolding digest sip.write
digest-lt bytes = finish-lt (fold sip.write_byte sip.initial bytes) (with_bytes-fits sip.initial bytes initial-fits)
