-- In which chunk a bit is, and how many chunks a length fills.
use Rattle.std.proofs.Common.{◌≡◌, ℕ, ◌+◌, ◌-◌, ◌*◌, ◌/◌, ◌%◌, ◌<◌, ◌≤◌, ap, inl, inr, arith}
use Rattle.std.specs.Int.{div_ceil}
use Rattle.std.proofs.Math.Nat.{div-add-mod, div-lt_iff_lt-mul, lt_of_mul-lt-mul_left, mul-add}
use Rattle.std.proofs.lemmas.Nat.{mod_below}
use Rattle.std.proofs.lemmas.Bool.{cases_eq}
use Rattle.bitmap_bytes.specs.Bits.{IsChunkCount}

-- bits at the same position of the same chunk are the same bit
pub same_place : (w i j : ℕ) → i / w ≡ j / w → i % w ≡ j % w → i ≡ j
same_place w i j q r = omega (arith, div-add-mod i w, div-add-mod j w, ap (λ x. w * x) q)

-- a bit below the length is in a chunk of the list
pub index_below : (n k len i : ℕ) → 0 < n → i < len → IsChunkCount n k len → i / (8 * n) < k
index_below n k len i p h c = (div-lt_iff_lt-mul {k = 8 * n} {x = i} {y = k} (omega arith)).1 (grind arith)

-- a number is at least a multiple of w if its quotient by w is
pub below_div : (w len i : ℕ) → len % w ≡ 0 → len / w ≤ i / w → len ≤ i
below_div w len i e h = let d = div-add-mod len w in let f = div-add-mod i w in grind arith

-- the number of chunks with one bit more, or one bit less
pub IsChunkCount-more : (n k len : ℕ) → 0 < n → IsChunkCount n k len → len % (8 * n) ≡ 0 → IsChunkCount n (k + 1) (len + 1)
IsChunkCount-more n k len p c e = let d = div-add-mod len (8 * n) in (grind arith, grind arith)

pub IsChunkCount-same : (n k len : ℕ) → 0 < n → IsChunkCount n k len → (len % (8 * n) ≡ 0 → ⊥) → IsChunkCount n k (len + 1)
IsChunkCount-same n k len p c e = let d = div-add-mod len (8 * n) in (grind arith, grind arith)

-- the last bit is in the last chunk
pub last_within : (n k len : ℕ) → 0 < n → IsChunkCount n k (len + 1) → len / (8 * n) < k
last_within n k len p c = index_below n k (len + 1) len p (omega arith) c

quotient_is : (w q k : ℕ) → 0 < w → w * q < w * k → w * k < w * q + 1 + w → k ≡ q + 1
quotient_is w q k p a b =
    let f : q < k = lt_of_mul-lt-mul_left w a in
    let s : k < q + 2 = lt_of_mul-lt-mul_left w (rw (mul-add w q 2) (omega arith)) in
    omega arith

pub IsChunkCount-fewer : (n k len : ℕ) → 0 < n → IsChunkCount n k (len + 1) → len % (8 * n) ≡ 0
    → (0 < k) × IsChunkCount n (k - 1) len × (len / (8 * n) ≡ k - 1)
IsChunkCount-fewer n k len p c e =
    let d = div-add-mod len (8 * n) in
    let q : k ≡ len / (8 * n) + 1 = quotient_is (8 * n) (len / (8 * n)) k (omega arith) (omega arith) (omega arith) in
    let f : len / (8 * n) ≡ k - 1 = omega arith in
    (omega arith, (rw (← f) (omega arith), rw (← f) (omega arith)), f)

pub IsChunkCount-kept : (n k len : ℕ) → 0 < n → IsChunkCount n k (len + 1) → (len % (8 * n) ≡ 0 → ⊥) → IsChunkCount n k len
IsChunkCount-kept n k len p c e = let d = div-add-mod len (8 * n) in (grind arith, grind arith)

-- full chunks hold as many bits as the length
pub full_len : (n k len : ℕ) → 0 < n → IsChunkCount n k len → len % (8 * n) ≡ 0 → len ≡ 8 * n * k
full_len n k len p c e = let d = div-add-mod len (8 * n) in grind arith

pub IsChunkCount-chunk : (n k len : ℕ) → 0 < n → IsChunkCount n k len → len % (8 * n) ≡ 0 → IsChunkCount n (k + 1) (len + 8 * n)
IsChunkCount-chunk n k len p c e = let f = full_len n k len p c e in let d = mul-add (8 * n) k 1 in (omega arith, omega arith)

-- the number of chunks fits 64 bits if the length does
pub fewer_chunks : (w k j len : ℕ) → w * k < len + w → len ≤ w * j → k ≤ j
fewer_chunks w k j len a b = let s : k < j + 1 = lt_of_mul-lt-mul_left w (rw (mul-add w j 1) (omega arith)) in omega arith

-- a length has exactly one number of chunks
pub count_unique : (n k j len : ℕ) → IsChunkCount n k len → IsChunkCount n j len → k ≡ j
count_unique n k j len a b = omega (arith, fewer_chunks (8 * n) k j len a.1 b.0, fewer_chunks (8 * n) j k len b.1 a.0)

pub IsChunkCount-ceil : (n len : ℕ) → 0 < n → IsChunkCount n (div_ceil len (8 * n)) len
IsChunkCount-ceil n len p =
    let d = div-add-mod len (8 * n) in
    let r = mod_below len (8 * n) (omega arith) in
    elim (cases_eq (len % (8 * n)) 0) [
      | inl e ↦ (let q : div_ceil len (8 * n) ≡ len / (8 * n) = omega arith in (rw q (omega arith), rw q (omega arith)))
      | inr e ↦
          (let q : div_ceil len (8 * n) ≡ len / (8 * n) + 1 = omega arith in
          let m = mul-add (8 * n) (len / (8 * n)) 1 in
          (rw (q, m) (omega arith), rw (q, m) (omega arith)))
    ]

-- the chunks of a length, with those that a greater length needs in addition
pub IsChunkCount-missing : (n k len longer : ℕ) → 0 < n → IsChunkCount n k len → len ≤ longer
    → IsChunkCount n (k + (div_ceil longer (8 * n) - k)) longer
IsChunkCount-missing n k len longer p c h =
    let d = IsChunkCount-ceil n longer p in
    let f : k ≤ div_ceil longer (8 * n) = fewer_chunks (8 * n) k (div_ceil longer (8 * n)) len c.1 (omega (arith, d.0)) in
    let e : k + (div_ceil longer (8 * n) - k) ≡ div_ceil longer (8 * n) = omega arith in
    rw e d

-- if the chunks can hold a length, none is missing
pub none_missing : (n k longer : ℕ) → 0 < n → longer ≤ 8 * n * k → div_ceil longer (8 * n) - k ≡ 0
none_missing n k longer p h = let f = fewer_chunks (8 * n) (div_ceil longer (8 * n)) k longer (IsChunkCount-ceil n longer p).1 h in omega arith

-- a length that grows fills no fewer chunks
pub more_ceil : (n k len total : ℕ) → 0 < n → IsChunkCount n k len → len ≤ total → k ≤ div_ceil total (8 * n)
more_ceil n k len total p c h = fewer_chunks (8 * n) k (div_ceil total (8 * n)) total (omega (arith, c.1)) (IsChunkCount-ceil n total p).0

-- if the last chunk is not full, the next bit is in it
pub open_last : (n k len : ℕ) → 0 < n → IsChunkCount n k len → (len % (8 * n) ≡ 0 → ⊥) → k ≡ len / (8 * n) + 1
open_last n k len p c d =
    let w = last_within n k len p (IsChunkCount-same n k len p c d) in
    let next : len ≤ 8 * n * (len / (8 * n) + 1) =
    rw (mul-add (8 * n) (len / (8 * n)) 1) (omega (arith, div-add-mod len (8 * n), mod_below len (8 * n) (omega arith))) in
    let l = fewer_chunks (8 * n) k (len / (8 * n) + 1) len c.1 next in
    omega arith

pub within_more : (n j k len : ℕ) → len ≤ 8 * n * j → j ≤ k → len ≤ 8 * n * k
within_more n j k len h s = grind arith

pub fewer_ceil : (n k m len : ℕ) → 0 < n → IsChunkCount n k len → m ≤ len → div_ceil m (8 * n) ≤ k
fewer_ceil n k m len p c h = fewer_chunks (8 * n) (div_ceil m (8 * n)) k m (IsChunkCount-ceil n m p).1 (omega (arith, c.0))
