-- Runs of bytes shifted into chunks.
use Rattle.std.proofs.Common.{◌≡◌, ◌⊎◌, ℕ, suc, zero, ◌+◌, ◌-◌, ◌*◌, ◌/◌, ◌%◌, ◌^◌, ◌<◌, ◌≤◌, List, [], ◌∷◌, ◌++◌, length, get_or, set, take, drop, eqb, max, bit_or, bit_and, refl, sym, ap, ◌∙◌, inl, inr, arith}
use Rattle.std.specs.Int.{bit_at}
use Rattle.std.specs.List.{flat_map}
use Rattle.std.proofs.Math.Nat.{div-add-mod, div-div-eq-div-mul, mod-eq_of_lt, mul-add, mul_comm, le-div_iff_mul-le, div-mul-le_self}
use Rattle.std.proofs.Math.Pow.{pow-lt}
use Rattle.std.proofs.lemmas.Nat.{pow-add, pow_pos, mod_below}
use Rattle.std.proofs.lemmas.Nat.Bits.{bit_at_or, bit_at-zero, bit_at_above, bit_at_cat_low, bit_at_cat_high}
use Rattle.std.proofs.lemmas.List.{get_or_append_left, get_or-append_right, get_or-drop, length-drop, take_all, get_or-set_same, get_or-set_other, length-set}
use Rattle.std.proofs.lemmas.Bool.{cases_eq, cases_lt}
use Rattle.bitmap_bytes.specs.Chunk.{chunk_bit, bytes_bit, IsByteJoined}
use Rattle.bitmap_bytes.specs.Bits.{chunks_bit, IsChunkCount}
use Rattle.bitmap_bytes.proofs.Bytes.Bits.{low_bit_below, low_bit_above}
use Rattle.bitmap_bytes.proofs.Chunks.Places.{full_len}
use Rattle.bitmap_bytes.proofs.Chunks.Bits.{mod_parts}
use Rattle.bitmap_bytes.proofs.Chunks.Lists.{chunks_bit-set_here, chunks_bit-push_here}

-- ---- shifted bytes

-- the bits of a number that is shifted down
pub bit_at_shr : (x k i : ℕ) → bit_at (x / 2 ^ k) i ≡ bit_at x (i + k)
bit_at_shr x k i =
    let e : k + i ≡ i + k = omega arith in
    ap (λ y. y % 2) (div-div-eq-div-mul x (2 ^ k) (2 ^ i) ∙ ap (λ w. x / w) (sym (pow-add 2 k i)) ∙ ap (λ m. x / 2 ^ m) e)

-- the bits of a number modulo 2 ^ w
pub bit_at_mod : (w x i : ℕ) → i < w → bit_at (x % 2 ^ w) i ≡ bit_at x i
bit_at_mod w x i h =
    let e : x / 2 ^ w * 2 ^ w + x % 2 ^ w ≡ x = ap (λ y. y + x % 2 ^ w) (mul_comm (x / 2 ^ w) (2 ^ w)) ∙ div-add-mod x (2 ^ w) in
    sym (ap (λ y. bit_at y i) (sym e) ∙ bit_at_cat_low (x / 2 ^ w) w (x % 2 ^ w) i h)

bit_at_shl_low : (w x m i : ℕ) → i < w → i < m → bit_at (x * 2 ^ m % 2 ^ w) i ≡ 0
bit_at_shl_low w x m i s h =
    let e : x * 2 ^ m ≡ x * 2 ^ m + 0 = omega arith in
    bit_at_mod w (x * 2 ^ m) i s ∙ ap (λ y. bit_at y i) e ∙ bit_at_cat_low x m 0 i h ∙ bit_at-zero i

bit_at_shl_high : (w x m i : ℕ) → i < w → m ≤ i → bit_at (x * 2 ^ m % 2 ^ w) i ≡ bit_at x (i - m)
bit_at_shl_high w x m i s h =
    let e : x * 2 ^ m ≡ x * 2 ^ m + 0 = omega arith in
    bit_at_mod w (x * 2 ^ m) i s ∙ ap (λ y. bit_at y i) e ∙ bit_at_cat_high x m 0 i (pow_pos m) h

one_shl : (s : ℕ) → s < 8 → 1 * 2 ^ s % 256 ≡ 2 ^ s
one_shl s h =
    let e : 1 * 2 ^ s ≡ 2 ^ s = omega arith in
    ap (λ x. x % 256) e ∙ mod-eq_of_lt {n = 2 ^ s} {m = 256} (pow-lt {i = s} {j = 8} h)

-- a number of w bits joined from two: the bits of the high one follow those of the low one
pub joined_low : (w low high s t : ℕ) → s < w → t + s < w
    → bit_at (bit_or (low / 2 ^ s) (high * 2 ^ (w - 1 - s) % 2 ^ w * 2 ^ 1 % 2 ^ w)) t ≡ bit_at low (t + s)
joined_low w low high s t h u =
    let o = bit_at_or (low / 2 ^ s) (high * 2 ^ (w - 1 - s) % 2 ^ w * 2 ^ 1 % 2 ^ w) t in
    let l = bit_at_shr low s t in
    let z : bit_at (high * 2 ^ (w - 1 - s) % 2 ^ w * 2 ^ 1 % 2 ^ w) t ≡ 0 = elim (cases_lt t 1) [
      | inl v ↦ bit_at_shl_low w (high * 2 ^ (w - 1 - s) % 2 ^ w) 1 t (omega arith) v
      | inr v ↦
          bit_at_shl_high w (high * 2 ^ (w - 1 - s) % 2 ^ w) 1 t (omega arith) v
          ∙ bit_at_shl_low w high (w - 1 - s) (t - 1) (omega arith) (omega arith)
    ] in
    o ∙ ap (λ x. max (bit_at (low / 2 ^ s) t) x) z ∙ omega arith

pub joined_high : (w low high s t : ℕ) → low < 2 ^ w → s < w → t < w → w ≤ t + s
    → bit_at (bit_or (low / 2 ^ s) (high * 2 ^ (w - 1 - s) % 2 ^ w * 2 ^ 1 % 2 ^ w)) t ≡ bit_at high (t + s - w)
joined_high w low high s t b h u v =
    let o = bit_at_or (low / 2 ^ s) (high * 2 ^ (w - 1 - s) % 2 ^ w * 2 ^ 1 % 2 ^ w) t in
    let l : bit_at (low / 2 ^ s) t ≡ 0 = bit_at_shr low s t ∙ bit_at_above low w (t + s) b v in
    let e : t - 1 - (w - 1 - s) ≡ t + s - w = omega arith in
    let z : bit_at (high * 2 ^ (w - 1 - s) % 2 ^ w * 2 ^ 1 % 2 ^ w) t ≡ bit_at high (t + s - w) =
    bit_at_shl_high w (high * 2 ^ (w - 1 - s) % 2 ^ w) 1 t u (omega arith)
    ∙ bit_at_shl_high w high (w - 1 - s) (t - 1) (omega arith) (omega arith)
    ∙ ap (λ i. bit_at high i) e in
    o ∙ ap (λ x. max (bit_at (low / 2 ^ s) t) x) z ∙ ap (λ x. max x (bit_at high (t + s - w))) l ∙ omega arith

-- a byte of the number that two bytes are joined to
pub joined_pair_low : (low high s t : ℕ) → s < 8 → t + s < 8 → bit_at (bit_or low (high * 2 ^ 8 % 2 ^ 16) / 2 ^ s % 2 ^ 8) t ≡ bit_at low (t + s)
joined_pair_low low high s t h u =
    let p : ℕ = bit_or low (high * 2 ^ 8 % 2 ^ 16) in
    let z = bit_at_shl_low 16 high 8 (t + s) (omega arith) u in
    bit_at_mod 8 (p / 2 ^ s) t (omega arith)
    ∙ bit_at_shr p s t
    ∙ bit_at_or low (high * 2 ^ 8 % 2 ^ 16) (t + s)
    ∙ ap (λ x. max (bit_at low (t + s)) x) z
    ∙ omega arith

pub joined_pair_high : (low high s t : ℕ) → low < 2 ^ 8 → s < 8 → t < 8 → 8 ≤ t + s
    → bit_at (bit_or low (high * 2 ^ 8 % 2 ^ 16) / 2 ^ s % 2 ^ 8) t ≡ bit_at high (t + s - 8)
joined_pair_high low high s t b h u v =
    let p : ℕ = bit_or low (high * 2 ^ 8 % 2 ^ 16) in
    let l = bit_at_above low 8 (t + s) b v in
    let z = bit_at_shl_high 16 high 8 (t + s) (omega arith) v in
    bit_at_mod 8 (p / 2 ^ s) t u
    ∙ bit_at_shr p s t
    ∙ bit_at_or low (high * 2 ^ 8 % 2 ^ 16) (t + s)
    ∙ ap (λ x. max (bit_at low (t + s)) x) z
    ∙ ap (λ x. max x (bit_at high (t + s - 8))) l
    ∙ omega arith

-- a byte whose low bits are kept and whose other bits are those of the next byte
pub opened_low : (kept next s t : ℕ) → s < 8 → t < s → bit_at (bit_or (bit_and kept (1 * 2 ^ s % 256 - 1)) (next * 2 ^ s % 256)) t ≡ bit_at kept t
opened_low kept next s t h w =
    let o = bit_at_or (bit_and kept (2 ^ s - 1)) (next * 2 ^ s % 256) t in
    let l = low_bit_below kept s t w in
    let z = bit_at_shl_low 8 next s t (omega arith) w in
    ap (λ m. bit_at (bit_or (bit_and kept (m - 1)) (next * 2 ^ s % 256)) t) (one_shl s h) ∙ omega arith

pub opened_high : (kept next s t : ℕ) → s < 8 → t < 8 → s ≤ t
    → bit_at (bit_or (bit_and kept (1 * 2 ^ s % 256 - 1)) (next * 2 ^ s % 256)) t ≡ bit_at next (t - s)
opened_high kept next s t u h w =
    let o = bit_at_or (bit_and kept (2 ^ s - 1)) (next * 2 ^ s % 256) t in
    let l = low_bit_above kept s t w in
    let z = bit_at_shl_high 8 next s t h w in
    ap (λ m. bit_at (bit_or (bit_and kept (m - 1)) (next * 2 ^ s % 256)) t) (one_shl s u) ∙ omega arith

-- ---- bits of a run of bytes

-- bit t of a byte joined from bytes at and at + 1 of a run
pub joined_bit : (run : List ℕ) (at s b t : ℕ) → s < 8 → t < 8 → (t + s < 8 → bit_at b t ≡ bit_at (get_or run at 0) (t + s))
    → (8 ≤ t + s → bit_at b t ≡ bit_at (get_or run (at + 1) 0) (t + s - 8))
    → eqb (bit_at b t) 1 ≡ bytes_bit run (8 * at + s + t)
joined_bit run at s b t h w low high = elim (cases_lt (t + s) 8) [
  | inl u ↦
      let q : at ≡ (8 * at + s + t) / 8 = omega arith in
      let r : t + s ≡ (8 * at + s + t) % 8 = omega arith in
      ap (λ x. eqb x 1) (low u)
      ∙ ap (λ k. eqb (bit_at (get_or run k 0) (t + s)) 1) q
      ∙ ap (λ k. eqb (bit_at (get_or run ((8 * at + s + t) / 8) 0) k) 1) r
  | inr u ↦
      let q : at + 1 ≡ (8 * at + s + t) / 8 = omega arith in
      let r : t + s - 8 ≡ (8 * at + s + t) % 8 = omega arith in
      ap (λ x. eqb x 1) (high u)
      ∙ ap (λ k. eqb (bit_at (get_or run k 0) (t + s - 8)) 1) q
      ∙ ap (λ k. eqb (bit_at (get_or run ((8 * at + s + t) / 8) 0) k) 1) r
]

-- the bits of a run from byte at on
pub bytes_bit-rest : (run : List ℕ) (at i : ℕ) → bytes_bit (take (length run - at) (drop at run)) i ≡ bytes_bit run (8 * at + i)
bytes_bit-rest run at i =
    let q : at + i / 8 ≡ (8 * at + i) / 8 = omega arith in
    let r : i % 8 ≡ (8 * at + i) % 8 = omega arith in
    ap (λ l. bytes_bit l i) (take_all (length run - at) (drop at run) (omega (arith, length-drop {A = ℕ} at run)))
    ∙ ap (λ x. eqb (bit_at x (i % 8)) 1) (get_or-drop at run (i / 8) 0)
    ∙ ap (λ k. eqb (bit_at (get_or run k 0) (i % 8)) 1) q
    ∙ ap (λ k. eqb (bit_at (get_or run ((8 * at + i) / 8) 0) k) 1) r

-- the bits of two runs, one after the other
pub bytes_bit-left : (front back : List ℕ) (i : ℕ) → i / 8 < length front → bytes_bit (front ++ back) i ≡ bytes_bit front i
bytes_bit-left front back i h = ap (λ x. eqb (bit_at x (i % 8)) 1) (get_or_append_left front back 0 (i / 8) h)

pub bytes_bit-right : (front back : List ℕ) (i : ℕ) → bytes_bit (front ++ back) (8 * length front + i) ≡ bytes_bit back i
bytes_bit-right front back i =
    let q : (8 * length front + i) / 8 - length front ≡ i / 8 = omega arith in
    let r : (8 * length front + i) % 8 ≡ i % 8 = omega arith in
    let past = get_or-append_right front back (length front) ((8 * length front + i) / 8) 0 refl (omega arith) in
    ap (λ x. eqb (bit_at x ((8 * length front + i) % 8)) 1) (past ∙ ap (λ k. get_or back k 0) q)
    ∙ ap (λ k. eqb (bit_at (get_or back (i / 8) 0) k) 1) r

-- ---- chunks filled from a run

-- a chunk whose first bytes are kept, and whose other bytes are filled from a run
pub filled_bits : (n from bit : ℕ) (run chunk : List ℕ) → 0 < n
    → ((k t : ℕ) → from ≤ k → k < n → t < 8 → eqb (bit_at (get_or chunk k 0) t) 1 ≡ bytes_bit run (bit + (8 * (k - from) + t)))
    → (i : ℕ) → 8 * from ≤ i % (8 * n)
    → chunk_bit n chunk i ≡ bytes_bit run (bit + (i % (8 * n) - 8 * from))
filled_bits n from bit run chunk p h i w =
    let m = mod_parts n i p in
    let r : i % 8 < 8 = mod_below i 8 (omega arith) in
    let e : bit + (8 * (i / 8 % n - from) + i % 8) ≡ bit + (i % (8 * n) - 8 * from) = omega arith in
    h (i / 8 % n) (i % 8) (omega arith) (mod_below (i / 8) n p) r ∙ ap (bytes_bit run) e

pub kept_bits : (n from : ℕ) (old new : List ℕ) → 0 < n → ((k : ℕ) → k < from → get_or new k 0 ≡ get_or old k 0) → (i : ℕ)
    → i % (8 * n) < 8 * from
    → chunk_bit n new i ≡ chunk_bit n old i
kept_bits n from old new p h i w = let m = mod_parts n i p in ap (λ x. eqb (bit_at x (i % 8)) 1) (h (i / 8 % n) (omega arith))

-- the byte that is partly used, and the bytes after it
pub opened_kept : (n len : ℕ) (old mid new : List ℕ) (b : ℕ) → 0 < n → length old ≡ n → mid ≡ set old (len / 8 % n) b
    → ((t : ℕ) → t < len % 8 → bit_at b t ≡ bit_at (get_or old (len / 8 % n) 0) t)
    → ((i : ℕ) → i % (8 * n) < 8 * (len / 8 % n + 1) → chunk_bit n new i ≡ chunk_bit n mid i) → (i : ℕ)
    → i % (8 * n) < len % (8 * n)
    → chunk_bit n new i ≡ chunk_bit n old i
opened_kept n len old mid new b p l e low kept i h =
    let m = mod_parts n i p in
    let d = mod_parts n len p in
    let r : len % 8 < 8 = mod_below len 8 (omega arith) in
    let w : len / 8 % n < n = mod_below (len / 8) n p in
    kept i (omega arith) ∙ ap (λ c. chunk_bit n c i) e ∙ elim (cases_eq (i / 8 % n) (len / 8 % n)) [
      | inl q ↦
          ap (λ x. eqb (bit_at x (i % 8)) 1) (ap (λ k. get_or (set old (len / 8 % n) b) k 0) q ∙ get_or-set_same old (len / 8 % n) b 0 (omega arith))
          ∙ ap (λ x. eqb x 1) (low (i % 8) (omega arith))
          ∙ ap (λ k. eqb (bit_at (get_or old k 0) (i % 8)) 1) (sym q)
      | inr q ↦ ap (λ x. eqb (bit_at x (i % 8)) 1) (get_or-set_other old (len / 8 % n) (i / 8 % n) b 0 q)
    ]

pub opened_joined : (n len : ℕ) (run old mid new : List ℕ) (b : ℕ) → 0 < n → length old ≡ n → mid ≡ set old (len / 8 % n) b
    → ((t : ℕ) → t < 8 → len % 8 ≤ t → bit_at b t ≡ bit_at (get_or run 0 0) (t - len % 8))
    → ((i : ℕ) → i % (8 * n) < 8 * (len / 8 % n + 1) → chunk_bit n new i ≡ chunk_bit n mid i)
    → ((i : ℕ) → 8 * (len / 8 % n + 1) ≤ i % (8 * n) → chunk_bit n new i ≡ bytes_bit run (8 - len % 8 + (i % (8 * n) - 8 * (len / 8 % n + 1))))
    → (i : ℕ) → len % (8 * n) ≤ i % (8 * n)
    → chunk_bit n new i ≡ bytes_bit run (i % (8 * n) - len % (8 * n))
opened_joined n len run old mid new b p l e high kept filled i h =
    let m = mod_parts n i p in
    let d = mod_parts n len p in
    let r : len % 8 < 8 = mod_below len 8 (omega arith) in
    let s : i % 8 < 8 = mod_below i 8 (omega arith) in
    let w : len / 8 % n < n = mod_below (len / 8) n p in
    elim (cases_lt (i % (8 * n)) (8 * (len / 8 % n + 1))) [
      | inl u ↦
          let q : i / 8 % n ≡ len / 8 % n = omega arith in
          let z : 0 ≡ (i % (8 * n) - len % (8 * n)) / 8 = omega arith in
          let y : i % 8 - len % 8 ≡ (i % (8 * n) - len % (8 * n)) % 8 = omega arith in
          kept i u
          ∙ ap (λ c. chunk_bit n c i) e
          ∙ ap (λ x. eqb (bit_at x (i % 8)) 1)
          (ap (λ k. get_or (set old (len / 8 % n) b) k 0) q ∙ get_or-set_same old (len / 8 % n) b 0 (omega arith))
          ∙ ap (λ x. eqb x 1) (high (i % 8) s (omega arith))
          ∙ ap (λ k. eqb (bit_at (get_or run 0 0) k) 1) y
          ∙ ap (λ k. eqb (bit_at (get_or run k 0) ((i % (8 * n) - len % (8 * n)) % 8)) 1) z
      | inr u ↦
          let y : 8 - len % 8 + (i % (8 * n) - 8 * (len / 8 % n + 1)) ≡ i % (8 * n) - len % (8 * n) = omega arith in
          filled i u ∙ ap (bytes_bit run) y
    ]

-- ---- a byte joined to a chunk

-- the byte of bit i keeps its low bits and gets those of the new byte; the next byte gets the others and keeps its high bits
module _ (n i byte : ℕ) (old new : List ℕ) (pos : 0 < n) (space : i % (8 * n) + 8 ≤ 8 * n)
    (low : (t : ℕ) → t < i % 8 → bit_at (get_or new (i / 8 % n) 0) t ≡ bit_at (get_or old (i / 8 % n) 0) t)
    (begun : (t : ℕ) → t < 8 → i % 8 ≤ t → bit_at (get_or new (i / 8 % n) 0) t ≡ bit_at byte (t - i % 8))
    (ended : (t : ℕ) → t < i % 8 → bit_at (get_or new (i / 8 % n + 1) 0) t ≡ bit_at byte (t + (8 - i % 8)))
    (high : (t : ℕ) → t < 8 → i % 8 ≤ t → bit_at (get_or new (i / 8 % n + 1) 0) t ≡ bit_at (get_or old (i / 8 % n + 1) 0) t)
    (rest : (k : ℕ) → (k ≡ i / 8 % n → ⊥) → (k ≡ i / 8 % n + 1 → ⊥) → get_or new k 0 ≡ get_or old k 0) where
  joined_here_at : (j : ℕ) → i % (8 * n) ≤ j % (8 * n) → j % (8 * n) < i % (8 * n) + 8 → chunk_bit n new j ≡ eqb (bit_at byte (j % (8 * n) - i % (8 * n))) 1
  joined_here_at j from to =
      let m = mod_parts n j pos in
      let d = mod_parts n i pos in
      let s : j % 8 < 8 = mod_below j 8 (omega arith) in
      let r : i % 8 < 8 = mod_below i 8 (omega arith) in
      elim (cases_eq (j / 8 % n) (i / 8 % n)) [
        | inl q ↦
            let y : j % 8 - i % 8 ≡ j % (8 * n) - i % (8 * n) = omega arith in
            ap (λ k. eqb (bit_at (get_or new k 0) (j % 8)) 1) q ∙ ap (λ x. eqb x 1) (begun (j % 8) s (omega arith)) ∙ ap (λ t. eqb (bit_at byte t) 1) y
        | inr ne ↦
            let q : j / 8 % n ≡ i / 8 % n + 1 = omega arith in
            let y : j % 8 + (8 - i % 8) ≡ j % (8 * n) - i % (8 * n) = omega arith in
            ap (λ k. eqb (bit_at (get_or new k 0) (j % 8)) 1) q ∙ ap (λ x. eqb x 1) (ended (j % 8) (omega arith)) ∙ ap (λ t. eqb (bit_at byte t) 1) y
      ]

  joined_elsewhere : (j : ℕ) → (j % (8 * n) < i % (8 * n)) ⊎ (i % (8 * n) + 8 ≤ j % (8 * n)) → chunk_bit n new j ≡ chunk_bit n old j
  joined_elsewhere j side =
      let m = mod_parts n j pos in
      let d = mod_parts n i pos in
      let s : j % 8 < 8 = mod_below j 8 (omega arith) in
      let r : i % 8 < 8 = mod_below i 8 (omega arith) in
      elim (cases_eq (j / 8 % n) (i / 8 % n)) [
        | inl q ↦
            let below : j % 8 < i % 8 = elim side [ inl h ↦ omega (arith, h, m, d, q, s, r) | inr h ↦ absurd (omega (arith, h, m, d, q, s, r)) ] in
            ap (λ k. eqb (bit_at (get_or new k 0) (j % 8)) 1) q ∙ ap (λ x. eqb x 1) (low (j % 8) below) ∙ ap (λ k. eqb (bit_at (get_or old k 0) (j % 8)) 1) (sym q)
        | inr ne ↦ elim (cases_eq (j / 8 % n) (i / 8 % n + 1)) [
          | inl q ↦
              let above : i % 8 ≤ j % 8 = elim side [ inl h ↦ absurd (omega (arith, h, m, d, q, s, r)) | inr h ↦ omega (arith, h, m, d, q, s, r) ] in
              ap (λ k. eqb (bit_at (get_or new k 0) (j % 8)) 1) q ∙ ap (λ x. eqb x 1) (high (j % 8) s above) ∙ ap (λ k. eqb (bit_at (get_or old k 0) (j % 8)) 1) (sym q)
          | inr nx ↦ ap (λ x. eqb (bit_at x (j % 8)) 1) (rest (j / 8 % n) ne nx)
        ]
      ]

  pub byte_joined : IsByteJoined n old new i byte
  byte_joined = record { here = joined_here_at; others = joined_elsewhere }

-- if the new byte extends into the next byte of the chunk, there is one
pub next_byte : (n i : ℕ) → 0 < n → i % (8 * n) + 8 ≤ 8 * n → 0 < i % 8 → i / 8 % n + 1 < n
next_byte n i pos space h = omega (arith, mod_parts n i pos)

module _ (n i byte : ℕ) (old : List ℕ) (a : ℕ) (pos : 0 < n) (size : length old ≡ n) (space : i % (8 * n) + 8 ≤ 8 * n)
    (low : (t : ℕ) → t < i % 8 → bit_at a t ≡ bit_at (get_or old (i / 8 % n) 0) t)
    (high : (t : ℕ) → t < 8 → i % 8 ≤ t → bit_at a t ≡ bit_at byte (t - i % 8)) where
  within : i / 8 % n < length old
  within = omega (arith, size, mod_below (i / 8) n pos)

  at_byte : get_or (set old (i / 8 % n) a) (i / 8 % n) 0 ≡ a
  at_byte = get_or-set_same old (i / 8 % n) a 0 within

  -- at a multiple of 8 the new byte replaces a whole byte
  pub joins_one : i % 8 ≡ 0 → IsByteJoined n old (set old (i / 8 % n) a) i byte
  joins_one even = byte_joined n i byte old (set old (i / 8 % n) a) pos space
      (λ t h. ap (λ x. bit_at x t) at_byte ∙ low t h)
      (λ t h w. ap (λ x. bit_at x t) at_byte ∙ high t h w)
      (λ t h. absurd (omega (arith, h, even)))
      (λ t h w. ap (λ x. bit_at x t) (get_or-set_other old (i / 8 % n) (i / 8 % n + 1) a 0 (λ e. omega (arith, e))))
      (λ k ne nx. get_or-set_other old (i / 8 % n) k a 0 ne)

  -- otherwise the next byte gets the rest of it
  pub joins_two : (c : ℕ) → 0 < i % 8
      → ((t : ℕ) → t + (8 - i % 8) < 8 → bit_at c t ≡ bit_at byte (t + (8 - i % 8)))
      → ((t : ℕ) → t < 8 → 8 ≤ t + (8 - i % 8) → bit_at c t ≡ bit_at (get_or (set old (i / 8 % n) a) (i / 8 % n + 1) 0 / 2 ^ (i % 8)) (t + (8 - i % 8) - 8))
      → IsByteJoined n old (set (set old (i / 8 % n) a) (i / 8 % n + 1) c) i byte
  joins_two c some next kept =
      let mid = set old (i / 8 % n) a in
      let other : get_or (set mid (i / 8 % n + 1) c) (i / 8 % n) 0 ≡ a = get_or-set_other mid (i / 8 % n + 1) (i / 8 % n) c 0 (λ e. omega (arith, e)) ∙ at_byte in
      let unchanged : get_or mid (i / 8 % n + 1) 0 ≡ get_or old (i / 8 % n + 1) 0 = get_or-set_other old (i / 8 % n) (i / 8 % n + 1) a 0 (λ e. omega (arith, e)) in
      let same : get_or (set mid (i / 8 % n + 1) c) (i / 8 % n + 1) 0 ≡ c = get_or-set_same mid (i / 8 % n + 1) c 0 (omega (arith, length-set old (i / 8 % n) a, size, next_byte n i pos space some)) in
      byte_joined n i byte old (set mid (i / 8 % n + 1) c) pos space
      (λ t h. ap (λ x. bit_at x t) other ∙ low t h)
      (λ t h w. ap (λ x. bit_at x t) other ∙ high t h w)
      (λ t h. ap (λ x. bit_at x t) same ∙ next t (omega arith))
      (λ t h w. ap (λ x. bit_at x t) same ∙ kept t h (omega arith) ∙ ap (λ x. bit_at (x / 2 ^ (i % 8)) (t + (8 - i % 8) - 8)) unchanged ∙ bit_at_shr (get_or old (i / 8 % n + 1) 0) (i % 8) (t + (8 - i % 8) - 8) ∙ ap (λ y. bit_at (get_or old (i / 8 % n + 1) 0) y) (omega (arith, w, some, mod_below i 8 (omega arith))))
      (λ k ne nx. get_or-set_other mid (i / 8 % n + 1) k c 0 nx ∙ get_or-set_other old (i / 8 % n) k a 0 ne)

-- ---- chunks of a deque, the first written in part

-- the chunk that was partly used continues with the run
pub joined_here : (n : ℕ) (xs : List (List ℕ)) (len : ℕ) (run new : List ℕ) → 0 < n → len / (8 * n) < length xs
    → ((i : ℕ) → len % (8 * n) ≤ i % (8 * n) → chunk_bit n new i ≡ bytes_bit run (i % (8 * n) - len % (8 * n))) → (i : ℕ) → len ≤ i
    → i / (8 * n) < len / (8 * n) + 1
    → chunks_bit n (set xs (len / (8 * n)) new) i ≡ bytes_bit run (i - len)
joined_here n xs len run new p w joined i h s =
    let d = div-add-mod len (8 * n) in
    let f = div-add-mod i (8 * n) in
    let start : len / (8 * n) * (8 * n) ≤ i = omega (arith, div-mul-le_self len (8 * n)) in
    let up : len / (8 * n) ≤ i / (8 * n) = (le-div_iff_mul-le {k = 8 * n} {x = len / (8 * n)} {y = i} (omega arith)).1 start in
    let q : i / (8 * n) ≡ len / (8 * n) = omega arith in
    let m = ap (λ x. 8 * n * x) q in
    let e : i % (8 * n) - len % (8 * n) ≡ i - len = omega arith in
    chunks_bit-set_here n xs (len / (8 * n)) new i w q ∙ joined i (omega arith) ∙ ap (bytes_bit run) e

-- if no chunk is partly used, the chunks have no bit past the length
pub joined_full : (n : ℕ) (xs : List (List ℕ)) (len : ℕ) (run : List ℕ) → 0 < n → IsChunkCount n (length xs) len
    → len % (8 * n) ≡ 0 → (i : ℕ) → len ≤ i → i / (8 * n) < length xs
    → chunks_bit n xs i ≡ bytes_bit run (i - len)
joined_full n xs len run p c e i h s =
    let f = full_len n (length xs) len p c e in
    let up : length xs ≤ i / (8 * n) = (le-div_iff_mul-le {k = 8 * n} {x = length xs} {y = i} (omega arith)).1 (grind arith) in
    absurd (omega arith)

-- a whole chunk of the run is appended
pub pushed_here : (n : ℕ) (xs : List (List ℕ)) (len : ℕ) (run new : List ℕ) → len ≤ 8 * n * length xs
    → ((i : ℕ) → chunk_bit n new i ≡ bytes_bit run (8 * n * length xs - len + i % (8 * n))) → (i : ℕ) → i / (8 * n) ≡ length xs
    → chunks_bit n (xs ++ new ∷ []) i ≡ bytes_bit run (i - len)
pushed_here n xs len run new w filled i e =
    let f = div-add-mod i (8 * n) in
    let m = ap (λ x. 8 * n * x) e in
    let g : 8 * n * length xs - len + i % (8 * n) ≡ i - len = omega arith in
    chunks_bit-push_here n xs new i e ∙ filled i ∙ ap (bytes_bit run) g

-- ---- chunks as a run of bytes

-- each chunk has n bytes
abbrev AreWide : ℕ → List (List ℕ) → Type 0
AreWide n xs = (i : ℕ) → i < length xs → length (get_or xs i []) ≡ n

flat_at : (n : ℕ) (xs : List (List ℕ)) → AreWide n xs → (c j : ℕ) → j < n → get_or (flat_map (λ x. x) xs) (n * c + j) 0 ≡ get_or (get_or xs c []) j 0
flat_at n [] h c j w = refl
flat_at n (x ∷ xs) h zero j w =
    let e : n * 0 + j ≡ j = omega arith in
    ap (λ m. get_or (x ++ flat_map (λ x. x) xs) m 0) e ∙ get_or_append_left x (flat_map (λ x. x) xs) 0 j (omega (arith, h 0 (omega arith)))
flat_at n (x ∷ xs) h (suc c) j w =
    let l : length x ≡ n = h 0 (omega arith) in
    let m = mul-add n c 1 in
    let e : n * suc c + j - length x ≡ n * c + j = omega arith in
    get_or-append_right x (flat_map (λ x. x) xs) (length x) (n * suc c + j) 0 refl (omega arith)
    ∙ ap (λ k. get_or (flat_map (λ x. x) xs) k 0) e
    ∙ flat_at n xs (λ i s. h (suc i) (omega arith)) c j w

-- a bit of the run is the bit of its chunk
pub bytes_bit-flat : (n : ℕ) (xs : List (List ℕ)) → 0 < n → AreWide n xs → (i : ℕ) → bytes_bit (flat_map (λ x. x) xs) i ≡ chunks_bit n xs i
bytes_bit-flat n xs p h i =
    let d : i / 8 ≡ n * (i / 8 / n) + i / 8 % n = sym (div-add-mod (i / 8) n) in
    let q : i / 8 / n ≡ i / (8 * n) = div-div-eq-div-mul i 8 n in
    let at : get_or (flat_map (λ x. x) xs) (i / 8) 0 ≡ get_or (get_or xs (i / (8 * n)) []) (i / 8 % n) 0 =
    ap (λ k. get_or (flat_map (λ x. x) xs) k 0) d
    ∙ flat_at n xs h (i / 8 / n) (i / 8 % n) (mod_below (i / 8) n p)
    ∙ ap (λ c. get_or (get_or xs c []) (i / 8 % n) 0) q in
    ap (λ x. eqb (bit_at x (i % 8)) 1) at
