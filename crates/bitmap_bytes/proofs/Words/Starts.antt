-- Where the words of a chunk begin.
use Rattle.std.proofs.Common.{◌≡◌, ℕ, ◌+◌, ◌-◌, ◌*◌, ◌/◌, ◌%◌, ◌<◌, ◌≤◌, ◌⊎◌, inl, inr, ⊎_elim, true, false, refl, arith, ap, ◌∙◌}
use Rattle.std.proofs.lemmas.Bool.{eqb-true, eq-eqb, ne_eqb, cases_lt, lt-ltb, le-ltb}
use Rattle.std.proofs.lemmas.Nat.{div-add-mod', mod-mul-add, mod_below}
use Rattle.std.proofs.Math.Nat.{mul-le-mul_left}
use Rattle.std.proofs.Math.Arith.{digits_div}
use Rattle.bitmap_bytes.specs.Words.{starts_word, next_word, word_start}

pub start_aligned : (n k : ℕ) → starts_word n k ≡ true → (k % (8 * n)) % 64 ≡ 0
start_aligned n k h = eqb-true ((k % (8 * n)) % 64) 0 h

-- a word begins with a byte
pub start_bytes : (n k : ℕ) → starts_word n k ≡ true → 8 * (k % (8 * n) / 8) ≡ k % (8 * n)
start_bytes n k h = let e = start_aligned n k h in omega arith

-- ---- the word after one that begins at k

-- the next word is in the chunk of k
pub record Stays (w k next : ℕ) : Type 0 where
  pub space : k % w + 64 < w
  pub is : next ≡ k + 64
  pub within : next % w ≡ k % w + 64
  pub chunk : next / w ≡ k / w

-- the next word begins the next chunk
pub record Leaves (w k next : ℕ) : Type 0 where
  pub space : w ≤ k % w + 64
  pub is : next ≡ k + (w - k % w)
  pub within : next % w ≡ 0
  pub chunk : next / w ≡ k / w + 1

stays : (w k : ℕ) → 0 < w → k % w + 64 < w → Stays w k (k + 64)
stays w k p h =
    let e : k + 64 ≡ k / w * w + (k % w + 64) = omega (arith, div-add-mod' k w) in
    record { space = h; is = refl; within = rw e (mod-mul-add (k / w) w (k % w + 64) h); chunk = rw e (digits_div (k / w) h) }

leaves : (w k : ℕ) → 0 < w → w ≤ k % w + 64 → Leaves w k (k + (w - k % w))
leaves w k p h =
    let e : k + (w - k % w) ≡ (k / w + 1) * w + 0 = omega (arith, div-add-mod' k w, mod_below k w p) in
    record { space = h; is = refl; within = rw e (mod-mul-add (k / w + 1) w 0 p); chunk = rw e (digits_div (k / w + 1) p) }

pub next_cases : (n k : ℕ) → 0 < n → Stays (8 * n) k (next_word n k) ⊎ Leaves (8 * n) k (next_word n k)
next_cases n k p =
    ⊎_elim
    (λ (lt : k % (8 * n) + 64 < 8 * n). let e = lt-ltb (k % (8 * n) + 64) (8 * n) lt in inl (rw e (stays (8 * n) k (omega arith) lt)))
    (λ (ge : 8 * n ≤ k % (8 * n) + 64). let e = le-ltb (k % (8 * n) + 64) (8 * n) ge in inr (rw e (leaves (8 * n) k (omega arith) ge)))
    (cases_lt (k % (8 * n) + 64) (8 * n))

-- the next word begins at a greater position
pub end_near : (n k : ℕ) → 0 < n → k < next_word n k
end_near n k p =
    ⊎_elim
    (λ (s : Stays (8 * n) k (next_word n k)). let r = s.is in omega arith)
    (λ (s : Leaves (8 * n) k (next_word n k)). let r = s.is in let b = mod_below k (8 * n) (omega arith) in omega arith)
    (next_cases n k p)

-- the consequences in both cases
pub record Follows (n k next : ℕ) : Type 0 where
  pub after : k < next
  pub near : next ≤ k + 64
  pub in_chunk : next + k % (8 * n) ≤ k + 8 * n
  pub starts : starts_word n next ≡ true
  -- if the next word begins inside the 64 bits of this one, the chunk ends there
  pub past : (i : ℕ) → i < 64 → next ≤ k + i → 8 * n ≤ k % (8 * n) + i

pub follows : (n k : ℕ) → 0 < n → starts_word n k ≡ true → Follows n k (next_word n k)
follows n k p h =
    let a = start_aligned n k h in
    let b : k % (8 * n) < 8 * n = mod_below k (8 * n) (omega arith) in
    ⊎_elim
    (λ (s : Stays (8 * n) k (next_word n k)). record {
      after = let r = s.is in omega arith;
      near = let r = s.is in omega arith;
      in_chunk = let r = s.is in let t = s.space in omega arith;
      starts = eq-eqb (next_word n k % (8 * n) % 64) 0 (rw s.within (omega arith));
      past = λ i l m. let r = s.is in omega arith;
    })
    (λ (s : Leaves (8 * n) k (next_word n k)). record {
      after = let r = s.is in omega arith;
      near = let r = s.is in let t = s.space in omega arith;
      in_chunk = let r = s.is in omega arith;
      starts = eq-eqb (next_word n k % (8 * n) % 64) 0 (rw s.within refl);
      past = λ i l m. let r = s.is in omega arith;
    })
    (next_cases n k p)

-- no word begins inside the word that begins at k
pub inside_none : (n k next i : ℕ) → starts_word n k ≡ true → Follows n k next → k < i → i < next → starts_word n i ≡ false
inside_none n k next i h f a b =
    let s = start_aligned n k h in
    let near = f.near in
    let space = f.in_chunk in
    let e : i ≡ k / (8 * n) * (8 * n) + (k % (8 * n) + (i - k)) = omega (arith, div-add-mod' k (8 * n)) in
    let d : i % (8 * n) ≡ k % (8 * n) + (i - k) =
    ap (λ (x : ℕ). x % (8 * n)) e
    ∙ mod-mul-add (k / (8 * n)) (8 * n) (k % (8 * n) + (i - k)) (omega arith) in
    ne_eqb (i % (8 * n) % 64) 0 (rw d (λ z. omega arith))

-- ---- the word of a position

-- where the word of a position begins
pub start_of : (n k : ℕ) → 0 < n → starts_word n (word_start n k) ≡ true
start_of n k p =
    let w : ℕ = 8 * n in
    let r : ℕ = k % (8 * n) in
    let b : k % (8 * n) < 8 * n = mod_below k (8 * n) (omega arith) in
    let c : k % (8 * n) - k % (8 * n) % 64 < 8 * n = omega arith in
    let e : word_start n k ≡ k / (8 * n) * (8 * n) + (k % (8 * n) - k % (8 * n) % 64) = omega (arith, div-add-mod' k (8 * n)) in
    let d : word_start n k % (8 * n) ≡ k % (8 * n) - k % (8 * n) % 64 =
    ap (λ (x : ℕ). x % (8 * n)) e
    ∙ mod-mul-add (k / (8 * n)) (8 * n) (k % (8 * n) - k % (8 * n) % 64) c in
    eq-eqb (word_start n k % (8 * n) % 64) 0 (rw d (omega arith))

pub start_chunk : (n k : ℕ) → 0 < n → word_start n k / (8 * n) ≡ k / (8 * n)
start_chunk n k p =
    let b : k % (8 * n) < 8 * n = mod_below k (8 * n) (omega arith) in
    let c : k % (8 * n) - k % (8 * n) % 64 < 8 * n = omega arith in
    let e : word_start n k ≡ k / (8 * n) * (8 * n) + (k % (8 * n) - k % (8 * n) % 64) = omega (arith, div-add-mod' k (8 * n)) in
    ap (λ (x : ℕ). x / (8 * n)) e ∙ digits_div (k / (8 * n)) c

start_within : (n k : ℕ) → 0 < n → word_start n k % (8 * n) ≡ k % (8 * n) - k % (8 * n) % 64
start_within n k p =
    let b : k % (8 * n) < 8 * n = mod_below k (8 * n) (omega arith) in
    let c : k % (8 * n) - k % (8 * n) % 64 < 8 * n = omega arith in
    let e : word_start n k ≡ k / (8 * n) * (8 * n) + (k % (8 * n) - k % (8 * n) % 64) = omega (arith, div-add-mod' k (8 * n)) in
    ap (λ (x : ℕ). x % (8 * n)) e ∙ mod-mul-add (k / (8 * n)) (8 * n) (k % (8 * n) - k % (8 * n) % 64) c

pub start_near : (n k : ℕ) → 0 < n → k < next_word n (word_start n k)
start_near n k p =
    let b : k % (8 * n) < 8 * n = mod_below k (8 * n) (omega arith) in
    let d : word_start n k % (8 * n) ≡ k % (8 * n) - k % (8 * n) % 64 = start_within n k p in
    let l : k % (8 * n) ≤ k = omega (arith, div-add-mod' k (8 * n)) in
    ⊎_elim
    (λ (s : Stays (8 * n) (word_start n k) (next_word n (word_start n k))). let r = s.is in omega arith)
    (λ (s : Leaves (8 * n) (word_start n k) (next_word n (word_start n k))). let r = s.is in omega arith)
    (next_cases n (word_start n k) p)

-- a retained position has a word in a retained chunk
pub retained_start : (n p k : ℕ) → 0 < n → 8 * n * p ≤ k → 8 * n * p ≤ word_start n k
retained_start n p k h l =
    let b : k % (8 * n) < 8 * n = mod_below k (8 * n) (omega arith) in
    let e : k / (8 * n) * (8 * n) + k % (8 * n) ≡ k = div-add-mod' k (8 * n) in
    ⊎_elim
    (λ (lt : k / (8 * n) < p). let f : 8 * n * (k / (8 * n) + 1) ≤ 8 * n * p = mul-le-mul_left (8 * n) (omega arith) in absurd (omega arith))
    (λ (ge : p ≤ k / (8 * n)). let f : 8 * n * p ≤ 8 * n * (k / (8 * n)) = mul-le-mul_left (8 * n) ge in omega arith)
    (cases_lt (k / (8 * n)) p)
