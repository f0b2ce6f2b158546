-- What a crash leaves of bytes while some are appended, cut off or set.
use Rattle.std.proofs.Common.{◌≡◌, ◌⊎◌, inl, inr, ℕ, ◌+◌, ◌≤◌, List, [], ◌∷◌, ◌++◌, length, take, drop, refl, sym, ap, ◌∙◌, arith, append_assoc, length-append}
use Rattle.std.proofs.lemmas.List.{drop_at, take_at}
use Rattle.log_store.specs.Device.{MayTear, with_byte}

-- all bytes as they were before the change
pub as_before : (old new : List ℕ) → MayTear old new old
as_before [] new = omega arith
as_before (x ∷ old) [] = omega arith
as_before (x ∷ old) (y ∷ new) = (inl refl, as_before old new)

-- and as they are after it
pub as_after : (old new : List ℕ) → MayTear old new new
as_after [] new = omega arith
as_after (x ∷ old) [] = omega arith
as_after (x ∷ old) (y ∷ new) = (inr refl, as_after old new)

-- the first bytes, and any further ones, no more than there were or will be
pub record IsGrown (first : List ℕ) (most : ℕ) (c : List ℕ) : Type 0 where
  pub more : List ℕ
  pub is : c ≡ first ++ more
  pub few : length more ≤ most

either : (z x : ℕ) → (z ≡ x) ⊎ (z ≡ x) → z ≡ x
either z x (inl e) = e
either z x (inr e) = e

grown_more : (x z : ℕ) (first c : List ℕ) (most : ℕ) → z ≡ x → IsGrown first most c → IsGrown (x ∷ first) most (z ∷ c)
grown_more x z first c most e g = record { more = g.more; is = λ i. e i ∷ g.is i; few = g.few }

-- while bytes are appended
pub append_torn : (old bytes c : List ℕ) → MayTear old (old ++ bytes) c → IsGrown old (length bytes) c
append_torn [] bytes c h = record { more = c; is = refl; few = h }
append_torn (x ∷ old) bytes [] h = absurd h
append_torn (x ∷ old) bytes (z ∷ c) h = grown_more x z old c (length bytes) (either z x h.0) (append_torn old bytes c h.1)

-- while bytes are cut off
pub cut_torn : (first rest c : List ℕ) → MayTear (first ++ rest) first c → IsGrown first (length rest) c
cut_torn [] [] c h = record { more = c; is = refl; few = h }
cut_torn [] (y ∷ rest) c h = record { more = c; is = refl; few = h }
cut_torn (x ∷ first) rest [] h = absurd h
cut_torn (x ∷ first) rest (z ∷ c) h = grown_more x z first c (length rest) (either z x h.0) (cut_torn first rest c h.1)

tail_as_before : (bytes c : List ℕ) → MayTear bytes bytes c → c ≡ bytes
tail_as_before [] [] h = refl
tail_as_before [] (z ∷ c) h = absurd (omega (arith, h))
tail_as_before (x ∷ bytes) [] h = absurd h
tail_as_before (x ∷ bytes) (z ∷ c) h = let e = either z x h.0 in let same = tail_as_before bytes c h.1 in λ i. e i ∷ same i

-- while a byte is set
pub set_torn : (first rest c : List ℕ) (x y : ℕ) → MayTear (first ++ x ∷ rest) (first ++ y ∷ rest) c → (c ≡ first ++ x ∷ rest) ⊎ (c ≡ first ++ y ∷ rest)
set_torn [] rest [] x y h = absurd h
set_torn [] rest (z ∷ c) x y (inl e, h) = let same = tail_as_before rest c h in inl (λ i. e i ∷ same i)
set_torn [] rest (z ∷ c) x y (inr e, h) = let same = tail_as_before rest c h in inr (λ i. e i ∷ same i)
set_torn (b ∷ first) rest [] x y h = absurd h
set_torn (b ∷ first) rest (z ∷ c) x y h =
    let e = either z b h.0 in
    elim (set_torn first rest c x y h.1) [
      | inl same ↦ inl (λ i. e i ∷ same i)
      | inr same ↦ inr (λ i. e i ∷ same i)
    ]

-- the byte after some bytes, set
pub set_after : (first rest : List ℕ) (x y : ℕ) (at : ℕ) → at ≡ length first → with_byte at y (first ++ x ∷ rest) ≡ first ++ y ∷ rest
set_after first rest x y at is =
    let before : take at (first ++ x ∷ rest) ≡ first = take_at first (x ∷ rest) at (sym is) in
    let after : drop (at + 1) (first ++ x ∷ rest) ≡ rest = ap (drop (at + 1)) (sym (append_assoc first (x ∷ []) rest)) ∙ drop_at (first ++ x ∷ []) rest (at + 1) (omega (arith, is, length-append first (x ∷ []))) in
    λ i. before i ++ y ∷ after i
