-- Operations on whole lists, bit by bit.
use Rattle.std.proofs.Common.{◌≡◌, ℕ, ◌+◌, ◌<◌, Bool, true, false, not, List, [], ◌∷◌, length, get_or, map, refl, ap, ◌∙◌, arith}
use Rattle.std.specs.List.{count_by, zip}
use Rattle.std.proofs.lemmas.Slice.Zip.{get_or-zip, length-zip}
use Rattle.std.proofs.lemmas.List.{length-map, get_or-map}
use Rattle.std.proofs.lemmas.List.Sums.{count_by-le-length}
use Rattle.bitmap_bytes.proofs.Counting.Places.{count-not}

not-twice : (b : Bool) → not (not b) ≡ b
not-twice true = refl
not-twice false = refl

-- inverting each bit twice restores the list
pub map-not-twice : (v : List Bool) → map not (map not v) ≡ v
map-not-twice [] = refl
map-not-twice (b ∷ v) = ap (λ x. x ∷ map not (map not v)) (not-twice b) ∙ ap (λ x. b ∷ x) (map-not-twice v)

-- the numbers of ones and zeros add up to the number of bits
pub counts-sum : (v : List Bool) (a b : ℕ) → a ≡ count_by (λ b. b) v → b ≡ count_by not v → a + b ≡ length v
counts-sum v a b e d = omega (arith, count-not v, count_by-le-length (λ b. b) v)

module _ (f : Bool → Bool → Bool) (v w u : List Bool) (same : length v ≡ length w) (is : u ≡ map (λ (p : Bool × Bool). f p.0 p.1) (zip v w)) where
  -- two lists of the same length, combined by f, have that length
  pub joined_len : length u ≡ length v
  joined_len = ap length is ∙ length-map (zip v w) (λ (p : Bool × Bool). f p.0 p.1) ∙ omega (arith, length-zip v w)

  -- at each position the combined list has f of the two bits there
  pub joined_at : (k : ℕ) → k < length v → get_or u k false ≡ f (get_or v k false) (get_or w k false)
  joined_at k h =
      ap (λ x. get_or x k false) is
      ∙ get_or-map (λ (p : Bool × Bool). f p.0 p.1) (zip v w) k (false, false) false (omega (arith, length-zip v w))
      ∙ ap (λ (p : Bool × Bool). f p.0 p.1) (get_or-zip v w k (false, false) h (omega arith))
