-- The change between two states fits: its encoding is read again.
use Rattle.std.proofs.Common.{◌≡◌, ℕ, ◌*◌, ◌^◌, ◌<◌, ◌≤◌, List, [], ◌∷◌, length, refl, sym, ap, ◌∙◌, arith, inl, inr, Option, Some, None}
use Rattle.std.specs.List.{AllByRecursion}
use Rattle.std.proofs.lemmas.List.FromFn.{length-map-range_with_len}
use Rattle.std.proofs.lemmas.Option.{none-some, same_Some}
use Rattle.std.proofs.Math.Nat.{le-mul_of_pos_right}
use Rattle.bitmap_core.specs.PrunedBits.{PrunedBits, bit_len, chunk}
use Rattle.historical_bitmap.specs.Changes.{changed, listed, retained_bytes, with_bytes}
use Rattle.historical_bitmap.proofs.Changes.Unnamed.{bytes_none, bytes_there, is_there}
use Rattle.commit_log.specs.Entries.{FitsChunk, FitsChange}
use Rattle.commit_log.specs.Kept.{change_to}

with_fits : (n i : ℕ) (found : Option (List ℕ)) (others : List (ℕ × List ℕ)) → ((bytes : List ℕ) → found ≡ Some bytes → FitsChunk n (i, bytes)) → AllByRecursion (FitsChunk n) others → AllByRecursion (FitsChunk n) (with_bytes i found others)
with_fits n i None others h rest = rest
with_fits n i (Some bytes) others h rest = (h bytes refl, rest)

length-chunk : (n : ℕ) (b : PrunedBits) (i : ℕ) → length (chunk n b i) ≡ n
length-chunk n b i = length-map-range_with_len _ 0 n

-- an index is at most the first position of its chunk
pub index_below : (n i : ℕ) → 0 < n → i ≤ 8 * n * i
index_below n i pos =
    let l : i ≤ i * (8 * n) = le-mul_of_pos_right i (omega (arith, pos)) in
    let m : i * (8 * n) ≡ 8 * n * i = grind arith in
    omega (arith, l, m)

chunk_fits : (n : ℕ) (new : PrunedBits) (i : ℕ) (bytes : List ℕ) → 0 < n → bit_len n new < 2 ^ 64 → retained_bytes n new i ≡ Some bytes → FitsChunk n (i, bytes)
chunk_fits n new i bytes pos fits e =
    elim (is_there n new i) [
      | inl has ↦
          let same : chunk n new i ≡ bytes = same_Some (chunk n new i) bytes (sym (bytes_there n new i has) ∙ e) in
          record { index = omega (arith, index_below n i pos, has.1, fits); bytes = ap length (sym same) ∙ length-chunk n new i }
      | inr gone ↦ absurd (none-some bytes (sym (bytes_none n new i gone) ∙ e))
    ]

-- the listed chunks fit
pub listed_fits : (n : ℕ) (new : PrunedBits) (is : List ℕ) → 0 < n → bit_len n new < 2 ^ 64 → AllByRecursion (FitsChunk n) (listed n new is)
listed_fits n new [] pos fits = tt
listed_fits n new (i ∷ is) pos fits = with_fits n i (retained_bytes n new i) (listed n new is) (λ bytes e. chunk_fits n new i bytes pos fits e) (listed_fits n new is pos fits)

-- the pruned count of a bitmap whose length fits
pub pruned_fits : (n : ℕ) (b : PrunedBits) → 0 < n → bit_len n b < 2 ^ 64 → b.pruned < 2 ^ 64
pruned_fits n b pos fits = omega (arith, index_below n b.pruned pos, fits)

-- a change to a bitmap whose length fits 64 bits is read again
pub change_fits : (n number : ℕ) (old new : PrunedBits) → 0 < n → bit_len n new < 2 ^ 64 → number < 2 ^ 64 → FitsChange n (change_to n number old new)
change_fits n number old new pos fits small = record { number = small; len = fits; pruned = pruned_fits n new pos fits; chunks = listed_fits n new (changed n old new) pos fits }
