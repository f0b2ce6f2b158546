-- Two deques of chunks, each in two slices of bytes, compared position by position.
use Rattle.std.proofs.Common.{◌≡◌, ℕ, ◌+◌, ◌-◌, ◌*◌, ◌<◌, Bool, List, [], ◌∷◌, ◌++◌, length, min, append_assoc, sym, ap, ◌∙◌, inl, inr, ◌⊎◌, arith}
use Rattle.std.specs.Bool.{Decides}
use Rattle.std.specs.List.{flat_map}
use Rattle.std.proofs.lemmas.List.{append-nil, length-append}
use Rattle.std.proofs.lemmas.Bool.{cases_lt}
use Rattle.bitmap_bytes.specs.Bits.{chunks_bit, AreChunks}
use Rattle.bitmap_bytes.specs.Chunk.{bytes_bit}
use Rattle.bitmap_bytes.proofs.Bytes.Shifted.{bytes_bit-flat}
use Rattle.bitmap_bytes.proofs.Counting.Pairs.{GivesNone}
use Rattle.bitmap_core.proofs.Counting.JoinedChunks.{flat-length}

-- deques of as many chunks have as many bytes
pub as_many_bytes : (n : ℕ) (xs ys : List (List ℕ)) (a b c d : List ℕ) → length xs ≡ length ys → AreChunks n xs → AreChunks n ys
    → a ++ b ≡ flat_map (λ x. x) xs → c ++ d ≡ flat_map (λ x. x) ys
    → length a + length b ≡ length c + length d
as_many_bytes n xs ys a b c d l f g e h =
    omega (
      arith,
      length-append a b,
      length-append c d,
      ap length e ∙ flat-length n xs f,
      ap length h ∙ flat-length n ys g,
      ap (λ k. n * k) l,
    )

-- four parts in their order, if the second or the third is empty
parts_in_order : (low high near far : List ℕ) → (length high ≡ 0) ⊎ (length near ≡ 0) → (low ++ near) ++ (high ++ far) ≡ (low ++ high) ++ (near ++ far)
parts_in_order low [] near far h = append_assoc low near far ∙ ap (λ l. l ++ (near ++ far)) (sym (append-nil low))
parts_in_order low (x ∷ high) [] far h = ap (λ l. l ++ (x ∷ high ++ far)) (append-nil low) ∙ sym (append_assoc low (x ∷ high) far)
parts_in_order low (x ∷ high) (y ∷ near) far (inl h) = absurd (omega arith)
parts_in_order low (x ∷ high) (y ∷ near) far (inr h) = absurd (omega arith)

-- the parts of the second deque that are beside the slices of the first
pub parts_are : (a b c low high near far flat : List ℕ) (cut : ℕ) → cut ≡ min (length a) (length b) → b ≡ low ++ high → c ≡ near ++ far → b ++ c ≡ flat
    → length low ≡ cut → length near ≡ length a - cut
    → (low ++ near) ++ (high ++ far) ≡ flat
parts_are a b c low high near far flat cut k e f w l m =
    let n = ap length e ∙ length-append low high in
    let o : (length high ≡ 0) ⊎ (length near ≡ 0) = elim (cases_lt (length a) (length b)) [
      | inl s ↦ inr (omega (arith, k, m))
      | inr s ↦ inl (omega (arith, k, n, l))
    ] in
    parts_in_order low high near far o ∙ ap (λ x. x ++ (near ++ far)) (sym e) ∙ ap (λ x. b ++ x) (sym f) ∙ w

-- the first two parts are as long as the first slice
pub first_parts : (a b low near : List ℕ) (cut : ℕ) → cut ≡ min (length a) (length b) → length low ≡ cut → length near ≡ length a - cut
    → length a ≡ length (low ++ near)
first_parts a b low near cut k l m = omega (arith, k, l, m, length-append low near)

-- what is decided of the bytes is decided of the chunks
pub chunks_decided : (n : ℕ) (f : Bool → Bool → Bool) (xs ys : List (List ℕ)) (us vs : List ℕ) (r : Bool) → 0 < n → AreChunks n xs → AreChunks n ys
    → us ≡ flat_map (λ x. x) xs → vs ≡ flat_map (λ x. x) ys → Decides r (GivesNone f (bytes_bit us) (bytes_bit vs))
    → Decides r (GivesNone f (chunks_bit n xs) (chunks_bit n ys))
chunks_decided n f xs ys us vs r p g h a b d =
    let same : (i : ℕ) → f (bytes_bit us i) (bytes_bit vs i) ≡ f (chunks_bit n xs i) (chunks_bit n ys i) =
    λ i. ap (λ x. f x (bytes_bit vs i)) (ap (λ x. bytes_bit x i) a ∙ bytes_bit-flat n xs p (λ j l. (g j l).len) i)
    ∙ ap (λ x. f (chunks_bit n xs i) x) (ap (λ x. bytes_bit x i) b ∙ bytes_bit-flat n ys p (λ j l. (h j l).len) i) in
    (λ q i. sym (same i) ∙ d.0 q i, λ k. d.1 (λ i. same i ∙ k i))
