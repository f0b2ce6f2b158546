-- Operations on every bit of a list.
use Rattle.std.proofs.Common.{◌≡◌, ℕ, ◌*◌, ◌/◌, ◌-◌, ◌<◌, Bool, false, not, List, [], ◌++◌, length, get_or, map, replicate, refl, sym, ap, subst, ◌∙◌, inl, inr, arith}
use Rattle.std.specs.List.{zip}
use Rattle.std.proofs.lemmas.Slice.Zip.{get_or-zip, length-zip}
use Rattle.std.proofs.lemmas.List.{get_or_append_left, get_or-append_right, get_or-replicate, length-append, length-replicate, length-map, get_or-map}
use Rattle.std.proofs.lemmas.Bool.{cases_lt}
use Rattle.bitmap_bytes.specs.Chunk.{chunk_bit}
use Rattle.bitmap_bytes.specs.Bits.{chunks_bit, bits, IsChunkCount, IsZeroFrom}
use Rattle.bitmap_bytes.specs.Combined.{IsCombined}
use Rattle.bitmap_bytes.proofs.Chunks.Places.{index_below}
use Rattle.bitmap_bytes.proofs.Lists.Bits.{get_or-bits, bits_are, len_is}
use Rattle.bitmap_bytes.proofs.Chunks.Lists.{bit_of_past}

pub bits-flip : (n : ℕ) (xs ys zs : List (List ℕ)) (len : ℕ) (v : List Bool) → bits n xs len ≡ v
    → ((i : ℕ) → i < len → chunks_bit n ys i ≡ not (chunks_bit n xs i)) → ((i : ℕ) → i < len → chunks_bit n zs i ≡ chunks_bit n ys i)
    → bits n zs len ≡ map not v
bits-flip n xs ys zs len v e f g =
    bits_are n zs len (map not v) (length-map v not ∙ len_is n xs len v e) (λ i s.
    g i s
    ∙ f i s
    ∙ ap not (sym (get_or-bits n xs len i false s) ∙ ap (λ x. get_or x i false) e)
    ∙ sym (get_or-map not v i false false (omega (arith, len_is n xs len v e))))

pub bits-fill : (n : ℕ) (xs zs : List (List ℕ)) (len : ℕ) (b : Bool) (v : List Bool) → bits n xs len ≡ v
    → ((i : ℕ) → i < len → chunks_bit n zs i ≡ b)
    → bits n zs len ≡ replicate (length v) b
bits-fill n xs zs len b v e f =
    let l = len_is n xs len v e in
    bits_are n zs len (replicate (length v) b) (length-replicate (length v) b ∙ l) (λ i s.
    f i s
    ∙ sym (get_or-replicate (length v) i b false (omega arith)))

-- one bit of combined chunks
joined_bit : (n : ℕ) (f : Bool → Bool → Bool) (xs os ys : List (List ℕ)) (i : ℕ) → IsCombined n f xs os ys
    → i / (8 * n) < length xs
    → chunks_bit n ys i ≡ f (chunks_bit n xs i) (chunks_bit n os i)
joined_bit n f xs os ys i j s = j.bits (i / (8 * n)) s i

pub bits-zip : (n : ℕ) (f : Bool → Bool → Bool) (xs os ys : List (List ℕ)) (len : ℕ) (v w : List Bool) → 0 < n
    → IsChunkCount n (length xs) len → IsCombined n f xs os ys → bits n xs len ≡ v → bits n os len ≡ w
    → bits n ys len ≡ map (λ (p : Bool × Bool). f p.0 p.1) (zip v w)
bits-zip n f xs os ys len v w p k j e g =
    let l = len_is n xs len v e in
    let m = len_is n os len w g in
    let z : length (zip v w) ≡ len = omega (arith, length-zip v w) in
    bits_are n ys len (map (λ (p : Bool × Bool). f p.0 p.1) (zip v w)) (length-map (zip v w) (λ (p : Bool × Bool). f p.0 p.1) ∙ z) (λ i s.
    let a = sym (get_or-bits n xs len i false s) ∙ ap (λ x. get_or x i false) e in
    let b = sym (get_or-bits n os len i false s) ∙ ap (λ x. get_or x i false) g in
    joined_bit n f xs os ys i j (index_below n (length xs) len i p s k)
    ∙ ap (λ x. f x (chunks_bit n os i)) a
    ∙ ap (λ x. f (get_or v i false) x) b
    ∙ sym (ap (λ (p : Bool × Bool). f p.0 p.1) (get_or-zip v w i (false, false) (omega arith) (omega arith)))
    ∙ sym (get_or-map (λ (p : Bool × Bool). f p.0 p.1) (zip v w) i (false, false) false (omega arith)))

-- if both end in zeros, so do the combined chunks
pub IsZeroFrom-zip : (n : ℕ) (f : Bool → Bool → Bool) (xs os ys : List (List ℕ)) (len : ℕ) → f false false ≡ false
    → IsCombined n f xs os ys → IsZeroFrom n xs len → IsZeroFrom n os len
    → IsZeroFrom n ys len
IsZeroFrom-zip n f xs os ys len o j y z i h = elim (cases_lt (i / (8 * n)) (length xs)) [
  | inl s ↦ joined_bit n f xs os ys i j s ∙ ap (λ x. f x (chunks_bit n os i)) (y i h) ∙ ap (λ x. f false x) (z i h) ∙ o
  | inr s ↦ bit_of_past n ys i (omega (arith, j.count))
]

-- two runs of chunks, each combined with its own operand
IsCombined-append : (n : ℕ) (f : Bool → Bool → Bool) (fs gs os ps xs ys : List (List ℕ)) → length fs ≡ length os
    → IsCombined n f fs os xs → IsCombined n f gs ps ys
    → IsCombined n f (fs ++ gs) (os ++ ps) (xs ++ ys)
IsCombined-append n f fs gs os ps xs ys e j k = record {
  count = omega (arith, j.count, k.count, length-append xs ys, length-append fs gs);
  bits = λ i h t. elim (cases_lt i (length fs)) [
    | inl s ↦
        ap (λ c. chunk_bit n c t) (get_or_append_left xs ys [] i (omega (arith, j.count)))
        ∙ j.bits i s t
        ∙ ap (λ c. f (chunk_bit n c t) (chunk_bit n (get_or os i []) t)) (sym (get_or_append_left fs gs [] i s))
        ∙ ap (λ c. f (chunk_bit n (get_or (fs ++ gs) i []) t) (chunk_bit n c t)) (sym (get_or_append_left os ps [] i (omega arith)))
    | inr s ↦
        ap (λ c. chunk_bit n c t) (get_or-append_right xs ys (length fs) i [] j.count s)
        ∙ k.bits (i - length fs) (omega (arith, length-append fs gs)) t
        ∙ ap (λ c. f (chunk_bit n c t) (chunk_bit n (get_or ps (i - length fs) []) t)) (sym (get_or-append_right fs gs (length fs) i [] refl s))
        ∙ ap (λ c. f (chunk_bit n (get_or (fs ++ gs) i []) t) (chunk_bit n c t)) (sym (get_or-append_right os ps (length fs) i [] (sym e) s))
  ];
}

-- the same for whole lists that are these runs
pub joined_runs : (n : ℕ) (f : Bool → Bool → Bool) (fs gs os ps xs ys olds others news : List (List ℕ)) → olds ≡ fs ++ gs
    → os ++ ps ≡ others → news ≡ xs ++ ys → length fs ≡ length os → IsCombined n f fs os xs → IsCombined n f gs ps ys
    → IsCombined n f olds others news
joined_runs n f fs gs os ps xs ys olds others news a b c e j k =
    let parts : IsCombined n f (fs ++ gs) (os ++ ps) (xs ++ ys) = IsCombined-append n f fs gs os ps xs ys e j k in
    let whole : IsCombined n f (fs ++ gs) (os ++ ps) news = subst (λ zs. IsCombined n f (fs ++ gs) (os ++ ps) zs) (sym c) parts in
    subst (λ zs. IsCombined n f zs others news) (sym a) (subst (λ zs. IsCombined n f (fs ++ gs) zs news) b whole)
