-- Equality of runs of chunks.
use Rattle.std.proofs.Common.{◌≡◌, ℕ, suc, ◌<◌, Bool, List, [], ◌∷◌, ◌++◌, length, get_or, append_assoc, take, drop, refl, sym, ap, ◌∙◌, arith}
use Rattle.std.specs.Bool.{Decides}
use Rattle.std.specs.List.{flat_map}
use Rattle.std.proofs.lemmas.List.{ext_get_or, get_or_default, take-append-drop}
use Rattle.std.proofs.Math.Seq.{take-append_seam, drop-append_seam}
use Rattle.bitmap_bytes.specs.Bits.{chunks_bit, AreChunks}
use Rattle.bitmap_bytes.proofs.Chunks.Bits.{byte_from_bits}
use Rattle.bitmap_bytes.proofs.Chunks.Lists.{chunk_from_bits}

-- chunks with equal bits are equal
chunks_from_bits : (n : ℕ) (xs ys : List (List ℕ)) → 0 < n → length xs ≡ length ys → AreChunks n xs → AreChunks n ys
    → ((k : ℕ) → chunks_bit n xs k ≡ chunks_bit n ys k)
    → xs ≡ ys
chunks_from_bits n xs ys p l f g h =
    ext_get_or [] xs ys l (λ i s.
    let t : i < length ys = omega arith in
    let a = get_or xs i [] in
    let b = get_or ys i [] in
    ext_get_or 0 a b ((f i s).len ∙ sym (g i t).len) (λ j w.
    byte_from_bits n a b j (omega (arith, (f i s).len)) ((f i s).bytes j) ((g i t).bytes j)
    (chunk_from_bits n xs ys i a b p s t (get_or_default xs i [] a s) (get_or_default ys i [] b t) h)))

-- comparing runs is comparing their bits
pub same_bits_decided : (n : ℕ) (r : Bool) (xs ys : List (List ℕ)) → 0 < n → length xs ≡ length ys → AreChunks n xs
    → AreChunks n ys → Decides r (xs ≡ ys)
    → Decides r ((k : ℕ) → chunks_bit n xs k ≡ chunks_bit n ys k)
same_bits_decided n r xs ys p l f g d = (λ q k. ap (λ zs. chunks_bit n zs k) (d.0 q), λ h. d.1 (chunks_from_bits n xs ys p l f g h))

pub append_split : {A : Type 0} (fs gs xs ys : List A) → length fs ≡ length xs → fs ++ gs ≡ xs ++ ys → (fs ≡ xs) × (gs ≡ ys)
append_split fs gs xs ys l e = (
  sym (take-append_seam fs gs) ∙ ap (λ k. take k (fs ++ gs)) l ∙ ap (λ zs. take (length xs) zs) e ∙ take-append_seam xs ys,
  sym (drop-append_seam fs gs) ∙ ap (λ k. drop k (fs ++ gs)) l ∙ ap (λ zs. drop (length xs) zs) e ∙ drop-append_seam xs ys,
)

-- chunks with equal bytes are equal
chunks_from_bytes : (n : ℕ) (xs ys : List (List ℕ)) → length xs ≡ length ys → AreChunks n xs → AreChunks n ys
    → flat_map (λ x. x) xs ≡ flat_map (λ x. x) ys
    → xs ≡ ys
chunks_from_bytes n [] [] l f g e = refl
chunks_from_bytes n [] (y ∷ ys) l f g e = absurd (omega arith)
chunks_from_bytes n (x ∷ xs) [] l f g e = absurd (omega arith)
chunks_from_bytes n (x ∷ xs) (y ∷ ys) l f g e =
    let s = append_split x (flat_map (λ z. z) xs) y (flat_map (λ z. z) ys) ((f 0 (omega arith)).len ∙ sym (g 0 (omega arith)).len) e in
    ap (λ z. z ∷ xs) s.0
    ∙ ap (λ zs. y ∷ zs) (chunks_from_bytes n xs ys (omega arith) (λ i h. f (suc i) (omega arith)) (λ i h. g (suc i) (omega arith)) s.1)

-- comparing the bytes of chunks is comparing the chunks
pub bytes_decided : (n : ℕ) (r : Bool) (xs ys : List (List ℕ)) (us vs : List ℕ) → length xs ≡ length ys → AreChunks n xs → AreChunks n ys
    → us ≡ flat_map (λ x. x) xs → vs ≡ flat_map (λ x. x) ys → Decides r (us ≡ vs)
    → Decides r (xs ≡ ys)
bytes_decided n r xs ys us vs l f g u v d =
    (λ q. chunks_from_bytes n xs ys l f g (sym u ∙ d.0 q ∙ v), λ q. d.1 (u ∙ ap (λ zs. flat_map (λ x. x) zs) q ∙ sym v))

-- a list is its two parts, one after the other
pub parts_of : {A : Type 0} (xs low high : List A) (k : ℕ) → low ≡ take k xs → high ≡ drop k xs → xs ≡ low ++ high
parts_of xs low high k e f = sym (ap (λ x. x ++ high) e ∙ ap (λ x. take k xs ++ x) f ∙ take-append-drop k xs)

-- two runs of three parts with equal lengths are equal if the parts are
pub runs_same : {A : Type 0} (front back longer rest low high near far : List A) → longer ≡ low ++ high → back ≡ near ++ far
    → length front ≡ length low → length near ≡ length high → front ++ back ≡ longer ++ rest
    → (front ≡ low) × (near ≡ high) × (far ≡ rest)
runs_same front back longer rest low high near far a b l m e =
    let s = append_split front back low (high ++ rest) l (e ∙ ap (λ x. x ++ rest) a ∙ append_assoc low high rest) in
    let t = append_split near far high rest m (sym b ∙ s.1) in
    (s.0, t.0, t.1)

pub runs_joined : {A : Type 0} (front back longer rest low high near far : List A) → longer ≡ low ++ high → back ≡ near ++ far
    → front ≡ low → near ≡ high → far ≡ rest
    → front ++ back ≡ longer ++ rest
runs_joined front back longer rest low high near far a b p q r =
    ap (λ x. front ++ x) b
    ∙ ap (λ x. x ++ (near ++ far)) p
    ∙ ap (λ x. low ++ (x ++ far)) q
    ∙ ap (λ x. low ++ (high ++ x)) r
    ∙ sym (append_assoc low high rest)
    ∙ ap (λ x. x ++ rest) (sym a)

-- comparing two runs is comparing their lists
pub lists_decided : {A : Type 0} (r : Bool) (xs ys us vs : List A) → us ≡ xs → vs ≡ ys → Decides r (us ≡ vs) → Decides r (xs ≡ ys)
lists_decided r xs ys us vs e f d = (λ q. sym e ∙ d.0 q ∙ f, λ q. d.1 (e ∙ q ∙ sym f))

-- the same, with the lists exchanged
pub lists_decided_back : {A : Type 0} (r : Bool) (xs ys us vs : List A) → us ≡ xs → vs ≡ ys → Decides r (vs ≡ us) → Decides r (xs ≡ ys)
lists_decided_back r xs ys us vs e f d = (λ q. sym e ∙ sym (d.0 q) ∙ f, λ q. d.1 (f ∙ sym q ∙ sym e))
