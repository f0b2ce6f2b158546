-- Decoding what was encoded.
use Rattle.std.proofs.Common.{◌≡◌, ℕ, ◌^◌, ◌<◌, Bool, true, List, ◌++◌, length, Result, Ok, Err, Option, None, refl, sym, ap, ◌∙◌}
use Rattle.std.specs.Prelude.{IfOk, IfErr}
use Rattle.bitmap_core.specs.declared.bitmap.codec.error.CodecError.{CodecError}
use Rattle.bitmap_core.specs.declared.bitmap.codec.error.CodecError.TheVariants as errors
use Rattle.bitmap_core.specs.PrunedBits.{PrunedBits, bit_len}
use Rattle.bitmap_core.specs.Encoding.{encoding, pruned_encoding}
use Rattle.bitmap_core.specs.Decoding.{DecodeError, decode_error, bits_error, pruned_error}
use Rattle.bitmap_core.proofs.Codec.Encodings.{same_encoding}
use Rattle.bitmap_core.proofs.Codec.DecodeErrors.{sound-none, encodes-sound, sound_pruned-none}
use Rattle.bitmap_core.proofs.Pruned.Codec.{encodes-pruned, same_pruned_encoding}

ok_both : {A E : Type 0} (P Q R : A → Type 0) (r : Result A E) → IfOk r P → IfOk r Q → ((a : A) → P a → Q a → R a) → IfOk r R
ok_both P Q R (Ok a) p q f = f a p q
ok_both P Q R (Err e) p q f = tt

no_error_of : (e : CodecError) → None ≡ decode_error e → e ≡ errors.OutOfMemory
no_error_of errors.EndOfBuffer h = absurd cc
no_error_of (errors.InvalidLength n) h = absurd cc
no_error_of (errors.Invalid a b) h = absurd cc
no_error_of errors.OutOfMemory h = refl

-- if the input has no decode error, an error means out of memory
pub err_is_memory : {A : Type 0} (r : Result A CodecError) (f : Option DecodeError) → IfErr r (λ e. f ≡ decode_error e) → f ≡ None
    → IfErr r (λ e. e ≡ errors.OutOfMemory)
err_is_memory (Ok a) f h n = tt
err_is_memory (Err e) f h n = no_error_of e (sym n ∙ h)

-- an encoding whose length the range admits has no decode error
pub encoded_none : (n : ℕ) (range : ℕ → Bool) (text : List ℕ) (v : List Bool) (rest : List ℕ) → 0 < n → length v < 2 ^ 64
    → range (length v) ≡ true → text ≡ encoding n v ++ rest
    → bits_error n range text ≡ None
encoded_none n range text v rest p l r e = ap (bits_error n range) e ∙ sound-none n range (encoding n v ++ rest) (encodes-sound n range v rest p l r)

-- it is decoded to the bits that it encodes
pub read_again : {E : Type 0} (n : ℕ) (text : List ℕ) (v : List Bool) (rest after : List ℕ) (r : Result (List Bool) E) → 0 < n
    → length v < 2 ^ 64 → text ≡ encoding n v ++ rest → IfOk r (λ w. text ≡ encoding n w ++ after)
    → IfOk r (λ w. length w < 2 ^ 64)
    → IfOk r (λ w. (w ≡ v) × (after ≡ rest))
read_again n text v rest after r p l e f s =
    ok_both (λ w. text ≡ encoding n w ++ after) (λ w. length w < 2 ^ 64) (λ w. (w ≡ v) × (after ≡ rest)) r f s
    (λ w t k. same_encoding n w v after rest p k l (sym t ∙ e))

-- the same for bitmaps with a pruned prefix
pub pruned_encoded_none : (n : ℕ) (range : ℕ → Bool) (text : List ℕ) (b : PrunedBits) (rest : List ℕ) → 0 < n
    → bit_len n b < 2 ^ 64 → b.pruned < 2 ^ 64 → range (length b.bits) ≡ true → text ≡ pruned_encoding n b ++ rest
    → pruned_error n range text ≡ None
pruned_encoded_none n range text b rest p l c r e =
    ap (pruned_error n range) e ∙ sound_pruned-none n range (pruned_encoding n b ++ rest) (encodes-pruned n range b rest p l c r)

pub pruned_read_again : {E : Type 0} (n : ℕ) (text : List ℕ) (b : PrunedBits) (rest after : List ℕ) (r : Result PrunedBits E)
    → 0 < n → bit_len n b < 2 ^ 64 → b.pruned < 2 ^ 64 → text ≡ pruned_encoding n b ++ rest
    → IfOk r (λ c. text ≡ pruned_encoding n c ++ after) → IfOk r (λ c. (bit_len n c < 2 ^ 64) × (c.pruned < 2 ^ 64))
    → IfOk r (λ c. (c ≡ b) × (after ≡ rest))
pruned_read_again n text b rest after r p l m e f s =
    ok_both (λ c. text ≡ pruned_encoding n c ++ after) (λ c. (bit_len n c < 2 ^ 64) × (c.pruned < 2 ^ 64))
    (λ c. (c ≡ b) × (after ≡ rest)) r f s (λ c t k.
    same_pruned_encoding n c b after rest p k.0 l k.1 m (sym t ∙ e))
