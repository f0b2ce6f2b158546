-- SHA-256 gives digests of 32 bytes, whatever it hashes.
use Rattle.std.specs.Prelude.{◌≡◌, ℕ, zero, suc, ◌<◌, List, length, slice_index, refl}
use Rattle.std.specs.Int.{w32, to_be_bytes, byte_at, bytes_high_first}
use Rattle.std.proofs.Common.{arith}
use Rattle.std.proofs.lemmas.List.Elements.{All-nil, All-cons, All-append}
use Rattle.sha2.specs.Sha256.{sha256, digest_bytes, final_hash, initial_hash_256}
use Rattle.authenticated_bitmap.specs.Tree.{AreBytes, IsHash}

-- a byte of a number is below 256
byte_lt : (k n : ℕ) → byte_at k n < 256
byte_lt zero n = omega arith
byte_lt (suc k) n = omega arith

-- the bytes of a number, most significant first, are bytes
be_bytes : (k n : ℕ) → AreBytes (bytes_high_first k n)
be_bytes zero n = All-nil (λ x. x < 256)
be_bytes (suc k) n = All-cons (λ x. x < 256) (byte_at k n) (bytes_high_first k n) (byte_lt k n)
    (be_bytes k n)

-- the bytes of n words are bytes
words : (h : List ℕ) (n : ℕ) → AreBytes (digest_bytes h n)
unfolding digest_bytes
words h zero = All-nil (λ x. x < 256)
words h (suc n) = All-append (λ x. x < 256) (digest_bytes h n) (to_be_bytes w32 (slice_index h n))
    (words h n) (be_bytes 4 (slice_index h n))

-- eight words have 32 bytes
eight : (h : List ℕ) → length (digest_bytes h 8) ≡ 32
unfolding digest_bytes
eight h = refl

-- each digest of SHA-256 is a list of 32 bytes
pub sha256_is_hash : IsHash sha256
unfolding sha256
sha256_is_hash m = record {
  size = eight (final_hash initial_hash_256 m);
  bytes = words (final_hash initial_hash_256 m) 8;
}
