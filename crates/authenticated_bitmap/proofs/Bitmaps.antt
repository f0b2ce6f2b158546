-- An authenticated state is a bitmap as its root has it: what is stored are digests, and the bytes of chunks are bytes.
use Rattle.std.proofs.Common.{◌≡◌, ℕ, ◌+◌, ◌-◌, ◌*◌, ◌/◌, ◌^◌, ◌<◌, ◌≤◌, Bool, true, false, List, [], length, map, get_or, sym, ap, subst, ◌∙◌, arith}
use Rattle.std.proofs.lemmas.List.{length-map}
use Rattle.std.proofs.lemmas.List.Elements.{All-from_get_or, All-get_or, All-map}
use Rattle.std.proofs.lemmas.List.FromFn.{get_or-map-range_with_len, length-map-range_with_len, length-range_with_len}
use Rattle.std.specs.List.{range_with_len}
use Rattle.std.specs.Prelude.{All}
use Rattle.bitmap_bytes.specs.Chunk.{IsWidth, bit_value, byte_of, chunk_from}
use Rattle.bitmap_core.specs.PrunedBits.{PrunedBits, bit_at, bit_len, chunk}
use Rattle.historical_bitmap.specs.Changes.{chunk_total}
use Rattle.historical_bitmap.specs.Replaced.{retained_chunks}
use Rattle.historical_bitmap.proofs.History.Replaced.{pruned_total, total_small}
use Rattle.authenticated_bitmap.specs.LeafDigests.{Authenticates, bitmap_of, digests_of, leaves_in}
use Rattle.authenticated_bitmap.specs.Root.{IsBitmap}
use Rattle.authenticated_bitmap.specs.Stored.{nodes, position, stored}
use Rattle.authenticated_bitmap.specs.Tree.{AreBytes, IsDigest}
use Rattle.authenticated_bitmap.proofs.FromStored.{place_within}
use Rattle.authenticated_bitmap.proofs.Places.{stores_subtrees}
use Rattle.authenticated_bitmap.proofs.StoredLeaves.{count_leaves}

bit_small : (b : Bool) → bit_value b ≤ 1
bit_small true = omega arith
bit_small false = omega arith

byte_small : (bit : ℕ → Bool) → byte_of bit < 256
byte_small bit = omega (arith, bit_small (bit 0), bit_small (bit 1), bit_small (bit 2), bit_small (bit 3), bit_small (bit 4), bit_small (bit 5), bit_small (bit 6), bit_small (bit 7))

chunk_bytes : (n : ℕ) (bit : ℕ → Bool) (i : ℕ) → AreBytes (chunk_from n bit i)
chunk_bytes n bit i =
    All-map (λ x. x < 256) (λ j. byte_of (λ t. bit (8 * n * i + 8 * j + t))) (range_with_len 0 n)
    (All-from_get_or (λ j. byte_of (λ t. bit (8 * n * i + 8 * j + t)) < 256) (range_with_len 0 n) 0 (λ k _. byte_small (λ t. bit (8 * n * i + 8 * get_or (range_with_len 0 n) k 0 + t))))

full_digest : (bit : ℕ → Bool) (i : ℕ) → IsDigest (chunk_from 32 bit i)
full_digest bit i = record { size = length-map-range_with_len (λ j. byte_of (λ t. bit (8 * 32 * i + 8 * j + t))) 0 32; bytes = chunk_bytes 32 bit i }

stored_digests : (t : PrunedBits) → All IsDigest (digests_of t)
stored_digests t =
    All-map IsDigest (chunk_from 32 (bit_at 32 t)) (range_with_len 0 (bit_len 32 t / 256))
    (All-from_get_or (λ i. IsDigest (chunk_from 32 (bit_at 32 t) i)) (range_with_len 0 (bit_len 32 t / 256)) 0 (λ k _. full_digest (bit_at 32 t) (get_or (range_with_len 0 (bit_len 32 t / 256)) k 0)))

pub authenticated_is_bitmap : (H : List ℕ → List ℕ) (n : ℕ) (s t : PrunedBits) → IsWidth n → bit_len n s < 2 ^ 64 → Authenticates H n s t → IsBitmap (bitmap_of n s t)
authenticated_is_bitmap H n s t width small a = record {
  fits = record { width = omega (arith, width.fits); len = small; pruned = omega (arith, small, few, total_small n s width.positive) };
  pruned = count_leaves s.pruned t;
  count = omega (arith, length-map (retained_chunks n s) (chunk n s), length-range_with_len s.pruned (chunk_total n s - s.pruned), few);
  digests = All-from_get_or IsDigest (leaves_in s.pruned t) [] leaf;
  bytes = All-map AreBytes (chunk n s) (retained_chunks n s) (All-from_get_or (λ i. AreBytes (chunk n s i)) (retained_chunks n s) 0 (λ k _. chunk_bytes n (bit_at n s) (get_or (retained_chunks n s) k 0)));
}
  where
    few : s.pruned ≤ chunk_total n s
    few = pruned_total n s width.positive

    count : length (digests_of t) ≡ nodes (chunk_total n s)
    count = ap length a.tree.digests ∙ (stores_subtrees H).count (leaves_in (chunk_total n s) t) ∙ ap (λ k. nodes k) (count_leaves (chunk_total n s) t)

    leaf : (i : ℕ) → i < length (leaves_in s.pruned t) → IsDigest (get_or (leaves_in s.pruned t) i [])
    leaf i inside =
        let low : i < s.pruned = omega (arith, inside, count_leaves s.pruned t) in
        let within : position 0 i < length (digests_of t) = omega (arith, count, place_within (chunk_total n s) 0 i (omega (arith, low, few))) in
        subst IsDigest (sym (get_or-map-range_with_len (λ j. get_or (digests_of t) (position 0 j) []) 0 s.pruned i i [] low (omega arith))) (All-get_or IsDigest (digests_of t) (position 0 i) [] within (stored_digests t))
