-- The full chunks of a bitmap of width 32.
use Rattle.std.proofs.Common.{◌≡◌, ℕ, ◌+◌, ◌*◌, ◌/◌, ◌<◌, ◌≤◌, Bool, List, [], length, get_or, sym, ap, ◌∙◌, arith}
use Rattle.std.proofs.lemmas.List.{ext_get_or}
use Rattle.std.proofs.lemmas.List.FromFn.{get_or-map-range_with_len, length-map-range_with_len}
use Rattle.bitmap_bytes.specs.Chunk.{chunk_bit, chunk_from, byte_of, IsChunk}
use Rattle.bitmap_bytes.proofs.Bytes.Made.{bytes_are, byte_same, map_range_same}
use Rattle.bitmap_core.specs.Meaning.{Meaning, ShowsChunk}
use Rattle.authenticated_bitmap.specs.StoredBitmap.{full_chunks}

pub count_full : (m : Meaning) → length (full_chunks m) ≡ m.len / 256
count_full m = length-map-range_with_len (chunk_from 32 m.bit) 0 (m.len / 256)

pub count_has : (m : Meaning) (count : ℕ) → m.len ≡ 256 * count → length (full_chunks m) ≡ count
count_has m count len = omega (arith, count_full m, len)

pub full_at : (m : Meaning) (place : ℕ) → place < length (full_chunks m) → get_or (full_chunks m) place [] ≡ chunk_from 32 m.bit place
full_at m place h = get_or-map-range_with_len (chunk_from 32 m.bit) 0 (m.len / 256) place place [] (omega (arith, h, count_full m)) (omega arith)

-- the full chunks are those of a list if each of them is
pub full_chunks_are : (m : Meaning) (items : List (List ℕ)) → m.len ≡ 256 * length items → ((i : ℕ) → i < length items → chunk_from 32 m.bit i ≡ get_or items i [])
    → full_chunks m ≡ items
full_chunks_are m items len at =
    let count : length (full_chunks m) ≡ length items = count_has m (length items) len in
    ext_get_or [] (full_chunks m) items count (λ i l. full_at m i l ∙ at i (omega (arith, l, count)))

-- a chunk that has the bits of a chunk is that chunk
pub chunk_is : (bytes : List ℕ) (bit : ℕ → Bool) (place : ℕ) → IsChunk 32 bytes → ((t : ℕ) → t < 256 → chunk_bit 32 bytes t ≡ bit (256 * place + t))
    → bytes ≡ chunk_from 32 bit place
chunk_is bytes bit place known same =
    bytes_are 32 bytes (λ t. bit (256 * place + t)) known.len known.bytes same
    ∙ map_range_same (λ j. byte_of (λ t. bit (256 * place + (8 * j + t)))) (λ j. byte_of (λ t. bit (256 * place + 8 * j + t))) 0 32
    (λ j _ _. byte_same (λ t. bit (256 * place + (8 * j + t))) (λ t. bit (256 * place + 8 * j + t)) (λ t _.
    let e : 256 * place + (8 * j + t) ≡ 256 * place + 8 * j + t = omega arith in ap bit e))

-- the chunks of two bitmaps that agree on their positions are equal
pub chunk_agrees : (f g : ℕ → Bool) (place : ℕ) → ((k : ℕ) → 256 * place ≤ k → k < 256 * place + 256 → f k ≡ g k) → chunk_from 32 f place ≡ chunk_from 32 g place
chunk_agrees f g place same =
    map_range_same (λ j. byte_of (λ t. f (256 * place + 8 * j + t))) (λ j. byte_of (λ t. g (256 * place + 8 * j + t))) 0 32
    (λ j _ below. byte_same (λ t. f (256 * place + 8 * j + t)) (λ t. g (256 * place + 8 * j + t)) (λ t u.
    same (256 * place + 8 * j + t) (omega arith) (omega (arith, below, u))))

-- what shows a full chunk is that chunk
pub shown_full : (m : Meaning) (place : ℕ) (bytes : List ℕ) → IsChunk 32 bytes
    → place < length (full_chunks m) → ShowsChunk 32 m place bytes → bytes ≡ get_or (full_chunks m) place []
shown_full m place bytes known h shows =
    let below : place < m.len / 256 = omega (arith, h, count_full m) in
    chunk_is bytes m.bit place known (λ t u. shows t u (omega (arith, below, u))) ∙ sym (full_at m place h)
