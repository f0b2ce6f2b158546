-- The full chunks of a bitmap of width 32 in which nothing is pruned, after an edit of a chunk.
use Rattle.std.proofs.Common.{◌≡◌, ℕ, ◌+◌, ◌-◌, ◌*◌, ◌/◌, ◌<◌, ◌≤◌, Bool, false, cond, eqb, List, [], ◌∷◌, ◌++◌, length, take, get_or, set, inl, inr, refl, sym, ap, ◌∙◌, arith}
use Rattle.std.proofs.lemmas.Bool.{cases_lt, cases_eq, eq-eqb, ne_eqb, lt-ltb}
use Rattle.std.proofs.lemmas.List.{get_or-append_right, get_or-set_other, get_or-set_same, get_or-take, get_or_append_left, length-append, length-set, length-take-le}
use Rattle.std.proofs.lemmas.List.FromFn.{get_or-map-range_with_len, length-map-range_with_len}
use Rattle.bitmap_bytes.specs.Chunk.{chunk_bit, chunk_bits, IsChunk}
use Rattle.bitmap_bytes.proofs.Chunks.Bits.{chunk_bit-mod}
use Rattle.bitmap_core.specs.Meaning.{pruned_meaning}
use Rattle.bitmap_core.specs.PrunedBits.{PrunedBits, appended, bit_at, bit_len, truncated, with_chunk}
use Rattle.bitmap_core.proofs.Pruned.Edits.{bit_truncated, len_appended, len_truncated}
use Rattle.bitmap_core.proofs.Pruned.Positions.{bit_from_bits, len_from_bits}
use Rattle.authenticated_bitmap.specs.StoredBitmap.{full_chunks}
use Rattle.authenticated_bitmap.proofs.StoredChunks.{chunk_agrees, chunk_is, count_has, full_at, full_chunks_are}

module _ (b : PrunedBits) (none : b.pruned ≡ 0) (count : ℕ) (len : bit_len 32 b ≡ 256 * count) where
  abbrev chunks : List (List ℕ)
  chunks = full_chunks (pruned_meaning 32 b)

  size : length chunks ≡ count
  size = count_has (pruned_meaning 32 b) count len

  -- ---- the first chunks are kept
  pub kept_len : (kept : ℕ) → kept ≤ count → bit_len 32 (truncated 32 b (256 * kept)) ≡ 256 * kept
  kept_len kept few = len_truncated 32 b (256 * kept) (omega (arith, none)) (omega (arith, few, len))

  pub kept_chunks : (kept : ℕ) → kept ≤ count → full_chunks (pruned_meaning 32 (truncated 32 b (256 * kept))) ≡ take kept chunks
  kept_chunks kept few =
      let new = truncated 32 b (256 * kept) in
      let first : length (take kept chunks) ≡ kept = length-take-le kept chunks (omega (arith, few, size)) in
      full_chunks_are (pruned_meaning 32 new) (take kept chunks) (omega (arith, kept_len kept few, first)) (λ i l.
      let below : i < kept = omega (arith, l, first) in
      chunk_agrees (bit_at 32 new) (bit_at 32 b) i (λ k low high.
      bit_truncated 32 b (256 * kept) k (omega (arith, none))
      ∙ ap (λ c. cond c (bit_at 32 b k) false) (lt-ltb k (256 * kept) (omega (arith, high, below))))
      ∙ sym (get_or-take kept chunks i [] below ∙ full_at (pruned_meaning 32 b) i (omega (arith, below, few, size))))

  -- ---- a chunk is appended
  module _ (bytes : List ℕ) (known : IsChunk 32 bytes) where
    abbrev more : List Bool
    more = chunk_bits 32 bytes

    more_len : length more ≡ 256
    more_len = length-map-range_with_len (chunk_bit 32 bytes) 0 256

    pub appended_len : bit_len 32 (appended b more) ≡ 256 * (count + 1)
    appended_len = omega (arith, len_appended 32 b more, more_len, len)

    old_bit : (k : ℕ) → k < 256 * count → bit_at 32 (appended b more) k ≡ bit_at 32 b k
    old_bit k h = get_or_append_left b.bits more false (k - 256 * b.pruned) (omega (arith, h, none, len))

    new_bit : (t : ℕ) → t < 256 → bit_at 32 (appended b more) (256 * count + t) ≡ chunk_bit 32 bytes t
    new_bit t u =
        let k = 256 * count + t - 256 * b.pruned in
        let at : k - length b.bits ≡ t = omega (arith, none, len) in
        get_or-append_right b.bits more (length b.bits) k false refl (omega (arith, none, len))
        ∙ ap (λ j. get_or more j false) at
        ∙ get_or-map-range_with_len (chunk_bit 32 bytes) 0 256 t t false u (omega arith)

    pub appended_chunks : full_chunks (pruned_meaning 32 (appended b more)) ≡ chunks ++ bytes ∷ []
    appended_chunks =
        let all = chunks ++ bytes ∷ [] in
        let all_size : length all ≡ count + 1 = omega (arith, length-append chunks (bytes ∷ []), size) in
        full_chunks_are (pruned_meaning 32 (appended b more)) all (omega (arith, appended_len, all_size)) (λ i l. elim (cases_lt i count) [
          | inl old ↦
              chunk_agrees (bit_at 32 (appended b more)) (bit_at 32 b) i (λ k low high. old_bit k (omega (arith, high, old)))
              ∙ sym (get_or_append_left chunks (bytes ∷ []) [] i (omega (arith, old, size)) ∙ full_at (pruned_meaning 32 b) i (omega (arith, old, size)))
          | inr last ↦ (
              let e : i ≡ count = omega (arith, l, last, all_size) in
              let first : i - length chunks ≡ 0 = omega (arith, e, size) in
              sym (chunk_is bytes (bit_at 32 (appended b more)) i known (λ t u. sym (ap (λ j. bit_at 32 (appended b more) (256 * j + t)) e ∙ new_bit t u)))
              ∙ sym (get_or-append_right chunks (bytes ∷ []) (length chunks) i [] refl (omega (arith, e, size)) ∙ ap (λ j. get_or (bytes ∷ []) j []) first))
        ])

    -- ---- a chunk is replaced
    module _ (place : ℕ) (within : place < count) where
      abbrev new : PrunedBits
      new = with_chunk 32 b place bytes

      abbrev bit : ℕ → Bool
      bit k = cond (eqb (k / 256) place) (chunk_bit 32 bytes k) (bit_at 32 b k)

      pub replaced_len : bit_len 32 new ≡ 256 * count
      replaced_len = len_from_bits 32 b.pruned (bit_len 32 b) bit (omega (arith, none)) ∙ len

      bit_is : (k : ℕ) → k < 256 * count → bit_at 32 new k ≡ bit k
      bit_is k h = bit_from_bits 32 b.pruned (bit_len 32 b) bit k (omega (arith, none)) (omega (arith, h, len))

      pub replaced_chunks : full_chunks (pruned_meaning 32 new) ≡ set chunks place bytes
      replaced_chunks =
          let same : length (set chunks place bytes) ≡ count = length-set chunks place bytes ∙ size in
          full_chunks_are (pruned_meaning 32 new) (set chunks place bytes) (omega (arith, replaced_len, same)) (λ i l. elim (cases_eq i place) [
            | inl e ↦
                sym (chunk_is bytes (bit_at 32 new) i known (λ t u.
                let here : (256 * i + t) / 256 ≡ place = omega (arith, e, u) in
                sym (bit_is (256 * i + t) (omega (arith, l, same, u))
                ∙ ap (λ c. cond c (chunk_bit 32 bytes (256 * i + t)) (bit_at 32 b (256 * i + t))) (eq-eqb ((256 * i + t) / 256) place here)
                ∙ chunk_bit-mod 32 bytes (256 * i + t) t (omega arith) (omega (arith, u)))))
                ∙ sym (ap (λ j. get_or (set chunks place bytes) j []) e ∙ get_or-set_same chunks place bytes [] (omega (arith, within, size)))
            | inr ne ↦
                chunk_agrees (bit_at 32 new) (bit_at 32 b) i (λ k low high.
                bit_is k (omega (arith, high, l, same))
                ∙ ap (λ c. cond c (chunk_bit 32 bytes k) (bit_at 32 b k)) (ne_eqb (k / 256) place (λ e. ne (omega (arith, e, low, high)))))
                ∙ sym (get_or-set_other chunks place i bytes [] ne ∙ full_at (pruned_meaning 32 b) i (omega (arith, l, same, size)))
          ])
