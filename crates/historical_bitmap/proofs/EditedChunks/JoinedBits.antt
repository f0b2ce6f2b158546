-- The bits of a dense bitmap, as they are read by whole chunks and joined to edited chunks.
use Rattle.std.proofs.Common.{◌≡◌, ℕ, zero, suc, ◌+◌, ◌-◌, ◌*◌, ◌/◌, ◌%◌, ◌<◌, ◌≤◌, Bool, false, cond, List, [], ◌∷◌, ◌++◌, eqb, get_or, length, Some, None, refl, sym, ap, ◌∙◌, subst, arith}
use mathlib.Core.Logic.{inl, inr, ◌⊎◌, ◌≢◌}
use Rattle.std.proofs.Math.Nat.{mod-eq_of_lt}
use Rattle.std.proofs.lemmas.Bool.{cases_eq, cases_lt, eq-eqb, lt-ltb, le-ltb, ne_eqb, false≢true}
use Rattle.std.proofs.lemmas.List.{append-nil, get_or_past}
use Rattle.std.proofs.lemmas.Nat.{mod_below}
use Rattle.std.specs.Int.{bit_at as bit_at_byte}
use Rattle.std.specs.List.{flat_map}
use Rattle.std.specs.Map.{lookup}
use Rattle.std.specs.Prelude.{Option, MatchOption, IsSome, nat_eq, nat_lt, unwrap_or}
use Rattle.bitmap_bytes.specs.Bits.{chunks_bit}
use Rattle.bitmap_bytes.specs.Chunk.{bytes_bit, chunk_bit}
use Rattle.bitmap_bytes.proofs.Bytes.Shifted.{bytes_bit-flat}
use Rattle.bitmap_bytes.proofs.Chunks.Bits.{chunk_bit-mod}
use Rattle.bitmap_core.specs.Meaning.{ShowsChunk, plain_meaning}
use Rattle.bitmap_core.proofs.Pruned.Positions.{place}
use Rattle.chunk_map.specs.Entries.{Puts}
use Rattle.historical_bitmap.specs.Lengths.{IsJoined, JoinsChunks, OpensChunks}
use Rattle.historical_bitmap.proofs.EditedChunks.OpenedUpTo.{beside_opened, opened_at}
use Rattle.historical_bitmap.proofs.Lists.Maps.{not_some}
use Rattle.historical_bitmap.proofs.Pending.Appends.{index_of}
use Rattle.historical_bitmap.proofs.Pending.Ends.{index_from}

-- ---- the bits of a bitmap are read by whole chunks
-- a chunk with the bits past the end of the bitmap cleared
pub cut_shows : (n : ℕ) (v : List Bool) (i : ℕ) (shown cut : List ℕ) → 0 < n → ShowsChunk n (plain_meaning v) i shown → ((k : ℕ) → chunk_bit n cut k ≡ cond (nat_lt (k % (8 * n)) (length v - 8 * n * i)) (chunk_bit n shown k) false)
    → (k : ℕ) → chunk_bit n cut k ≡ get_or v (8 * n * i + k % (8 * n)) false
cut_shows n v i shown cut pos shows cleared k = cleared k ∙ elim (cases_lt (k % (8 * n)) (length v - 8 * n * i)) [
  | inl h ↦
      let below = mod_below k (8 * n) (omega (arith, pos)) in
      rw (lt-ltb (k % (8 * n)) (length v - 8 * n * i) h) (chunk_bit-mod n shown k (k % (8 * n)) pos (sym (mod-eq_of_lt below)) ∙ shows (k % (8 * n)) below (omega (arith, h)))
  | inr h ↦ rw (le-ltb (k % (8 * n)) (length v - 8 * n * i) h) (sym (get_or_past v (8 * n * i + k % (8 * n)) false (omega (arith, h))))
]

-- the bits from any position on, of the two chunks that have them
pub both_show : (n : ℕ) (v : List Bool) (bit i skip : ℕ) (low high : List ℕ) → 0 < n → i ≡ bit / (8 * n) → skip ≡ bit % (8 * n) → length low ≡ n → length high ≡ n
    → ((k : ℕ) → chunk_bit n low k ≡ get_or v (8 * n * i + k % (8 * n)) false) → ((k : ℕ) → chunk_bit n high k ≡ get_or v (8 * n * (i + 1) + k % (8 * n)) false)
    → (k : ℕ) → bytes_bit (flat_map (λ x. x) (low ∷ high ∷ []) ++ []) (skip + k % (8 * n)) ≡ get_or v (bit + k % (8 * n)) false
both_show n v bit i skip low high pos index rest low_len high_len first second k =
    let t : ℕ = skip + k % (8 * n) in
    let below = mod_below k (8 * n) (omega (arith, pos)) in
    let begun = mod_below bit (8 * n) (omega (arith, pos)) in
    let at : 8 * n * i + skip ≡ bit = omega (arith, place (8 * n) bit, rest, ap (λ y. 8 * n * y) index) in
    let flat : bytes_bit (flat_map (λ x. x) (low ∷ high ∷ []) ++ []) t ≡ chunks_bit n (low ∷ high ∷ []) t = ap (λ ys. bytes_bit ys t) (append-nil (flat_map (λ x. x) (low ∷ high ∷ []))) ∙ bytes_bit-flat n (low ∷ high ∷ []) pos wide t in
    flat ∙ elim (cases_lt t (8 * n)) [
      | inl h ↦
          let zero_th : t / (8 * n) ≡ 0 = index_of (8 * n) 0 t (omega arith) (omega (arith, h)) in
          ap (λ j. chunk_bit n (get_or (low ∷ high ∷ []) j []) t) zero_th ∙ (first t ∙ ap (λ j. get_or v j false) (omega (arith, at, mod-eq_of_lt h)))
      | inr h ↦
          let first_th : t / (8 * n) ≡ 1 = index_of (8 * n) 1 t (omega (arith, h)) (omega (arith, below, begun, rest)) in
          let left : 8 * n * 1 + t % (8 * n) ≡ t = ap (λ y. 8 * n * y + t % (8 * n)) (sym first_th) ∙ place (8 * n) t in
          ap (λ j. chunk_bit n (get_or (low ∷ high ∷ []) j []) t) first_th ∙ (second t ∙ ap (λ j. get_or v j false) (omega (arith, at, left)))
    ]
  where
    wide : (j : ℕ) → j < 2 → length (get_or (low ∷ high ∷ []) j []) ≡ n
    wide zero h = low_len
    wide (suc zero) h = high_len
    wide (suc (suc j)) h = absurd (omega (arith, h))

-- ---- the bits are joined to one chunk
-- a chunk that starts at the length or past it
pub joined_past : (n : ℕ) (v : List Bool) (len i : ℕ) (old new : List ℕ) → length new ≡ n → len ≤ 8 * n * i → ((k : ℕ) → chunk_bit n new k ≡ get_or v (8 * n * i - len + k % (8 * n)) false) → IsJoined n old len v i new
joined_past n v len i old new size past bits = record {
  size = size;
  bits = λ k e.
      let at : 8 * n * i + k % (8 * n) ≡ k = ap (λ y. 8 * n * y + k % (8 * n)) (sym e) ∙ place (8 * n) k in
      rw (le-ltb k len (omega (arith, at, past))) (bits k ∙ ap (λ j. get_or v j false) (omega (arith, at, past)));
}

-- the chunk of the length
pub joined_begun : (n : ℕ) (v : List Bool) (len i : ℕ) (old new front : List ℕ) → 0 < n → length new ≡ n → len / (8 * n) ≤ i → 8 * n * i < len
    → ((k : ℕ) → k % (8 * n) < len % (8 * n) → chunk_bit n new k ≡ chunk_bit n old k) → ((k : ℕ) → len % (8 * n) ≤ k % (8 * n) → chunk_bit n new k ≡ bytes_bit (front ++ []) (k % (8 * n) - len % (8 * n)))
    → ((k : ℕ) → chunk_bit n front k ≡ get_or v (0 + k % (8 * n)) false) → IsJoined n old len v i new
joined_begun n v len i old new front pos size low starts kept joined bits =
    let up = index_from n i len pos (omega (arith, starts)) in
    let index : len / (8 * n) ≡ i = omega (arith, up, low) in
    let begun : 8 * n * i + len % (8 * n) ≡ len = ap (λ y. 8 * n * y + len % (8 * n)) (sym index) ∙ place (8 * n) len in
    record {
      size = size;
      bits = λ k e.
          let at : 8 * n * i + k % (8 * n) ≡ k = ap (λ y. 8 * n * y + k % (8 * n)) (sym e) ∙ place (8 * n) k in
          let below = mod_below k (8 * n) (omega (arith, pos)) in
          let s : ℕ = k % (8 * n) - len % (8 * n) in
          elim (cases_lt k len) [
            | inl h ↦ rw (lt-ltb k len h) (kept k (omega (arith, at, begun, h)))
            | inr h ↦
                let inside : s < 8 * n = omega (arith, below) in
                rw (le-ltb k len h) (joined k (omega (arith, at, begun, h)) ∙ (front_bit s inside ∙ (bits s ∙ ap (λ j. get_or v j false) (omega (arith, at, begun, h, mod-eq_of_lt inside)))))
          ];
    }
  where
    front_bit : (s : ℕ) → s < 8 * n → bytes_bit (front ++ []) s ≡ chunk_bit n front s
    front_bit s h =
        let byte : s / 8 % n ≡ s / 8 = mod-eq_of_lt (omega (arith, h)) in
        ap (λ ys. bytes_bit ys s) (append-nil front) ∙ sym (ap (λ j. eqb (bit_at_byte (get_or front j 0) (s % 8)) 1) byte)

-- ---- the bits are joined to one chunk after another
module _ (n : ℕ) (other : ℕ → List ℕ) (es fs gs : List (ℕ × List ℕ)) (first i len : ℕ) (v : List Bool) where
  pub none_joined : JoinsChunks n other es es first first len v
  none_joined = record { joined = λ j l h. absurd (omega (arith, l, h)); others = λ j side. refl }

  pub one_joined : first ≤ i → IsSome (lookup (nat_eq i) fs) → (bytes : List ℕ) → IsJoined n (unwrap_or (lookup (nat_eq i) fs) []) len v i bytes → Puts fs gs i (Some bytes) → JoinsChunks n other es fs first i len v → JoinsChunks n other es gs first (i + 1) len v
  one_joined low some bytes has put s = record {
    joined = λ j l h. elim (cases_eq j i) [
      | inl e ↦
          let same : lookup (nat_eq i) fs ≡ lookup (nat_eq i) es = s.others i (inr (omega arith)) in
          rw (put j, eq-eqb j i e, e) (subst (λ old. IsJoined n old len v i bytes) (same_old (lookup (nat_eq i) fs) (lookup (nat_eq i) es) same some) has)
      | inr ne ↦ rw (put j, ne_eqb j i ne) (s.joined j l (omega (arith, h, ne)))
    ];
    others = λ j side. put j ∙ rw (ne_eqb j i (apart j side)) (s.others j (wider j side));
  }
    where
      same_old : (o p : Option (List ℕ)) → o ≡ p → IsSome o → unwrap_or o [] ≡ unwrap_or p (other i)
      same_old None p e h = absurd (false≢true h)
      same_old (Some x) None e h = absurd (not_some x e)
      same_old (Some x) (Some y) e h = ap (λ o. unwrap_or o []) e

      apart : (j : ℕ) → (j < first) ⊎ (i + 1 ≤ j) → j ≢ i
      apart j (inl h) e = omega (arith, h, e, low)
      apart j (inr h) e = omega (arith, h, e)

      wider : (j : ℕ) → (j < first) ⊎ (i + 1 ≤ j) → (j < first) ⊎ (i ≤ j)
      wider j (inl h) = inl h
      wider j (inr h) = inr (omega (arith, h))

-- the next chunk is still there
pub joined_left : (n : ℕ) (other : ℕ → List ℕ) (es fs : List (ℕ × List ℕ)) (first i len : ℕ) (v : List Bool) → IsSome (lookup (nat_eq i) es) → JoinsChunks n other es fs first i len v → IsSome (lookup (nat_eq i) fs)
joined_left n other es fs first i len v some s = rw (s.others i (inr (omega arith))) some

-- ---- the chunks are opened, and then the bits are joined to all of them
module _ (n : ℕ) (other : ℕ → List ℕ) (es mid fs : List (ℕ × List ℕ)) (first past len : ℕ) (v : List Bool) (opened : OpensChunks other es mid first past) where
  there : (q : ℕ) → first ≤ q → q < past → lookup (nat_eq q) mid ≡ Some (unwrap_or (lookup (nat_eq q) es) (other q))
  there q l h = opened_at es mid first past q (λ k. Some (unwrap_or (lookup (nat_eq k) es) (other k))) opened l h

  pub each_opened : (q : ℕ) → first ≤ q → q < past → IsSome (lookup (nat_eq q) mid)
  each_opened q l h = rw (there q l h) refl

  pub opened_and_joined : JoinsChunks n (λ q. []) mid fs first past len v → JoinsChunks n other es fs first past len v
  opened_and_joined s = record {
    joined = λ q l h. subst (λ o. MatchOption (lookup (nat_eq q) fs) ⊥ (IsJoined n (unwrap_or o []) len v q)) (there q l h) (s.joined q l h);
    others = λ q side. s.others q side ∙ beside_opened es mid first past q (λ k. Some (unwrap_or (lookup (nat_eq k) es) (other k))) opened side;
  }
