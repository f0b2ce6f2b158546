-- Each edit of the pending edits is that edit of the pending bitmap, and it keeps their invariant.
use Rattle.std.proofs.Common.{◌≡◌, ℕ, ◌+◌, ◌-◌, ◌*◌, ◌/◌, ◌%◌, ◌<◌, ◌≤◌, List, [], ◌∷◌, length, drop, refl, ap, arith, sym, ◌∙◌, subst}
use mathlib.Core.Logic.{inl, inr, ◌≢◌, ◌⊎◌}
use Rattle.std.proofs.lemmas.List.{length-append, length-take-le, length-set, length-drop, get_or_append_left, get_or-append_right}
use Rattle.std.proofs.lemmas.List.FromFn.{get_or-map-range_with_len, length-map-range_with_len}
use Rattle.std.proofs.lemmas.Bool.{cases_lt, cases_eq, eq-eqb, ne_eqb, lt-ltb, le-ltb}
use Rattle.std.proofs.lemmas.Nat.{le-div, div-mul-add, mul-le}
use Rattle.std.specs.Prelude.{Bool, false, cond, ◌==◌, map, max, nat_eq, Option, Some, None, MatchOption, unwrap_or}
use Rattle.std.specs.Map.{lookup}
use Rattle.bitmap_bytes.specs.Chunk.{chunk_bit}
use Rattle.bitmap_core.specs.PrunedBits.{PrunedBits, pruned_bits, bit_len, bit_at, from_bits, IsRetained, chunk, pushed, popped, set_at, pruned_to, truncated}
use Rattle.bitmap_bytes.proofs.Chunks.Places.{same_place}
use Rattle.bitmap_core.proofs.Pruned.Positions.{place, front_of, same_from_bits, bit_from_bits, len_from_bits}
use Rattle.bitmap_core.proofs.Pruned.Edits.{bit_pushed, bit_truncated, bit_set, bit_pruned, popped_is}
use Rattle.historical_bitmap.specs.Edits.{Edit, after, IsAccepted, from_to}
use Rattle.historical_bitmap.specs.Edits.Edit.{Push, Pop, Set, Prune}
use Rattle.historical_bitmap.specs.Record.{bit_or_else}
use Rattle.historical_bitmap.specs.Pending.{PendingEdits, unedited, edited_chunk, pending_bit, pending_bits, pending_chunk, old_chunk, IsWritten, Writes, Pops, Prunes, Follows, IsEdited, IsCaptured, PendingFits}
use Rattle.historical_bitmap.proofs.Records.Restores.{bit_in_chunk}

-- a bitmap with the pending bits is the pending bitmap
pub same_pending : (n : ℕ) (b : PrunedBits) (l : PendingEdits) (c : PrunedBits) → l.pruned ≡ c.pruned → l.len ≡ bit_len n c → ((k : ℕ) → IsRetained n c k → pending_bit n b l k ≡ bit_at n c k) → pending_bits n b l ≡ c
same_pending n b l c e m h = ap (λ (q : ℕ). from_bits n q l.len (pending_bit n b l)) e ∙ (ap (λ (j : ℕ). from_bits n c.pruned j (pending_bit n b l)) m ∙ same_from_bits n c (pending_bit n b l) h)

-- at the start of a batch the pending bitmap is the current one
pub unedited_pending : (n : ℕ) (b : PrunedBits) → pending_bits n b (unedited n b) ≡ b
unedited_pending n b = same_from_bits n b (pending_bit n b (unedited n b)) (λ k h. refl)

pub length_chunk : (n : ℕ) (b : PrunedBits) (i : ℕ) → length (chunk n b i) ≡ n
length_chunk n b i = length-map-range_with_len _ 0 n

module _ (n : ℕ) (b : PrunedBits) (l : PendingEdits) (pos : 0 < n) (fits : PendingFits n b l) where
  pub pending_len : bit_len n (pending_bits n b l) ≡ l.len
  pending_len = len_from_bits n l.pruned l.len (pending_bit n b l) fits.prefix

  pub pending_at : (k : ℕ) → 8 * n * l.pruned ≤ k → k < l.len → bit_at n (pending_bits n b l) k ≡ pending_bit n b l k
  pending_at k p h = bit_from_bits n l.pruned l.len (pending_bit n b l) k p h

  base : (k : ℕ) → 8 * n * l.pruned ≤ k → pruned_bits n b ≤ k
  base k h = omega (arith, h, mul-le (8 * n) b.pruned (8 * n) l.pruned (omega arith) fits.rises)

  -- the bits of a chunk with the pending edits
  pub chunk_bit_is : (k : ℕ) → pruned_bits n b ≤ k → k < l.len → chunk_bit n (pending_chunk n b l (k / (8 * n))) k ≡ pending_bit n b l k
  chunk_bit_is k p h = by_cases (edited_chunk l (k / (8 * n)))
    where
      by_cases : (o : Option (List ℕ)) → chunk_bit n (unwrap_or o (chunk n (truncated n b l.len) (k / (8 * n)))) k ≡ bit_or_else n o b k
      by_cases None = bit_in_chunk n (truncated n b l.len) k pos ∙ (bit_truncated n b l.len k p ∙ rw (lt-ltb k l.len h) refl)
      by_cases (Some bytes) = refl

  pub chunk_bit_past : (i k : ℕ) → b.pruned ≤ i → k / (8 * n) ≡ i → l.len ≤ k → chunk_bit n (pending_chunk n b l i) k ≡ false
  chunk_bit_past i k low e past = by_cases (edited_chunk l i) (fits.edited i)
    where
      above : pruned_bits n b ≤ k
      above = omega (arith, mul-le (8 * n) b.pruned (8 * n) i (omega arith) low, place (8 * n) k, ap (λ y. 8 * n * y) e)

      by_cases : (o : Option (List ℕ)) → MatchOption o (Unit {0}) (IsEdited n b l i) → chunk_bit n (unwrap_or o (chunk n (truncated n b l.len) i)) k ≡ false
      by_cases None f = ap (λ j. chunk_bit n (chunk n (truncated n b l.len) j) k) (sym e) ∙ (bit_in_chunk n (truncated n b l.len) k pos ∙ (bit_truncated n b l.len k above ∙ rw (le-ltb k l.len past) refl))
      by_cases (Some bytes) f = f.clear k e past

  -- ---- a bit is written in its chunk
  module _ (k : ℕ) (x : Bool) (total : ℕ) (m : PendingEdits) (w : Writes n b l k x total m) (low : 8 * n * l.pruned ≤ k) where
    bit_written : (j : ℕ) → 8 * n * l.pruned ≤ j → (j < l.len) ⊎ (j ≡ k) → pending_bit n b m j ≡ cond (j == k) x (pending_bit n b l j)
    bit_written j p within = elim (cases_eq (j / (8 * n)) (k / (8 * n))) [
      | inl e ↦ rw (w.edited (j / (8 * n)), eq-eqb (j / (8 * n)) (k / (8 * n)) e) (elim (cases_eq j k) [
        | inl f ↦ rw (eq-eqb j k f, f) w.written.bits.here
        | inr ne ↦
            let other : j % (8 * n) ≢ k % (8 * n) = λ f. ne (same_place (8 * n) j k e f) in
            rw (ne_eqb j k ne) (w.written.bits.others j other ∙ rw (sym e) (chunk_bit_is j (base j p) (elim within [ inl h ↦ h | inr f ↦ absurd (ne f) ])))
      ])
      | inr ne ↦ rw (w.edited (j / (8 * n)), ne_eqb (j / (8 * n)) (k / (8 * n)) ne, ne_eqb j k (λ f. ne (ap (λ y. y / (8 * n)) f))) refl
    ]

    write_fits : k < total → l.len ≤ total → ((j : ℕ) → j < total → (j < l.len) ⊎ (j ≡ k)) → PendingFits n b m
    write_fits inside more within = record {
      prefix = rw (w.len, w.pruned) (omega (arith, low, inside));
      rises = rw w.pruned fits.rises;
      covered = λ j p h none. elim (cases_eq (j / (8 * n)) (k / (8 * n))) [
        | inl e ↦ let f = rw (w.edited (j / (8 * n)), eq-eqb (j / (8 * n)) (k / (8 * n)) e) at none in cc
        | inr ne ↦ elim (within j (rw w.len at h)) [
          | inl s ↦ fits.covered j (rw w.pruned at p) s (rw (w.edited (j / (8 * n)), ne_eqb (j / (8 * n)) (k / (8 * n)) ne) at none)
          | inr f ↦ absurd (ne (ap (λ y. y / (8 * n)) f))
        ]
      ];
      edited = λ i. elim (cases_eq i (k / (8 * n))) [
        | inl e ↦ rw (w.edited i, eq-eqb i (k / (8 * n)) e) (new_one i e)
        | inr ne ↦ rw (w.edited i, ne_eqb i (k / (8 * n)) ne) (old_one i (edited_chunk l i) (fits.edited i))
      ];
      count = rw (w.captured, w.pruned) fits.count;
      captured = λ i p h. rw w.captured (fits.captured i p (rw w.pruned at h));
    }
      where
        new_one : (i : ℕ) → i ≡ k / (8 * n) → IsEdited n b m i w.bytes
        new_one i e =
            let down : 8 * n * i ≤ k = omega (arith, place (8 * n) k, ap (λ y. 8 * n * y) e) in
            record {
              low = omega (arith, e, le-div b.pruned k (8 * n) (omega arith) (omega (arith, base k low)));
              high = rw w.len (omega (arith, down, inside));
              size = w.written.size;
              clear = λ j f past.
                  let past_len : total ≤ j = rw w.len at past in
                  let other : j % (8 * n) ≢ k % (8 * n) = λ g. absurd (omega (arith, past_len, inside, same_place (8 * n) j k (f ∙ e) g)) in
                  w.written.bits.others j other ∙ rw (sym e) (chunk_bit_past i j (omega (arith, e, le-div b.pruned k (8 * n) (omega arith) (omega (arith, base k low)))) f (omega (arith, past_len, more)));
            }

        old_one : (i : ℕ) (o : Option (List ℕ)) → MatchOption o (Unit {0}) (IsEdited n b l i) → MatchOption o (Unit {0}) (IsEdited n b m i)
        old_one i None f = tt
        old_one i (Some bytes) f = record {
          low = f.low;
          high = rw w.len (omega (arith, f.high, more));
          size = f.size;
          clear = λ j g past. f.clear j g (let past_len : total ≤ j = rw w.len at past in omega (arith, past_len, more));
        }

  pub set_follows : (k : ℕ) (x : Bool) (m : PendingEdits) → Writes n b l k x l.len m → IsRetained n (pending_bits n b l) k → (pending_bits n b m ≡ set_at n (pending_bits n b l) k x) × PendingFits n b m
  set_follows k x m w ok =
      let inside : k < l.len = omega (arith, ok.1, pending_len) in
      let len : m.len ≡ bit_len n (set_at n (pending_bits n b l) k x) = w.len ∙ omega (arith, pending_len, length-set (pending_bits n b l).bits (k - 8 * n * l.pruned) x) in (
        same_pending n b m (set_at n (pending_bits n b l) k x) w.pruned len (λ j h.
            let within : j < l.len = omega (arith, h.1, len, w.len) in
            bit_written k x l.len m w ok.0 j h.0 (inl within) ∙ (ap (λ y. cond (j == k) x y) (sym (pending_at j h.0 within)) ∙ sym (bit_set n (pending_bits n b l) k x j ok h.0))),
        write_fits k x l.len m w ok.0 inside (omega arith) (λ j h. inl h),
      )

  pub push_follows : (x : Bool) (m : PendingEdits) → Writes n b l l.len x (l.len + 1) m → (pending_bits n b m ≡ pushed (pending_bits n b l) x) × PendingFits n b m
  push_follows x m w =
      let len : m.len ≡ bit_len n (pushed (pending_bits n b l) x) = w.len ∙ omega (arith, pending_len, length-append (pending_bits n b l).bits (x ∷ [])) in (
        same_pending n b m (pushed (pending_bits n b l) x) w.pruned len (λ j h.
            let within : j < l.len + 1 = omega (arith, h.1, len, w.len) in
            bits j h.0 within ∙ sym (bit_pushed n (pending_bits n b l) x j h.0)),
        write_fits l.len x (l.len + 1) m w fits.prefix (omega arith) (omega arith) (λ j h. or_last j h),
      )
    where
      or_last : (j : ℕ) → j < l.len + 1 → (j < l.len) ⊎ (j ≡ l.len)
      or_last j h = elim (cases_lt j l.len) [ inl s ↦ inl s | inr s ↦ inr (omega arith) ]

      bits : (j : ℕ) → 8 * n * l.pruned ≤ j → j < l.len + 1 → pending_bit n b m j ≡ cond (j == bit_len n (pending_bits n b l)) x (bit_at n (pending_bits n b l) j)
      bits j p h = bit_written l.len x (l.len + 1) m w fits.prefix j p (or_last j h) ∙ elim (cases_eq j l.len) [
        | inl e ↦ rw (eq-eqb j l.len e, eq-eqb j (bit_len n (pending_bits n b l)) (omega (arith, e, pending_len))) refl
        | inr ne ↦ rw (ne_eqb j l.len ne, ne_eqb j (bit_len n (pending_bits n b l)) (λ e. ne (omega (arith, e, pending_len)))) (sym (pending_at j p (omega arith)))
      ]

  -- ---- a pop
  module _ (m : PendingEdits) (w : Pops n l m) (some : 8 * n * l.pruned < l.len) where
    abbrev last : ℕ
    last = l.len - 1

    same_bit : (j : ℕ) (o left : Option (List ℕ)) → j < last → j / (8 * n) ≡ last / (8 * n)
        → MatchOption left ((last % (8 * n) ≡ 0) ⊎ (o ≡ None)) (λ bytes. (0 < last % (8 * n)) × MatchOption o ⊥ (λ old. IsWritten n old last false bytes))
        → bit_or_else n left b j ≡ bit_or_else n o b j
    same_bit j None None h e f = refl
    same_bit j (Some old) None h e (inl z) = absurd (omega (arith, place (8 * n) j, place (8 * n) last, ap (λ y. 8 * n * y) e))
    same_bit j (Some old) None h e (inr z) = cc
    same_bit j None (Some bytes) h e f = absurd f.1
    same_bit j (Some old) (Some bytes) h e f = f.1.bits.others j (λ g. absurd (omega (arith, same_place (8 * n) j last e g)))

    bit_popped : (j : ℕ) → j < last → pending_bit n b m j ≡ pending_bit n b l j
    bit_popped j h = elim (cases_eq (j / (8 * n)) (last / (8 * n))) [
      | inl e ↦ rw (w.edited (j / (8 * n)), eq-eqb (j / (8 * n)) (last / (8 * n)) e, e) (same_bit j (edited_chunk l (last / (8 * n))) w.left h e w.clears)
      | inr ne ↦ rw (w.edited (j / (8 * n)), ne_eqb (j / (8 * n)) (last / (8 * n)) ne) refl
    ]

    popped_bits : pending_bits n b m ≡ popped (pending_bits n b l)
    popped_bits =
        let len : m.len ≡ bit_len n (popped (pending_bits n b l)) = w.len ∙ omega (arith, pending_len, some, length-take-le (length (pending_bits n b l).bits - 1) (pending_bits n b l).bits (omega arith)) in
        same_pending n b m (popped (pending_bits n b l)) w.pruned len (λ j h.
        let within : j < last = omega (arith, h.1, len, w.len) in
        bit_popped j within ∙ (sym (pending_at j h.0 (omega arith)) ∙ (sym (short j within h.0) ∙ ap (λ c. bit_at n c j) (sym (popped_is n (pending_bits n b l))))))
      where
        short : (j : ℕ) → j < last → 8 * n * l.pruned ≤ j → bit_at n (truncated n (pending_bits n b l) (bit_len n (pending_bits n b l) - 1)) j ≡ bit_at n (pending_bits n b l) j
        short j h p = bit_truncated n (pending_bits n b l) (bit_len n (pending_bits n b l) - 1) j p ∙ rw (lt-ltb j (bit_len n (pending_bits n b l) - 1) (omega (arith, pending_len))) refl

    none_before : (j : ℕ) (o left : Option (List ℕ)) → j < last → j / (8 * n) ≡ last / (8 * n)
        → MatchOption left ((last % (8 * n) ≡ 0) ⊎ (o ≡ None)) (λ bytes. (0 < last % (8 * n)) × MatchOption o ⊥ (λ old. IsWritten n old last false bytes))
        → left ≡ None → o ≡ None
    none_before j None left h e f g = refl
    none_before j (Some old) None h e (inl z) g = absurd (omega (arith, place (8 * n) j, place (8 * n) last, ap (λ y. 8 * n * y) e))
    none_before j (Some old) None h e (inr z) g = z
    none_before j (Some old) (Some bytes) h e f g = cc

    left_fits : (i : ℕ) (o left : Option (List ℕ)) → i ≡ last / (8 * n) → MatchOption o (Unit {0}) (IsEdited n b l i)
        → MatchOption left ((last % (8 * n) ≡ 0) ⊎ (o ≡ None)) (λ bytes. (0 < last % (8 * n)) × MatchOption o ⊥ (λ old. IsWritten n old last false bytes))
        → MatchOption left (Unit {0}) (IsEdited n b m i)
    left_fits i o None e f g = tt
    left_fits i None (Some bytes) e f g = absurd g.1
    left_fits i (Some old) (Some bytes) e f g = record {
      low = f.low;
      high = rw w.len (omega (arith, place (8 * n) last, g.0, ap (λ y. 8 * n * y) e));
      size = g.1.size;
      clear = λ j s past.
          let past_len : last ≤ j = rw w.len at past in
          elim (cases_eq j last) [
            | inl same ↦ rw same g.1.bits.here
            | inr ne ↦ g.1.bits.others j (λ rest. ne (same_place (8 * n) j last (s ∙ e) rest)) ∙ f.clear j s (omega (arith, past_len, ne))
          ];
    }

    other_fits : (i : ℕ) (o : Option (List ℕ)) → i ≢ last / (8 * n) → MatchOption o (Unit {0}) (IsEdited n b l i) → MatchOption o (Unit {0}) (IsEdited n b m i)
    other_fits i None ne f = tt
    other_fits i (Some bytes) ne f = record {
      low = f.low;
      high = rw w.len (let apart = not_there (8 * n * i) (start i) in omega (arith, f.high, apart));
      size = f.size;
      clear = λ j s past.
          let past_len : last ≤ j = rw w.len at past in
          let apart = not_there j s in
          f.clear j s (omega (arith, past_len, apart));
    }
      where
        not_there : (j : ℕ) → j / (8 * n) ≡ i → j ≢ last
        not_there j s e = ne (sym s ∙ ap (λ y. y / (8 * n)) e)

        start : (i : ℕ) → 8 * n * i / (8 * n) ≡ i
        start i = let e : 8 * n * i ≡ i * (8 * n) + 0 = omega arith in ap (λ y. y / (8 * n)) e ∙ div-mul-add i (8 * n) 0 (omega arith)

    pop_fits : PendingFits n b m
    pop_fits = record {
      prefix = rw (w.len, w.pruned) (omega (arith, some));
      rises = rw w.pruned fits.rises;
      covered = λ j p h none.
          let within : j < last = rw w.len at h in
          fits.covered j (rw w.pruned at p) (omega arith) (elim (cases_eq (j / (8 * n)) (last / (8 * n))) [
            | inl e ↦ ap (λ y. edited_chunk l y) e ∙ none_before j (edited_chunk l (last / (8 * n))) w.left within e w.clears (rw (w.edited (j / (8 * n)), eq-eqb (j / (8 * n)) (last / (8 * n)) e) at none)
            | inr ne ↦ rw (w.edited (j / (8 * n)), ne_eqb (j / (8 * n)) (last / (8 * n)) ne) at none
          ]);
      edited = λ i. elim (cases_eq i (last / (8 * n))) [
        | inl e ↦ rw (w.edited i, eq-eqb i (last / (8 * n)) e) (left_fits i (edited_chunk l (last / (8 * n))) w.left e (subst (λ y. MatchOption (edited_chunk l y) (Unit {0}) (IsEdited n b l i)) e (fits.edited i)) w.clears)
        | inr ne ↦ rw (w.edited i, ne_eqb i (last / (8 * n)) ne) (other_fits i (edited_chunk l i) ne (fits.edited i))
      ];
      count = rw (w.captured, w.pruned) fits.count;
      captured = λ i p h. rw w.captured (fits.captured i p (rw w.pruned at h));
    }

  pub pop_follows : (m : PendingEdits) → Pops n l m → 8 * n * l.pruned < l.len → (pending_bits n b m ≡ popped (pending_bits n b l)) × PendingFits n b m
  pop_follows m w some = (popped_bits m w some, pop_fits m w some)

  -- ---- a prune
  pub old_captured : (i : ℕ) → IsCaptured n b i (old_chunk n b l i)
  old_captured i = elim (cases_lt (8 * n * i) (bit_len n b)) [
    | inl h ↦ rw (lt-ltb (8 * n * i) (bit_len n b) h) (record { size = length_chunk n b i; old = λ h. refl })
    | inr h ↦ rw (le-ltb (8 * n * i) (bit_len n b) h) (record { size = size_of (edited_chunk l i) (fits.edited i); old = λ h2. absurd (omega (arith, h, h2)) })
  ]
    where
      size_of : (o : Option (List ℕ)) → MatchOption o (Unit {0}) (IsEdited n b l i) → length (unwrap_or o (chunk n (truncated n b l.len) i)) ≡ n
      size_of None f = length_chunk n (truncated n b l.len) i
      size_of (Some bytes) f = f.size

  module _ (q : ℕ) (m : PendingEdits) (w : Prunes n b l q m) (within : 8 * n * q ≤ l.len) where
    same_bits : (k : ℕ) → pending_bit n b m k ≡ pending_bit n b l k
    same_bits k = rw w.edited refl

    cut_bits : l.pruned < q → pending_bits n b m ≡ pruned_to n (pending_bits n b l) q
    cut_bits h =
        let e = front_of (8 * n) l.pruned q (omega arith) in
        let c = pruned_to n (pending_bits n b l) q in
        let pruned : pruned_to n (pending_bits n b l) q ≡ record { pruned = q; bits = drop (8 * n * (q - l.pruned)) (pending_bits n b l).bits } = rw (lt-ltb l.pruned q h) refl in
        let count : c.pruned ≡ q = ap (λ y. y.pruned) pruned in
        let len : l.len ≡ bit_len n c = sym (ap (λ y. bit_len n y) pruned ∙ omega (arith, pending_len, e, within, length-drop (8 * n * (q - l.pruned)) (pending_bits n b l).bits)) in
        same_pending n b m c (w.pruned ∙ (omega (arith, h, count))) (w.len ∙ len) (λ k s.
        let low : 8 * n * q ≤ k = omega (arith, s.0, ap (λ y. 8 * n * y) count) in
        same_bits k ∙ (sym (pending_at k (omega (arith, low, e)) (omega (arith, s.1, len))) ∙ sym (bit_pruned n (pending_bits n b l) q k (omega arith) low)))

    pruned_bits_are : pending_bits n b m ≡ pruned_to n (pending_bits n b l) q
    pruned_bits_are = elim (cases_lt l.pruned q) [
      | inl h ↦ cut_bits h
      | inr h ↦ rw (le-ltb l.pruned q h) (same_pending n b m (pending_bits n b l) (w.pruned ∙ omega (arith, h)) (w.len ∙ sym pending_len) (λ k s. same_bits k ∙ sym (pending_at k s.0 (omega (arith, s.1, pending_len)))))
    ]

    abbrev taken : List (List ℕ)
    taken = map (old_chunk n b l) (from_to l.pruned q)

    prune_fits : PendingFits n b m
    prune_fits = record {
      prefix = rw (w.len, w.pruned) (elim (cases_lt l.pruned q) [
        | inl h ↦ let e : max l.pruned q ≡ q = omega arith in rw e within
        | inr h ↦ let e : max l.pruned q ≡ l.pruned = omega arith in rw e fits.prefix
      ]);
      rises = rw w.pruned (omega (arith, fits.rises));
      covered = λ k p h none. fits.covered k (omega (arith, p, mul-le (8 * n) l.pruned (8 * n) m.pruned (omega arith) (rw w.pruned (omega arith)))) (rw w.len at h) (rw w.edited at none);
      edited = λ i. subst (λ es. MatchOption (lookup (nat_eq i) es) (Unit {0}) (IsEdited n b m i)) (sym w.edited) (same_fits i (edited_chunk l i) (fits.edited i));
      count = rw (w.captured, w.pruned) (omega (arith, length-append l.captured taken, taken_len, fits.count, fits.rises));
      captured = λ i p h. rw w.captured (elim (cases_lt i l.pruned) [
        | inl s ↦ rw (get_or_append_left l.captured taken [] (i - b.pruned) (omega (arith, fits.count, s, p))) (fits.captured i p s)
        | inr s ↦
            let below : i < q = omega (arith, (let y : i < max l.pruned q = rw w.pruned at h in y), s) in
            rw (
              get_or-append_right l.captured taken (length l.captured) (i - b.pruned) [] refl (omega (arith, fits.count, s)),
              get_or-map-range_with_len (old_chunk n b l) l.pruned (q - l.pruned) (i - b.pruned - length l.captured) i [] (omega (arith, fits.count, s, below, p, fits.rises)) (omega (arith, fits.count, s, p, fits.rises)),
            ) (old_captured i)
      ]);
    }
      where
        taken_len : length taken ≡ q - l.pruned
        taken_len = length-map-range_with_len (old_chunk n b l) l.pruned (q - l.pruned)

        same_fits : (i : ℕ) (o : Option (List ℕ)) → MatchOption o (Unit {0}) (IsEdited n b l i) → MatchOption o (Unit {0}) (IsEdited n b m i)
        same_fits i None f = tt
        same_fits i (Some bytes) f = record { low = f.low; high = rw w.len f.high; size = f.size; clear = λ j s past. f.clear j s (rw w.len at past) }

  pub prune_follows : (q : ℕ) (m : PendingEdits) → Prunes n b l q m → 8 * n * q ≤ l.len → (pending_bits n b m ≡ pruned_to n (pending_bits n b l) q) × PendingFits n b m
  prune_follows q m w within = (pruned_bits_are q m w within, prune_fits q m w within)

-- each accepted edit of the pending edits is that edit of the pending bitmap, and keeps their invariant
pub edit_follows : (n : ℕ) (b : PrunedBits) (l m : PendingEdits) (e : Edit) → 0 < n → PendingFits n b l → IsAccepted n (pending_bits n b l) e → Follows n b l e m → (pending_bits n b m ≡ after n (pending_bits n b l) e) × PendingFits n b m
edit_follows n b l m (Push x) pos fits ok w = push_follows n b l pos fits x m w
edit_follows n b l m Pop pos fits ok w = pop_follows n b l pos fits m w (omega (arith, pending_len n b l pos fits, ok))
edit_follows n b l m (Set k x) pos fits ok w = set_follows n b l pos fits k x m w ok
edit_follows n b l m (Prune k) pos fits ok w = prune_follows n b l pos fits (k / (8 * n)) m w (omega (arith, place (8 * n) k, pending_len n b l pos fits, ok))

-- at the start of a batch the invariant of the pending edits holds
pub unedited_fits : (n : ℕ) (b : PrunedBits) → PendingFits n b (unedited n b)
unedited_fits n b = record {
  prefix = omega arith;
  rises = omega arith;
  covered = λ k p h none. h;
  edited = λ i. tt;
  count = omega arith;
  captured = λ i p h. absurd (omega arith);
}
