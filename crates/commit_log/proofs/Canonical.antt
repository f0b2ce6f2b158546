-- A list of chunks is that of the chunks that differ exactly if it passes the test of one pass.
use Rattle.std.proofs.Common.{◌≡◌, ℕ, zero, suc, ◌+◌, ◌-◌, ◌*◌, ◌/◌, ◌<◌, ◌≤◌, Bool, true, false, cond, not, List, [], ◌∷◌, Option, Some, None, refl, sym, ap, subst, ◌∙◌, arith, inl, inr}
use Rattle.std.specs.Prelude.{nat_eq, max}
use Rattle.std.specs.Bool.{Decides}
use Rattle.std.specs.Map.{lookup}
use Rattle.std.specs.List.{filter, range_with_len}
use Rattle.std.proofs.lemmas.Bool.{cases_Bool, cases_lt, eq-eqb, ne_eqb, false≢true}
use Rattle.std.proofs.lemmas.Nat.{mul-le}
use Rattle.std.proofs.lemmas.Option.{none-some, same_Some}
use Rattle.std.proofs.lemmas.List.FromFn.{length-map-range_with_len, get_or-map-range_with_len}
use Rattle.std.proofs.lemmas.List.{get_or_past}
use Rattle.bitmap_bytes.specs.Chunk.{bit_value, chunk_bit, byte_of, IsChunk}
use Rattle.bitmap_core.specs.PrunedBits.{PrunedBits, bit_at, bit_len, chunk}
use Rattle.bitmap_core.proofs.Pruned.Positions.{bit_from_bits, bit_past, len_from_bits}
use Rattle.historical_bitmap.specs.Changes.{changed, chunk_total, differs, listed, retained_bytes, with_bytes}
use Rattle.historical_bitmap.specs.Record.{bit_or_else}
use Rattle.historical_bitmap.proofs.Changes.Patched.{same_option, past_total}
use Rattle.historical_bitmap.proofs.Changes.Unnamed.{bytes_none, bytes_there, chunk_from_bits, is_there, not_different, not_pruned}
use Rattle.historical_bitmap.proofs.Pending.Chunks.{chunk_with_bits}
use Rattle.historical_bitmap.proofs.Records.Restores.{bit_in_chunk}
use Rattle.commit_log.specs.Entries.{Change}
use Rattle.commit_log.specs.Kept.{applied}
use Rattle.commit_log.specs.ListOfChanges.{IsZeroFrom, IsListed, IsLeftOut, ListsFrom, IsListOfChanges}
use Rattle.commit_log.specs.Accepted.{Follows, HasExtent, IsCanonical}
use Rattle.commit_log.specs.Making.{AscendFrom}

-- ---- a list that is made of optional items, by index

-- the items of m indices from lo on, each with its index
abbrev made : (ℕ → Option (List ℕ)) → ℕ → ℕ → List (ℕ × List ℕ)
made item lo zero = []
made item lo (suc m) = with_bytes lo (item lo) (made item (lo + 1) m)

-- these are the items from an index on
abbrev ItemsFrom : (ℕ → Option (List ℕ)) → ℕ → List (ℕ × List ℕ) → Type 0
ItemsFrom item lo [] = (i : ℕ) → lo ≤ i → item i ≡ None
ItemsFrom item lo (e ∷ es) = (lo ≤ e.0) × ((i : ℕ) → lo ≤ i → i < e.0 → item i ≡ None) × (item e.0 ≡ Some e.1) × ItemsFrom item (e.0 + 1) es

earlier : (item : ℕ → Option (List ℕ)) (lo hi : ℕ) (es : List (ℕ × List ℕ)) → lo ≤ hi → ((i : ℕ) → lo ≤ i → i < hi → item i ≡ None) → ItemsFrom item hi es → ItemsFrom item lo es
earlier item lo hi [] le none h = λ i l. elim (cases_lt i hi) [ inl s ↦ none i l s | inr s ↦ h i s ]
earlier item lo hi (e ∷ es) le none h = (omega (arith, le, h.0), (λ i l s. elim (cases_lt i hi) [ inl t ↦ none i l t | inr t ↦ h.1 i t s ]), h.2, h.3)

not_before : (item : ℕ → Option (List ℕ)) (lo hi i : ℕ) (bytes : List ℕ) → ((j : ℕ) → lo ≤ j → j < hi → item j ≡ None) → lo ≤ i → item i ≡ Some bytes → hi ≤ i
not_before item lo hi i bytes none l is = elim (cases_lt i hi) [ inl s ↦ absurd (none-some bytes (sym (none i l s) ∙ is)) | inr s ↦ s ]

later : (item : ℕ → Option (List ℕ)) (lo hi : ℕ) (es : List (ℕ × List ℕ)) → lo ≤ hi → ((i : ℕ) → lo ≤ i → i < hi → item i ≡ None) → ItemsFrom item lo es → ItemsFrom item hi es
later item lo hi [] le none h = λ i l. h i (omega (arith, le, l))
later item lo hi (e ∷ es) le none h = (not_before item lo hi e.0 e.1 none h.0 h.2, (λ i l s. h.1 i (omega (arith, le, l)) s), h.2, h.3)

-- the list of the items is what is made of them
made_is : (item : ℕ → Option (List ℕ)) (lo m : ℕ) (es : List (ℕ × List ℕ)) → ((i : ℕ) → lo + m ≤ i → item i ≡ None) → ItemsFrom item lo es → made item lo m ≡ es
made_is item lo zero [] past h = refl
made_is item lo zero (e ∷ es) past h = absurd (none-some e.1 (sym (past e.0 (omega (arith, h.0))) ∙ h.2))
made_is item lo (suc m) [] past h =
    ap (λ (o : Option (List ℕ)). with_bytes lo o (made item (lo + 1) m)) (h lo (omega arith))
    ∙ made_is item (lo + 1) m [] (λ i l. past i (omega (arith, l))) (λ i l. h i (omega (arith, l)))
made_is item lo (suc m) (e ∷ es) past h = elim (cases_lt lo e.0) [
  | inl less ↦
      ap (λ (o : Option (List ℕ)). with_bytes lo o (made item (lo + 1) m)) (h.1 lo (omega arith) less)
      ∙ made_is item (lo + 1) m (e ∷ es) (λ i l. past i (omega (arith, l))) (omega (arith, less), (λ i l s. h.1 i (omega (arith, l)) s), h.2, h.3)
  | inr more ↦
      let same : e.0 ≡ lo = omega (arith, h.0, more) in
      let here : item lo ≡ Some e.1 = ap item (sym same) ∙ h.2 in
      let rest : made item (lo + 1) m ≡ es = made_is item (lo + 1) m es (λ i l. past i (omega (arith, l))) (subst (λ (x : ℕ). ItemsFrom item (x + 1) es) same h.3) in
      ap (λ (o : Option (List ℕ)). with_bytes lo o (made item (lo + 1) m)) here ∙ (λ j. (sym same j, e.1) ∷ rest j)
]

with_items : (item : ℕ → Option (List ℕ)) (lo : ℕ) (o : Option (List ℕ)) (es : List (ℕ × List ℕ)) → item lo ≡ o → ItemsFrom item (lo + 1) es → ItemsFrom item lo (with_bytes lo o es)
with_items item lo None es e h = earlier item lo (lo + 1) es (omega arith) (λ i l s. let same : i ≡ lo = omega (arith, l, s) in ap item same ∙ e) h
with_items item lo (Some bytes) es e h = (omega arith, (λ i l s. absurd (omega (arith, l, s))), e, h)

-- what is made of the items is the list of them
is_made : (item : ℕ → Option (List ℕ)) (lo m : ℕ) → ((i : ℕ) → lo + m ≤ i → item i ≡ None) → ItemsFrom item lo (made item lo m)
is_made item lo zero past = λ i l. past i (omega (arith, l))
is_made item lo (suc m) past = with_items item lo (item lo) (made item (lo + 1) m) refl (is_made item (lo + 1) m (λ i l. past i (omega (arith, l))))

-- the chunks that pass a test, with the bytes of those that a bitmap retains
listed_made : (n : ℕ) (new : PrunedBits) (d : ℕ → Bool) (lo m : ℕ) → listed n new (filter d (range_with_len lo m)) ≡ made (λ i. cond (d i) (retained_bytes n new i) None) lo m
listed_made n new d lo zero = refl
listed_made n new d lo (suc m) = elim (cases_Bool (d lo)) [
  | inl t ↦ rw t (ap (λ (xs : List (ℕ × List ℕ)). with_bytes lo (retained_bytes n new lo) xs) (listed_made n new d (lo + 1) m))
  | inr f ↦ rw f (listed_made n new d (lo + 1) m)
]

-- ---- an item that is there if a test passes

none_there : (b : Bool) (r : Option (List ℕ)) → r ≡ None → cond b r None ≡ None
none_there true r e = e
none_there false r e = refl

not_tested : (b : Bool) (r : Option (List ℕ)) → b ≡ false → cond b r None ≡ None
not_tested true r e = absurd (false≢true (sym e))
not_tested false r e = refl

tested : (b : Bool) (r o : Option (List ℕ)) → b ≡ true → r ≡ o → cond b r None ≡ o
tested true r o t e = e
tested false r o t e = absurd (false≢true t)

some_there : (b : Bool) (r : Option (List ℕ)) (bytes : List ℕ) → cond b r None ≡ Some bytes → (b ≡ true) × (r ≡ Some bytes)
some_there true r bytes e = (refl, e)
some_there false r bytes e = absurd (none-some bytes e)

none_here : (b : Bool) (r : Option (List ℕ)) (bytes : List ℕ) → r ≡ Some bytes → cond b r None ≡ None → b ≡ false
none_here true r bytes there e = absurd (none-some bytes (sym e ∙ there))
none_here false r bytes there e = refl

-- ---- chunks

digit_below : (x : Bool) → bit_value x < 2
digit_below true = omega arith
digit_below false = omega arith

byte_below : (f : ℕ → Bool) → byte_of f < 256
byte_below f =
    let a = digit_below (f 0) in
    let b = digit_below (f 1) in
    let c = digit_below (f 2) in
    let d = digit_below (f 3) in
    let e = digit_below (f 4) in
    let g = digit_below (f 5) in
    let h = digit_below (f 6) in
    let k = digit_below (f 7) in
    omega (arith, a, b, c, d, e, g, h, k)

-- a chunk of a bitmap is n bytes
pub chunk_is : (n : ℕ) (b : PrunedBits) (i : ℕ) → IsChunk n (chunk n b i)
chunk_is n b i = record {
  len = length-map-range_with_len _ 0 n;
  bytes = λ k. elim (cases_lt k n) [
    | inl s ↦ rw (get_or-map-range_with_len (λ j. byte_of (λ t. bit_at n b (8 * n * i + 8 * j + t))) 0 n k k 0 s (omega arith)) (byte_below (λ t. bit_at n b (8 * n * i + 8 * k + t)))
    | inr s ↦ rw (get_or_past (chunk n b i) k 0 (omega (arith, s, length-map-range_with_len (λ j. byte_of (λ t. bit_at n b (8 * n * i + 8 * j + t))) 0 n))) (omega arith)
  ];
}

alike : (n : ℕ) (old new : PrunedBits) (i : ℕ) → differs n old new i ≡ false → retained_bytes n old i ≡ retained_bytes n new i
alike n old new i f = same_option (retained_bytes n old i) (retained_bytes n new i) (is_true _ f)
  where
    is_true : (b : Bool) → not b ≡ false → b ≡ true
    is_true true e = refl
    is_true false e = sym e

-- ---- a change and the bitmap that it makes
module _ (n : ℕ) (old : PrunedBits) (c : Change) (pos : 0 < n) (covers : 8 * n * c.pruned ≤ c.len) where
  abbrev new : PrunedBits
  new = applied n old c

  abbrev item : ℕ → Option (List ℕ)
  item i = cond (differs n old (applied n old c) i) (retained_bytes n (applied n old c) i) None

  len_new : bit_len n new ≡ c.len
  len_new = len_from_bits n c.pruned c.len (λ k. bit_or_else n (lookup (nat_eq (k / (8 * n))) c.chunks) old k) covers

  bit_new : (i k : ℕ) (o : Option (List ℕ)) → c.pruned ≤ i → k / (8 * n) ≡ i → k < c.len → lookup (nat_eq i) c.chunks ≡ o → bit_at n new k ≡ bit_or_else n o old k
  bit_new i k o low e inside found =
      bit_from_bits n c.pruned c.len (λ j. bit_or_else n (lookup (nat_eq (j / (8 * n))) c.chunks) old j) k (not_pruned n new i k low e) inside
      ∙ ap (λ (x : Option (List ℕ)). bit_or_else n x old k) (ap (λ (j : ℕ). lookup (nat_eq j) c.chunks) e ∙ found)

  zero_past : (k : ℕ) → c.len ≤ k → bit_at n new k ≡ false
  zero_past k l = bit_past n new k (omega (arith, len_new, l))

  -- a listed chunk has the listed bytes
  listed_chunk : (i : ℕ) (bytes : List ℕ) → c.pruned ≤ i → 8 * n * i < c.len → lookup (nat_eq i) c.chunks ≡ Some bytes → IsChunk n bytes → IsZeroFrom n c.len i bytes → retained_bytes n new i ≡ Some bytes
  listed_chunk i bytes low high found is zeros = bytes_there n new i (low, omega (arith, high, len_new)) ∙ ap Some (sym (chunk_with_bits n new i bytes pos is bits))
    where
      bits : (k : ℕ) → k / (8 * n) ≡ i → chunk_bit n bytes k ≡ bit_at n new k
      bits k e = elim (cases_lt k c.len) [
        | inl s ↦ sym (bit_new i k (Some bytes) low e s found)
        | inr s ↦ zeros k s e ∙ sym (zero_past k s)
      ]

  -- a chunk that is left out has the old bytes
  left_out_same : (i : ℕ) → c.pruned ≤ i → 8 * n * i < c.len → lookup (nat_eq i) c.chunks ≡ None → IsLeftOut n old c.len i → retained_bytes n old i ≡ retained_bytes n new i
  left_out_same i low high none out = bytes_there n old i out.retained ∙ (ap Some (chunk_from_bits n old new i pos bits) ∙ sym (bytes_there n new i (low, omega (arith, high, len_new))))
    where
      bits : (k : ℕ) → k / (8 * n) ≡ i → bit_at n old k ≡ bit_at n new k
      bits k e = elim (cases_lt k c.len) [
        | inl s ↦ sym (bit_new i k None low e s none)
        | inr s ↦ sym (bit_in_chunk n old k pos) ∙ (ap (λ (j : ℕ). chunk_bit n (chunk n old j) k) e ∙ (out.zeros k s e ∙ sym (zero_past k s)))
      ]

  item_left_out : (i : ℕ) → c.pruned ≤ i → lookup (nat_eq i) c.chunks ≡ None → (8 * n * i < c.len → IsLeftOut n old c.len i) → item i ≡ None
  item_left_out i low none out = elim (cases_lt (8 * n * i) c.len) [
    | inl s ↦ not_tested (differs n old new i) (retained_bytes n new i) (not_different n old new i (left_out_same i low s none (out s)))
    | inr s ↦ none_there (differs n old new i) (retained_bytes n new i) (bytes_none n new i (inr (omega (arith, len_new, s))))
  ]

  item_listed : (e : ℕ × List ℕ) → IsListed n old c.pruned c.len e → lookup (nat_eq e.0) c.chunks ≡ Some e.1 → item e.0 ≡ Some e.1
  item_listed e l found =
      let there : retained_bytes n new e.0 ≡ Some e.1 = listed_chunk e.0 e.1 l.low l.high found l.is_chunk l.zeros in
      elim (cases_Bool (differs n old new e.0)) [
        | inl t ↦ tested (differs n old new e.0) (retained_bytes n new e.0) (Some e.1) t there
        | inr f ↦ absurd (l.differs (alike n old new e.0 f ∙ there))
      ]

  -- no chunk before the first listed one is listed
  none_listed : (from : ℕ) (es : List (ℕ × List ℕ)) (i : ℕ) → ListsFrom n old c.pruned c.len from es → i < from → lookup (nat_eq i) es ≡ None
  none_listed from [] i h l = refl
  none_listed from (e ∷ es) i h l = rw (ne_eqb i e.0 (λ q. absurd (omega (arith, q, l, h.0)))) (none_listed (e.0 + 1) es i h.3 (omega (arith, l, h.0)))

  onward : (from : ℕ) (es : List (ℕ × List ℕ)) → c.pruned ≤ from → ((i : ℕ) → from ≤ i → lookup (nat_eq i) c.chunks ≡ lookup (nat_eq i) es) → ListsFrom n old c.pruned c.len from es → ItemsFrom item from es
  onward from [] low same h = λ i l. item_left_out i (omega (arith, low, l)) (same i l) (λ s. h i l s)
  onward from (e ∷ es) low same h = (
    h.0,
    (λ i l s. item_left_out i (omega (arith, low, l)) (same i l ∙ rw (ne_eqb i e.0 (λ q. absurd (omega (arith, q, s)))) (none_listed (e.0 + 1) es i h.3 (omega (arith, s)))) (λ q. h.2 i l s)),
    item_listed e h.1 (same e.0 h.0 ∙ rw (eq-eqb e.0 e.0 refl) refl),
    onward (e.0 + 1) es (omega (arith, low, h.0)) (λ i l. same i (omega (arith, l, h.0)) ∙ rw (ne_eqb i e.0 (λ q. absurd (omega (arith, q, l)))) refl) h.3,
  )

  -- the bytes of a chunk have no set bit past the length
  new_zero : (i : ℕ) → IsZeroFrom n c.len i (chunk n new i)
  new_zero i k l q = ap (λ (j : ℕ). chunk_bit n (chunk n new j) k) (sym q) ∙ (bit_in_chunk n new k pos ∙ zero_past k l)

  left_out : (i : ℕ) → c.pruned ≤ i → 8 * n * i < c.len → item i ≡ None → IsLeftOut n old c.len i
  left_out i low high e =
      let there : retained_bytes n new i ≡ Some (chunk n new i) = bytes_there n new i (low, omega (arith, high, len_new)) in
      let same : retained_bytes n old i ≡ Some (chunk n new i) = alike n old new i (none_here (differs n old new i) (retained_bytes n new i) (chunk n new i) there e) ∙ there in
      elim (is_there n old i) [
        | inl has ↦
            let bytes : chunk n new i ≡ chunk n old i = same_Some (chunk n new i) (chunk n old i) (sym same ∙ bytes_there n old i has) in
            record { retained = has; zeros = subst (IsZeroFrom n c.len i) bytes (new_zero i) }
        | inr gone ↦ absurd (none-some (chunk n new i) (sym (bytes_none n old i gone) ∙ same))
      ]

  is_listed : (e : ℕ × List ℕ) → item e.0 ≡ Some e.1 → IsListed n old c.pruned c.len e
  is_listed e h =
      let s = some_there (differs n old new e.0) (retained_bytes n new e.0) e.1 h in
      elim (is_there n new e.0) [
        | inl has ↦
            let same : chunk n new e.0 ≡ e.1 = same_Some (chunk n new e.0) e.1 (sym (bytes_there n new e.0 has) ∙ s.1) in
            record {
              low = has.0;
              high = omega (arith, has.1, len_new);
              is_chunk = subst (IsChunk n) same (chunk_is n new e.0);
              zeros = subst (IsZeroFrom n c.len e.0) same (new_zero e.0);
              differs = λ q. false≢true (sym (not_different n old new e.0 (q ∙ sym s.1)) ∙ s.0);
            }
        | inr gone ↦ absurd (none-some e.1 (sym (bytes_none n new e.0 gone) ∙ s.1))
      ]

  back : (from : ℕ) (es : List (ℕ × List ℕ)) → c.pruned ≤ from → ItemsFrom item from es → ListsFrom n old c.pruned c.len from es
  back from [] low h = λ i l s. left_out i (omega (arith, low, l)) s (h i l)
  back from (e ∷ es) low h =
      let l = is_listed e h.2 in (
        h.0,
        l,
        (λ i m s. left_out i (omega (arith, low, m)) (omega (arith, l.high, mul-le (8 * n) i (8 * n) e.0 (omega arith) (omega (arith, s)))) (h.1 i m s)),
        back (e.0 + 1) es (omega (arith, low, h.0)) h.3,
      )

  abbrev count : ℕ
  count = max (chunk_total n old) (chunk_total n new) - 0

  past_count : (i : ℕ) → 0 + count ≤ i → item i ≡ None
  past_count i l = none_there (differs n old new i) (retained_bytes n new i) (past_total n new i pos (omega (arith, l)))

  before_pruned : (i : ℕ) → 0 ≤ i → i < c.pruned → item i ≡ None
  before_pruned i l s = none_there (differs n old new i) (retained_bytes n new i) (bytes_none n new i (inl s))

  pub list_is_canonical : IsListOfChanges n old c → IsCanonical n old c
  list_is_canonical h =
      let items : ItemsFrom item 0 c.chunks = earlier item 0 c.pruned c.chunks (omega arith) before_pruned (onward c.pruned c.chunks (omega arith) (λ i l. refl) h) in
      let same : listed n new (changed n old new) ≡ c.chunks = listed_made n new (differs n old new) 0 count ∙ made_is item 0 count c.chunks past_count items in
      λ j. record { number = c.number; len = len_new j; pruned = c.pruned; chunks = same j }

  pub canonical_is_list : IsCanonical n old c → IsListOfChanges n old c
  canonical_is_list e =
      let same : made item 0 count ≡ c.chunks = sym (listed_made n new (differs n old new) 0 count) ∙ ap (λ (x : Change). x.chunks) e in
      back c.pruned c.chunks (omega arith) (later item 0 c.pruned c.chunks (omega arith) before_pruned (subst (ItemsFrom item 0) same (is_made item 0 count past_count)))

-- the chunks of a list of changes ascend
lists_ascend : (n : ℕ) (old : PrunedBits) (pruned len from : ℕ) (es : List (ℕ × List ℕ)) → ListsFrom n old pruned len from es → AscendFrom n len from es
lists_ascend n old pruned len from [] h = tt
lists_ascend n old pruned len from (e ∷ es) h = (h.0, h.1.high, lists_ascend n old pruned len (e.0 + 1) es h.3)

pub accepted_ascends : (n : ℕ) (old : PrunedBits) (c : Change) → 0 < n → Follows n old c → AscendFrom n c.len c.pruned c.chunks
accepted_ascends n old c pos f = lists_ascend n old c.pruned c.len c.pruned c.chunks (canonical_is_list n old c pos f.extent.covers f.changed)

-- what is decided of the list is decided of the change
pub canonical_decided : (n : ℕ) (old : PrunedBits) (c : Change) (r : Bool) → 0 < n → HasExtent n old c → Decides r (IsListOfChanges n old c) → Decides r (IsCanonical n old c)
canonical_decided n old c r pos extent d = ((λ e. list_is_canonical n old c pos extent.covers (d.0 e)), (λ f. d.1 (canonical_is_list n old c pos extent.covers f)))
