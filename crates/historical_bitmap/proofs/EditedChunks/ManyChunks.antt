-- Many chunks of some entries: inserted, removed again, and set in a range of their bits.
use Rattle.std.proofs.Common.{◌≡◌, ℕ, zero, suc, ◌+◌, ◌-◌, ◌*◌, ◌%◌, ◌<◌, ◌≤◌, min, Bool, true, false, List, [], ◌∷◌, ◌++◌, length, take, drop, get_or, Some, None, refl, sym, ap, ◌∙◌, subst, arith}
use mathlib.Core.Logic.{inl, inr, ◌≢◌, ◌⊎◌}
use Rattle.std.proofs.lemmas.Bool.{cases_Bool, cases_eq, cases_lt, eq-eqb, ne_eqb, or_left, or_right, false≢true}
use Rattle.std.proofs.lemmas.List.{take-append-drop}
use Rattle.std.proofs.lemmas.Nat.{mod_below}
use Rattle.std.specs.Prelude.{nat_eq, Option, MatchOption, IsSome, unwrap_or}
use Rattle.std.specs.List.Sorted.{IsStrictlySortedBy}
use Rattle.std.specs.Map.{keys_of, lookup}
use Rattle.std.specs.Ordering.{nat_cmp}
use Rattle.std.specs.Set.{is_member}
use Rattle.bitmap_core.proofs.Lists.Ranges.{between_in, between_below, between_above}
use Rattle.bitmap_core.proofs.Pruned.Positions.{place}
use Rattle.chunk_map.specs.Entries.{Puts}
use Rattle.historical_bitmap.specs.Pending.{AreMissing, IsPartSet, IsRangeSet, PutsEach, SetsChunks}
use Rattle.historical_bitmap.proofs.Lists.Maps.{not_some, same_entries}
use Rattle.historical_bitmap.proofs.Lists.Members.{in_left, in_right}

-- ---- members
-- the last of some numbers
pub last_member : (xs : List ℕ) (i : ℕ) → is_member nat_eq (xs ++ i ∷ []) i ≡ true
last_member xs i = in_right xs (i ∷ []) i (or_left (nat_eq i i) false (eq-eqb i i refl))

pub not_last : (xs : List ℕ) (q i : ℕ) → q ≢ i → is_member nat_eq (xs ++ i ∷ []) q ≡ is_member nat_eq xs q
not_last [] q i ne = rw (ne_eqb q i ne) refl
not_last (x ∷ xs) q i ne = elim (cases_eq q x) [
  | inl e ↦ rw (eq-eqb q x e) refl
  | inr other ↦ rw (ne_eqb q x other) (not_last xs q i ne)
]

-- a number of a list by its place
pub member_at : (xs : List ℕ) (at : ℕ) → at < length xs → is_member nat_eq xs (get_or xs at 0) ≡ true
member_at [] at h = absurd (omega (arith, h))
member_at (x ∷ xs) zero h = or_left (nat_eq x x) (is_member nat_eq xs x) (eq-eqb x x refl)
member_at (x ∷ xs) (suc at) h = or_right (nat_eq (get_or xs at 0) x) (is_member nat_eq xs (get_or xs at 0)) (member_at xs at (omega (arith, h)))

-- a number of the first ones
pub member_take : (xs : List ℕ) (count q : ℕ) → is_member nat_eq (take count xs) q ≡ true → is_member nat_eq xs q ≡ true
member_take xs count q h = subst (λ ys. is_member nat_eq ys q ≡ true) (take-append-drop count xs) (in_left (take count xs) (drop count xs) q h)

-- ---- the indices without a chunk
not_none : (o : Option (List ℕ)) → IsSome o → o ≡ None → ⊥
not_none None h e = false≢true h
not_none (Some x) h e = not_some x e

pub none_missing : (es : List (ℕ × List ℕ)) (first : ℕ) → AreMissing es first first []
none_missing es first = record { only = λ q h. cc; all = λ q l h none. absurd (omega (arith, l, h)) }

pub one_missing : (es : List (ℕ × List ℕ)) (first i : ℕ) (xs : List ℕ) → first ≤ i → lookup (nat_eq i) es ≡ None → AreMissing es first i xs → AreMissing es first (i + 1) (xs ++ i ∷ [])
one_missing es first i xs low none s = record {
  only = λ q h. elim (cases_eq q i) [
    | inl e ↦ (omega (arith, e, low), omega (arith, e), ap (λ (j : ℕ). lookup (nat_eq j) es) e ∙ none)
    | inr ne ↦ let old = s.only q (sym (not_last xs q i ne) ∙ h) in (old.0, omega (arith, old.1), old.2)
  ];
  all = λ q l h absent. elim (cases_eq q i) [
    | inl e ↦ subst (λ (j : ℕ). is_member nat_eq (xs ++ i ∷ []) j ≡ true) (sym e) (last_member xs i)
    | inr ne ↦ in_left xs (i ∷ []) q (s.all q l (omega (arith, h, ne)) absent)
  ];
}

pub not_missing : (es : List (ℕ × List ℕ)) (first i : ℕ) (xs : List ℕ) → IsSome (lookup (nat_eq i) es) → AreMissing es first i xs → AreMissing es first (i + 1) xs
not_missing es first i xs some s = record {
  only = λ q h. let old = s.only q h in (old.0, omega (arith, old.1), old.2);
  all = λ q l h absent. elim (cases_eq q i) [
    | inl e ↦ absurd (not_none (lookup (nat_eq i) es) some (ap (λ (j : ℕ). lookup (nat_eq j) es) (sym e) ∙ absent))
    | inr ne ↦ s.all q l (omega (arith, h, ne)) absent
  ];
}

-- if each chunk is there, no index is listed
pub no_missing : (es : List (ℕ × List ℕ)) (first past : ℕ) (xs : List ℕ) → AreMissing es first past xs → ((q : ℕ) → first ≤ q → q < past → IsSome (lookup (nat_eq q) es)) → length xs ≡ 0
no_missing es first past [] s all = refl
no_missing es first past (x ∷ xs) s all =
    let listed = s.only x (or_left (nat_eq x x) (is_member nat_eq xs x) (eq-eqb x x refl)) in
    absurd (not_none (lookup (nat_eq x) es) (all x listed.0 listed.1) listed.2)

-- ---- chunks are inserted one after another
pub puts_more : (es fs gs : List (ℕ × List ℕ)) (xs : List ℕ) (i : ℕ) (chunk : ℕ → Option (List ℕ)) → PutsEach es fs xs chunk → Puts fs gs i (chunk i) → PutsEach es gs (xs ++ i ∷ []) chunk
puts_more es fs gs xs i chunk each put = λ q. put q ∙ elim (cases_eq q i) [
  | inl e ↦
      let last : is_member nat_eq (xs ++ i ∷ []) q ≡ true = subst (λ (j : ℕ). is_member nat_eq (xs ++ i ∷ []) j ≡ true) (sym e) (last_member xs i) in
      rw (eq-eqb q i e, last) (ap chunk (sym e))
  | inr ne ↦ rw (ne_eqb q i ne, not_last xs q i ne) (each q)
]

-- chunks that are inserted under absent keys, and removed again, leave the entries unchanged
pub each_taken_again : (es mid fs : List (ℕ × List ℕ)) (xs : List ℕ) (chunk : ℕ → Option (List ℕ)) → IsStrictlySortedBy nat_cmp (keys_of es) → IsStrictlySortedBy nat_cmp (keys_of fs)
    → ((q : ℕ) → is_member nat_eq xs q ≡ true → lookup (nat_eq q) es ≡ None) → PutsEach es mid xs chunk → PutsEach mid fs xs (λ q. None) → fs ≡ es
each_taken_again es mid fs xs chunk s t none put taken = same_entries fs es t s (λ q. taken q ∙ elim (cases_Bool (is_member nat_eq xs q)) [
  | inl e ↦ rw e (sym (none q e))
  | inr e ↦ rw e (put q ∙ rw e refl)
])

-- ---- a range of the bits of one chunk is set
pub range_of_chunk : (n i lo hi from past : ℕ) (value : Bool) (old new : List ℕ) → 0 < n → from ≡ lo - 8 * n * i → past ≡ min (hi - 8 * n * i) (8 * n) → IsPartSet n old new from past value → IsRangeSet n old lo hi value i new
range_of_chunk n i lo hi from past value old new pos low high part = record {
  size = part.size;
  bits = λ k e.
      let at : 8 * n * i + k % (8 * n) ≡ k = ap (λ y. 8 * n * y + k % (8 * n)) (sym e) ∙ place (8 * n) k in
      let below : k % (8 * n) < 8 * n = mod_below k (8 * n) (omega (arith, pos)) in
      elim (cases_lt k lo) [
        | inl s ↦ rw (between_below lo hi k s) (part.outside k (inl (omega (arith, low, at, s))))
        | inr s ↦ elim (cases_lt k hi) [
          | inl t ↦ rw (between_in lo hi k s t) (part.inside k (omega (arith, low, at, s)) (omega (arith, high, at, t, below)))
          | inr t ↦ rw (between_above lo hi k s t) (part.outside k (inr (omega (arith, high, at, t))))
        ]
      ];
}

-- ---- chunks are set one after another
module _ (n : ℕ) (other : ℕ → List ℕ) (es fs gs : List (ℕ × List ℕ)) (first i lo hi : ℕ) (value : Bool) where
  pub none_set : SetsChunks n other es es first first lo hi value
  none_set = record { set = λ j l h. absurd (omega (arith, l, h)); others = λ j side. refl }

  pub one_set : first ≤ i → IsSome (lookup (nat_eq i) fs) → (bytes : List ℕ) → IsRangeSet n (unwrap_or (lookup (nat_eq i) fs) []) lo hi value i bytes → Puts fs gs i (Some bytes) → SetsChunks n other es fs first i lo hi value → SetsChunks n other es gs first (i + 1) lo hi value
  one_set low some bytes set put s = record {
    set = λ j l h. elim (cases_eq j i) [
      | inl e ↦
          let same : lookup (nat_eq i) fs ≡ lookup (nat_eq i) es = s.others i (inr (omega arith)) in
          rw (put j, eq-eqb j i e, e) (subst (λ old. IsRangeSet n old lo hi value i bytes) (same_old (lookup (nat_eq i) fs) (lookup (nat_eq i) es) same some) set)
      | inr ne ↦ rw (put j, ne_eqb j i ne) (s.set j l (omega (arith, h, ne)))
    ];
    others = λ j side. put j ∙ rw (ne_eqb j i (apart j side)) (s.others j (wider j side));
  }
    where
      same_old : (o p : Option (List ℕ)) → o ≡ p → IsSome o → unwrap_or o [] ≡ unwrap_or p (other i)
      same_old None p e h = absurd (false≢true h)
      same_old (Some x) None e h = absurd (not_some x e)
      same_old (Some x) (Some y) e h = ap (λ o. unwrap_or o []) e

      apart : (j : ℕ) → (j < first) ⊎ (i + 1 ≤ j) → j ≢ i
      apart j (inl h) e = omega (arith, h, e, low)
      apart j (inr h) e = omega (arith, h, e)

      wider : (j : ℕ) → (j < first) ⊎ (i + 1 ≤ j) → (j < first) ⊎ (i ≤ j)
      wider j (inl h) = inl h
      wider j (inr h) = inr (omega (arith, h))

-- the next chunk is still there
pub some_left : (n : ℕ) (other : ℕ → List ℕ) (es fs : List (ℕ × List ℕ)) (first i lo hi : ℕ) (value : Bool) → IsSome (lookup (nat_eq i) es) → SetsChunks n other es fs first i lo hi value → IsSome (lookup (nat_eq i) fs)
some_left n other es fs first i lo hi value some s = rw (s.others i (inr (omega arith))) some

-- ---- the missing chunks are inserted, and then all are set
module _ (n : ℕ) (other : ℕ → List ℕ) (es mid fs : List (ℕ × List ℕ)) (first past lo hi : ℕ) (value : Bool) (xs : List ℕ) (missing : AreMissing es first past xs) (put : PutsEach es mid xs (λ q. Some (other q))) where
  -- a chunk of the range is there, and is the old one if there was one
  inserted : (q : ℕ) → first ≤ q → q < past → (o : Option (List ℕ)) → lookup (nat_eq q) es ≡ o → lookup (nat_eq q) mid ≡ Some (unwrap_or o (other q))
  inserted q l h None e = put q ∙ rw (missing.all q l h e) refl
  inserted q l h (Some x) e = elim (cases_Bool (is_member nat_eq xs q)) [
    | inl m ↦ absurd (not_some x (sym e ∙ (missing.only q m).2))
    | inr m ↦ put q ∙ rw m e
  ]

  pub each_there : (q : ℕ) → first ≤ q → q < past → IsSome (lookup (nat_eq q) mid)
  each_there q l h = rw (inserted q l h (lookup (nat_eq q) es) refl) refl

  pub inserted_and_set : SetsChunks n (λ q. []) mid fs first past lo hi value → SetsChunks n other es fs first past lo hi value
  inserted_and_set s = record {
    set = λ q l h. subst (λ o. MatchOption (lookup (nat_eq q) fs) ⊥ (IsRangeSet n (unwrap_or o []) lo hi value q)) (inserted q l h (lookup (nat_eq q) es) refl) (s.set q l h);
    others = λ q side. s.others q side ∙ (put q ∙ rw (outside q side) refl);
  }
    where
      outside : (q : ℕ) → (q < first) ⊎ (past ≤ q) → is_member nat_eq xs q ≡ false
      outside q side = elim (cases_Bool (is_member nat_eq xs q)) [
        | inl m ↦ let in_range = missing.only q m in absurd (elim side [ inl h ↦ omega (arith, h, in_range.0) | inr h ↦ omega (arith, h, in_range.1) ])
        | inr m ↦ m
      ]
