-- Entries of indices and values that are in another order.
use Rattle.std.proofs.Common.{◌≡◌, ◌≢◌, ℕ, zero, suc, ◌+◌, ◌-◌, ◌<◌, cond, Bool, true, false, List, [], ◌∷◌, ◌++◌, length, slice_index, slice_index_or, slice_set, Option, Some, None, MatchOption, arith, refl, sym, ap, ◌∙◌, subst}
use mathlib.Core.Logic.{inl, inr, ◌⊎◌}
use Rattle.std.proofs.lemmas.Bool.{cases_eq, cases_lt, cases_order, eq-eqb, false≢true, ne_eqb, lt-ltb, le-ltb}
use Rattle.std.proofs.lemmas.List.{get_or-set_same, get_or-set_other, get_or-take, get_or_append_left, get_or_default, get_or_push, length-set, length-take-le, length_push}
use Rattle.std.proofs.lemmas.Map.Made.{is_some-lookup}
use Rattle.std.specs.declared.cmp.Ordering.TheVariants.{Less, Equal, Greater}
use Rattle.std.specs.BTreeMap.{insert_entry, is_at}
use Rattle.std.specs.List.{AllByRecursion}
use Rattle.std.specs.List.Sorted.{IsStrictlySortedBy}
use Rattle.std.specs.Map.{keys_of, lookup, set_value}
use Rattle.std.specs.Ordering.{is_eq, match_ordering, nat_cmp}
use Rattle.std.specs.Prelude.{nat_eq, is_some, IsSome, ◌||◌}
use Rattle.std.specs.Set.{is_member}
use Rattle.chunk_map.specs.Entries.{IsNextMember, IsPaired, Puts, entries_of, with_chunk}
use Rattle.chunk_map.specs.Next.{AreBelow, IsNextPlace}
use Rattle.chunk_map.specs.Trie.{AreApart, IsAbsent, IsAt, without_place}

-- ---- one entry more
pub cmp_less : (a b : ℕ) → a < b → nat_cmp a b ≡ Less
cmp_less a b h = rw (lt-ltb a b h) refl

cmp_equal : (a b : ℕ) → a ≡ b → nat_cmp a b ≡ Equal
cmp_equal a b e = rw (le-ltb a b (omega (arith, e)), eq-eqb a b e) refl

cmp_greater : (a b : ℕ) → b < a → nat_cmp a b ≡ Greater
cmp_greater a b h = rw (le-ltb a b (omega (arith, h)), ne_eqb a b (λ e. absurd (omega (arith, e, h)))) refl

lookup_here : {X : Type 0} (q : ℕ) (e : ℕ × X) (es : List (ℕ × X)) → q ≡ e.0 → lookup (nat_eq q) (e ∷ es) ≡ Some e.1
lookup_here q e es h = ap (λ t. cond t (Some e.1) (lookup (nat_eq q) es)) (eq-eqb q e.0 h)

lookup_there : {X : Type 0} (q : ℕ) (e : ℕ × X) (es : List (ℕ × X)) → q ≢ e.0 → lookup (nat_eq q) (e ∷ es) ≡ lookup (nat_eq q) es
lookup_there q e es ne = ap (λ t. cond t (Some e.1) (lookup (nat_eq q) es)) (ne_eqb q e.0 ne)

insert_less : {X : Type 0} (e : ℕ × X) (es : List (ℕ × X)) (k : ℕ) (v : X) → k < e.0 → insert_entry nat_cmp (e ∷ es) k v ≡ (k, v) ∷ e ∷ es
insert_less e es k v h = ap (λ o. match_ordering o ((k, v) ∷ e ∷ es) ((e.0, v) ∷ es) (e ∷ insert_entry nat_cmp es k v)) (cmp_less k e.0 h)

insert_equal : {X : Type 0} (e : ℕ × X) (es : List (ℕ × X)) (k : ℕ) (v : X) → k ≡ e.0 → insert_entry nat_cmp (e ∷ es) k v ≡ (e.0, v) ∷ es
insert_equal e es k v h = ap (λ o. match_ordering o ((k, v) ∷ e ∷ es) ((e.0, v) ∷ es) (e ∷ insert_entry nat_cmp es k v)) (cmp_equal k e.0 h)

insert_greater : {X : Type 0} (e : ℕ × X) (es : List (ℕ × X)) (k : ℕ) (v : X) → e.0 < k → insert_entry nat_cmp (e ∷ es) k v ≡ e ∷ insert_entry nat_cmp es k v
insert_greater e es k v h = ap (λ o. match_ordering o ((k, v) ∷ e ∷ es) ((e.0, v) ∷ es) (e ∷ insert_entry nat_cmp es k v)) (cmp_greater k e.0 h)

insert_this : {X : Type 0} (es : List (ℕ × X)) (k : ℕ) (v : X) → lookup (nat_eq k) (insert_entry nat_cmp es k v) ≡ Some v
insert_this [] k v = lookup_here k (k, v) [] refl
insert_this (e ∷ es) k v = elim (cases_order k e.0) [
  | inl q ↦ ap (lookup (nat_eq k)) (insert_equal e es k v q) ∙ lookup_here k (e.0, v) es q
  | inr (inl l) ↦ ap (lookup (nat_eq k)) (insert_less e es k v l) ∙ lookup_here k (k, v) (e ∷ es) refl
  | inr (inr l) ↦ ap (lookup (nat_eq k)) (insert_greater e es k v l) ∙ lookup_there k e (insert_entry nat_cmp es k v) (λ q. absurd (omega (arith, q, l))) ∙ insert_this es k v
]

insert_other : {X : Type 0} (es : List (ℕ × X)) (k : ℕ) (v : X) (q : ℕ) → q ≢ k → lookup (nat_eq q) (insert_entry nat_cmp es k v) ≡ lookup (nat_eq q) es
insert_other [] k v q ne = lookup_there q (k, v) [] ne
insert_other (e ∷ es) k v q ne = elim (cases_order k e.0) [
  | inl f ↦ ap (lookup (nat_eq q)) (insert_equal e es k v f) ∙ lookup_there q (e.0, v) es (λ g. ne (g ∙ sym f)) ∙ sym (lookup_there q e es (λ g. ne (g ∙ sym f)))
  | inr (inl l) ↦ ap (lookup (nat_eq q)) (insert_less e es k v l) ∙ lookup_there q (k, v) (e ∷ es) ne
  | inr (inr l) ↦ ap (lookup (nat_eq q)) (insert_greater e es k v l) ∙ ap (λ o. cond (nat_eq q e.0) (Some e.1) o) (insert_other es k v q ne)
]

all_insert : {X : Type 0} (es : List (ℕ × X)) (k : ℕ) (v : X) (x : ℕ) → x < k → AllByRecursion (λ y. nat_cmp x y ≡ Less) (keys_of es) → AllByRecursion (λ y. nat_cmp x y ≡ Less) (keys_of (insert_entry nat_cmp es k v))
all_insert [] k v x h a = (cmp_less x k h, tt)
all_insert (e ∷ es) k v x h a = elim (cases_order k e.0) [
  | inl f ↦ rw (insert_equal e es k v f) a
  | inr (inl l) ↦ rw (insert_less e es k v l) (cmp_less x k h, a)
  | inr (inr l) ↦ rw (insert_greater e es k v l) (a.0, all_insert es k v x h a.1)
]

pub less_below : (a b : ℕ) → nat_cmp a b ≡ Less → a < b
less_below a b e = elim (cases_order a b) [
  | inl f ↦ let g = cmp_equal a b f in cc
  | inr (inl l) ↦ l
  | inr (inr l) ↦ let g = cmp_greater a b l in cc
]

all_after : (ks : List ℕ) (a b : ℕ) → a < b → AllByRecursion (λ y. nat_cmp b y ≡ Less) ks → AllByRecursion (λ y. nat_cmp a y ≡ Less) ks
all_after [] a b h all = tt
all_after (k ∷ ks) a b h all = (cmp_less a k (let l = less_below b k all.0 in omega (arith, l, h)), all_after ks a b h all.1)

sorted_insert : {X : Type 0} (es : List (ℕ × X)) (k : ℕ) (v : X) → IsStrictlySortedBy nat_cmp (keys_of es) → IsStrictlySortedBy nat_cmp (keys_of (insert_entry nat_cmp es k v))
unfolding IsStrictlySortedBy
sorted_insert [] k v s = (tt, tt)
sorted_insert (e ∷ es) k v s = elim (cases_order k e.0) [
  | inl f ↦ rw (insert_equal e es k v f) s
  | inr (inl l) ↦ rw (insert_less e es k v l) ((cmp_less k e.0 l, all_after (keys_of es) k e.0 l s.0), s)
  | inr (inr l) ↦ rw (insert_greater e es k v l) (all_insert es k v e.0 l s.0, sorted_insert es k v s.1)
]

length_insert : {X : Type 0} (es : List (ℕ × X)) (k : ℕ) (v : X) → lookup (nat_eq k) es ≡ None → length (insert_entry nat_cmp es k v) ≡ length es + 1
length_insert [] k v h = refl
length_insert (e ∷ es) k v h = elim (cases_order k e.0) [
  | inl f ↦ let g = lookup_here k e es f in absurd (cc)
  | inr (inl l) ↦ ap length (insert_less e es k v l) ∙ omega arith
  | inr (inr l) ↦
      let rest : lookup (nat_eq k) es ≡ None = sym (lookup_there k e es (λ q. absurd (omega (arith, q, l)))) ∙ h in
      ap length (insert_greater e es k v l) ∙ (let n = length_insert es k v rest in omega (arith, n))
]

-- ---- entries of indices and chunks
pub entries_sorted : {X : Type 0} (ks : List ℕ) (cs : List X) → IsStrictlySortedBy nat_cmp (keys_of (entries_of ks cs))
unfolding IsStrictlySortedBy
entries_sorted [] cs = tt
entries_sorted (k ∷ ks) [] = tt
entries_sorted (k ∷ ks) (c ∷ cs) = sorted_insert (entries_of ks cs) k c (entries_sorted ks cs)

-- an index at no place has no entry
pub entry_absent : {X : Type 0} (ks : List ℕ) (cs : List X) (q : ℕ) → IsAbsent ks q → lookup (nat_eq q) (entries_of ks cs) ≡ None
entry_absent [] cs q h = refl
entry_absent (k ∷ ks) [] q h = refl
entry_absent (k ∷ ks) (c ∷ cs) q h = insert_other (entries_of ks cs) k c q (λ e. h 0 (omega arith) (sym e)) ∙ entry_absent ks cs q (λ place w. h (suc place) (omega (arith, w)))

apart_tail : (k : ℕ) (ks : List ℕ) → AreApart (k ∷ ks) → AreApart ks
apart_tail k ks a p q hp hq e = let f = a (suc p) (suc q) (omega (arith, hp)) (omega (arith, hq)) e in omega (arith, f)

-- an index at a place has the chunk at that place
pub entry_at : {X : Type 0} (ks : List ℕ) (cs : List X) (p : ℕ) (d : X) → AreApart ks → length cs ≡ length ks → p < length ks → lookup (nat_eq (slice_index ks p)) (entries_of ks cs) ≡ Some (slice_index_or cs p d)
entry_at [] cs p d a s h = absurd (omega (arith, h))
entry_at (k ∷ ks) [] p d a s h = absurd (omega (arith, s))
entry_at (k ∷ ks) (c ∷ cs) zero d a s h = insert_this (entries_of ks cs) k c
entry_at (k ∷ ks) (c ∷ cs) (suc p) d a s h =
    insert_other (entries_of ks cs) k c (slice_index ks p) (λ e. let f = a (suc p) 0 h (omega arith) e in absurd (omega (arith, f)))
    ∙ entry_at ks cs p d (apart_tail k ks a) (omega (arith, s)) (omega (arith, h))

pub entries_length : {X : Type 0} (ks : List ℕ) (cs : List X) → AreApart ks → length cs ≡ length ks → length (entries_of ks cs) ≡ length ks
entries_length [] cs a s = refl
entries_length (k ∷ ks) [] a s = absurd (omega (arith, s))
entries_length (k ∷ ks) (c ∷ cs) a s =
    let rest = entries_length ks cs (apart_tail k ks a) (omega (arith, s)) in
    length_insert (entries_of ks cs) k c (entry_absent ks cs k (λ place w e. let f = a (suc place) 0 (omega (arith, w)) (omega arith) e in absurd (omega (arith, f)))) ∙ omega (arith, rest)

-- an index is at a place or at none
pub place_or_none : (ks : List ℕ) (q : ℕ) → ((p : ℕ) × IsAt ks q p) ⊎ IsAbsent ks q
place_or_none [] q = inr (λ place w e. absurd (omega (arith, w)))
place_or_none (k ∷ ks) q = elim (cases_eq k q) [
  | inl e ↦ inl (0, record { within = omega arith; is = e })
  | inr ne ↦ elim (place_or_none ks q) [
    | inl f ↦ let w = f.1.within in inl (suc f.0, record { within = omega (arith, w); is = f.1.is })
    | inr h ↦ inr (absent k ks q ne h)
  ]
]
  where
    absent : (k : ℕ) (ks : List ℕ) (q : ℕ) → k ≢ q → IsAbsent ks q → IsAbsent (k ∷ ks) q
    absent k ks q ne h zero w e = ne e
    absent k ks q ne h (suc place) w e = h place (omega (arith, w)) e

-- an index that has an entry is at a place
pub place_of : {X : Type 0} (ks : List ℕ) (cs : List X) (q : ℕ) → IsSome (lookup (nat_eq q) (entries_of ks cs)) → (p : ℕ) × IsAt ks q p
place_of ks cs q some = elim (place_or_none ks q) [
  | inl f ↦ f
  | inr h ↦ absurd (false≢true (rw (entry_absent ks cs q h) at some))
]

-- what is found at an index that is at a place
pub found_at : {X : Type 0} (ks : List ℕ) (cs : List X) (q p : ℕ) (d : X) → AreApart ks → length cs ≡ length ks → IsAt ks q p → lookup (nat_eq q) (entries_of ks cs) ≡ Some (slice_index_or cs p d)
found_at ks cs q p d a s f = subst (λ x. lookup (nat_eq x) (entries_of ks cs) ≡ Some (slice_index_or cs p d)) f.is (entry_at ks cs p d a s f.within)

-- a chunk replaced
pub puts_set : {X : Type 0} (ks : List ℕ) (cs : List X) (p : ℕ) (c : X) → AreApart ks → length cs ≡ length ks → p < length ks → Puts (entries_of ks cs) (entries_of ks (slice_set cs p c)) (slice_index ks p) (Some c)
puts_set ks cs p c a s h q =
    let size : length (slice_set cs p c) ≡ length ks = length-set cs p c ∙ s in
    elim (cases_eq q (slice_index ks p)) [
      | inl e ↦ rw (eq-eqb q (slice_index ks p) e, e) (entry_at ks (slice_set cs p c) p c a size h ∙ ap Some (get_or-set_same cs p c c (omega (arith, h, s))))
      | inr ne ↦ rw (ne_eqb q (slice_index ks p) ne) (elim (place_or_none ks q) [
        | inl f ↦
            let other : f.0 ≢ p = λ e. ne (sym f.1.is ∙ ap (slice_index ks) e) in
            found_at ks (slice_set cs p c) q f.0 c a size f.1 ∙ ap Some (get_or-set_other cs p f.0 c c other) ∙ sym (found_at ks cs q f.0 c a s f.1)
        | inr g ↦ entry_absent ks (slice_set cs p c) q g ∙ sym (entry_absent ks cs q g)
      ])
    ]

-- the same, as a list of entries
set_here : (k : ℕ) (e : ℕ × List ℕ) (es : List (ℕ × List ℕ)) (v : List ℕ) → k ≡ e.0 → with_chunk (e ∷ es) k v ≡ (e.0, v) ∷ es
set_here k e es v h = ap (λ o. cond (is_eq o) ((e.0, v) ∷ es) (e ∷ with_chunk es k v)) (cmp_equal k e.0 h)

set_there : (k : ℕ) (e : ℕ × List ℕ) (es : List (ℕ × List ℕ)) (v : List ℕ) → k ≢ e.0 → with_chunk (e ∷ es) k v ≡ e ∷ with_chunk es k v
set_there k e es v ne = elim (cases_order k e.0) [
  | inl h ↦ absurd (ne h)
  | inr (inl l) ↦ ap (λ o. cond (is_eq o) ((e.0, v) ∷ es) (e ∷ with_chunk es k v)) (cmp_less k e.0 l)
  | inr (inr l) ↦ ap (λ o. cond (is_eq o) ((e.0, v) ∷ es) (e ∷ with_chunk es k v)) (cmp_greater k e.0 l)
]

set_inserted : (es : List (ℕ × List ℕ)) (k : ℕ) (c v : List ℕ) → with_chunk (insert_entry nat_cmp es k c) k v ≡ insert_entry nat_cmp es k v
set_inserted [] k c v = set_here k (k, c) [] v refl
set_inserted (e ∷ es) k c v = elim (cases_order k e.0) [
  | inl h ↦ ap (λ fs. with_chunk fs k v) (insert_equal e es k c h) ∙ (set_here k (e.0, c) es v h ∙ sym (insert_equal e es k v h))
  | inr (inl l) ↦ ap (λ fs. with_chunk fs k v) (insert_less e es k c l) ∙ (set_here k (k, c) (e ∷ es) v refl ∙ sym (insert_less e es k v l))
  | inr (inr l) ↦ ap (λ fs. with_chunk fs k v) (insert_greater e es k c l) ∙ (set_there k e (insert_entry nat_cmp es k c) v (λ h. absurd (omega (arith, h, l))) ∙ (ap (λ fs. e ∷ fs) (set_inserted es k c v) ∙ sym (insert_greater e es k v l)))
]

set_beside : (es : List (ℕ × List ℕ)) (k q : ℕ) (c v : List ℕ) → q ≢ k → insert_entry nat_cmp (with_chunk es q v) k c ≡ with_chunk (insert_entry nat_cmp es k c) q v
set_beside [] k q c v ne = sym (set_there q (k, c) [] v ne)
set_beside (e ∷ es) k q c v ne = elim (cases_eq q e.0) [
  | inl h ↦
      let there : k ≢ e.0 = λ f. ne (h ∙ sym f) in
      ap (λ fs. insert_entry nat_cmp fs k c) (set_here q e es v h) ∙ elim (cases_order k e.0) [
        | inl f ↦ absurd (there f)
        | inr (inl l) ↦ insert_less (e.0, v) es k c l ∙ sym (ap (λ fs. with_chunk fs q v) (insert_less e es k c l) ∙ (set_there q (k, c) (e ∷ es) v ne ∙ ap (λ fs. (k, c) ∷ fs) (set_here q e es v h)))
        | inr (inr l) ↦ insert_greater (e.0, v) es k c l ∙ sym (ap (λ fs. with_chunk fs q v) (insert_greater e es k c l) ∙ set_here q e (insert_entry nat_cmp es k c) v h)
      ]
  | inr far ↦ ap (λ fs. insert_entry nat_cmp fs k c) (set_there q e es v far) ∙ elim (cases_order k e.0) [
    | inl f ↦ insert_equal e (with_chunk es q v) k c f ∙ sym (ap (λ fs. with_chunk fs q v) (insert_equal e es k c f) ∙ set_there q (e.0, c) es v far)
    | inr (inl l) ↦ insert_less e (with_chunk es q v) k c l ∙ sym (ap (λ fs. with_chunk fs q v) (insert_less e es k c l) ∙ (set_there q (k, c) (e ∷ es) v ne ∙ ap (λ fs. (k, c) ∷ fs) (set_there q e es v far)))
    | inr (inr l) ↦ insert_greater e (with_chunk es q v) k c l ∙ (ap (λ fs. e ∷ fs) (set_beside es k q c v ne) ∙ sym (ap (λ fs. with_chunk fs q v) (insert_greater e es k c l) ∙ set_there q e (insert_entry nat_cmp es k c) v far))
  ]
]

apart_rest : (k : ℕ) (ks : List ℕ) → AreApart (k ∷ ks) → AreApart ks
apart_rest k ks a p q l m e = let same = a (suc p) (suc q) (omega (arith, l)) (omega (arith, m)) e in omega (arith, same)

pub set_is : (ks : List ℕ) (cs : List (List ℕ)) (p : ℕ) (v : List ℕ) → AreApart ks → length cs ≡ length ks → p < length ks → entries_of ks (slice_set cs p v) ≡ with_chunk (entries_of ks cs) (slice_index ks p) v
set_is [] cs p v a s h = absurd (omega (arith, h))
set_is (k ∷ ks) [] p v a s h = absurd (omega (arith, s))
set_is (k ∷ ks) (c ∷ cs) zero v a s h = sym (set_inserted (entries_of ks cs) k c v)
set_is (k ∷ ks) (c ∷ cs) (suc p) v a s h =
    let below : p < length ks = omega (arith, h) in
    let other : slice_index ks p ≢ k = λ e. absurd (let same = a (suc p) zero h (omega arith) e in omega (arith, same)) in
    ap (λ es. insert_entry nat_cmp es k c) (set_is ks cs p v (apart_rest k ks a) (omega (arith, s)) below) ∙ set_beside (entries_of ks cs) k (slice_index ks p) c v other

absent_push : (ks : List ℕ) (k q : ℕ) → q ≢ k → IsAbsent ks q → IsAbsent (ks ++ k ∷ []) q
absent_push ks k q ne h place w e = elim (cases_lt place (length ks)) [
  | inl l ↦ h place l (sym (get_or_append_left ks (k ∷ []) 0 place l) ∙ e)
  | inr l ↦
      let last : length ks ≡ place = let n = length_push ks k in omega (arith, w, l, n) in
      ne (sym (sym (get_or_push ks k 0 place last) ∙ e))
]

-- an index and its chunk added
pub puts_push : {X : Type 0} (ks : List ℕ) (cs : List X) (k : ℕ) (c : X) → AreApart ks → AreApart (ks ++ k ∷ []) → length cs ≡ length ks → Puts (entries_of ks cs) (entries_of (ks ++ k ∷ []) (cs ++ c ∷ [])) k (Some c)
puts_push ks cs k c was a s q =
    let size : length (cs ++ c ∷ []) ≡ length (ks ++ k ∷ []) = length_push cs c ∙ ap (λ n. n + 1) s ∙ sym (length_push ks k) in
    elim (cases_eq q k) [
      | inl e ↦ rw (eq-eqb q k e, e) (found_at (ks ++ k ∷ []) (cs ++ c ∷ []) k (length ks) c a size (record { within = let n = length_push ks k in omega (arith, n); is = get_or_push ks k 0 (length ks) refl }) ∙ ap Some (get_or_push cs c c (length ks) s))
      | inr ne ↦ rw (ne_eqb q k ne) (elim (place_or_none ks q) [
        | inl f ↦
            let w = f.1.within in
            found_at (ks ++ k ∷ []) (cs ++ c ∷ []) q f.0 c a size (record { within = let n = length_push ks k in omega (arith, n, w); is = get_or_append_left ks (k ∷ []) 0 f.0 w ∙ f.1.is })
            ∙ ap Some (get_or_append_left cs (c ∷ []) c f.0 (omega (arith, w, s)))
            ∙ sym (found_at ks cs q f.0 c was s f.1)
        | inr g ↦ entry_absent (ks ++ k ∷ []) (cs ++ c ∷ []) q (absent_push ks k q ne g) ∙ sym (entry_absent ks cs q g)
      ])
    ]

-- ---- members
pub member_is : (ks : List ℕ) (cs : List (List ℕ)) (j : ℕ) → is_member nat_eq (keys_of (entries_of ks cs)) j ≡ is_some (lookup (nat_eq j) (entries_of ks cs))
member_is ks cs j = sym (is_some-lookup (nat_eq j) (entries_of ks cs))

pub member_at : (ks : List ℕ) (q p : ℕ) → p < length ks → slice_index ks p ≡ q → is_member nat_eq ks q ≡ true
member_at [] q p w e = absurd (omega (arith, w))
member_at (k ∷ ks) q zero w e = rw (eq-eqb q k (sym e)) refl
member_at (k ∷ ks) q (suc p) w e = rw (member_at ks q p (omega (arith, w)) e) (or_true (nat_eq q k))
  where
    or_true : (t : Bool) → (t || true) ≡ true
    or_true true = refl
    or_true false = refl

pub not_member : (ks : List ℕ) (q : ℕ) → IsAbsent ks q → is_member nat_eq ks q ≡ false
not_member [] q h = refl
not_member (k ∷ ks) q h = rw (ne_eqb q k (λ e. h 0 (omega arith) (sym e))) (not_member ks q (λ place w. h (suc place) (omega (arith, w))))

-- the indices are those of the entries
pub indices_are : (ks : List ℕ) (cs : List (List ℕ)) → AreApart ks → length cs ≡ length ks → (q : ℕ) → is_member nat_eq ks q ≡ is_member nat_eq (keys_of (entries_of ks cs)) q
indices_are ks cs a s q = elim (place_or_none ks q) [
  | inl f ↦ member_at ks q f.0 f.1.within f.1.is ∙ sym (member_is ks cs q ∙ ap is_some (found_at ks cs q f.0 [] a s f.1))
  | inr h ↦ not_member ks q h ∙ sym (member_is ks cs q ∙ ap is_some (entry_absent ks cs q h))
]

pub next_none : (ks : List ℕ) (cs : List (List ℕ)) (from : ℕ) → AreBelow ks from → IsNextMember (keys_of (entries_of ks cs)) from None
next_none ks cs from h = λ j l. member_is ks cs j ∙ ap is_some (entry_absent ks cs j (λ place w e. let b = h place w in absurd (omega (arith, b, e, l))))

pub next_some : (ks : List ℕ) (cs : List (List ℕ)) (from place : ℕ) → AreApart ks → length cs ≡ length ks → IsNextPlace ks from place → IsNextMember (keys_of (entries_of ks cs)) from (Some (slice_index ks place))
next_some ks cs from place a s n = (
  n.from_on,
  member_is ks cs (slice_index ks place) ∙ ap is_some (entry_at ks cs place [] a s n.within),
  λ j l h. member_is ks cs j ∙ ap is_some (entry_absent ks cs j (λ p w e. let b = n.least p w (omega (arith, e, l)) in absurd (omega (arith, b, e, h)))),
)

-- ---- a search
pub find_match : (ks : List ℕ) (cs : List (List ℕ)) (q : ℕ) (r : Option ℕ) → MatchOption r (IsAbsent ks q) (IsAt ks q) → MatchOption r (lookup (nat_eq q) (entries_of ks cs) ≡ None) (IsAt ks q)
find_match ks cs q None h = entry_absent ks cs q h
find_match ks cs q (Some p) h = h

pub find_some : (ks : List ℕ) (cs : List (List ℕ)) (q : ℕ) (r : Option ℕ) → AreApart ks → length cs ≡ length ks → MatchOption r (IsAbsent ks q) (IsAt ks q) → is_some r ≡ is_some (lookup (nat_eq q) (entries_of ks cs))
find_some ks cs q None a s h = ap is_some (sym (entry_absent ks cs q h))
find_some ks cs q (Some p) a s h = ap is_some (sym (found_at ks cs q p [] a s h))

not_some : {X : Type 0} (x : X) → Some x ≡ None → ⊥
not_some x e = cc

pub not_at : (ks : List ℕ) (cs : List (List ℕ)) (q p : ℕ) → AreApart ks → length cs ≡ length ks → IsAt ks q p → lookup (nat_eq q) (entries_of ks cs) ≡ None → ⊥
not_at ks cs q p a s f e = not_some (slice_index_or cs p []) (sym (found_at ks cs q p [] a s f) ∙ e)

pub absent_from_lookup : (ks : List ℕ) (cs : List (List ℕ)) (q : ℕ) → AreApart ks → length cs ≡ length ks → lookup (nat_eq q) (entries_of ks cs) ≡ None → IsAbsent ks q
absent_from_lookup ks cs q a s none place w e = not_at ks cs q place a s (record { within = w; is = e }) none

pub apart_push : (ks : List ℕ) (k : ℕ) → AreApart ks → IsAbsent ks k → AreApart (ks ++ k ∷ [])
apart_push ks k a h p q hp hq e =
    let n = length_push ks k in
    let old : (x : ℕ) → x < length ks → slice_index (ks ++ k ∷ []) x ≡ slice_index ks x = λ x w. get_or_append_left ks (k ∷ []) 0 x w in
    let new : (x : ℕ) → length ks ≡ x → slice_index (ks ++ k ∷ []) x ≡ k = λ x w. get_or_push ks k 0 x w in
    elim (cases_lt p (length ks)) [
      | inl lp ↦ elim (cases_lt q (length ks)) [
        | inl lq ↦ a p q lp lq (sym (old p lp) ∙ e ∙ old q lq)
        | inr lq ↦ absurd (h p lp (sym (old p lp) ∙ e ∙ new q (omega (arith, lq, hq, n))))
      ]
      | inr lp ↦ elim (cases_lt q (length ks)) [
        | inl lq ↦ absurd (h q lq (sym (old q lq) ∙ sym e ∙ new p (omega (arith, lp, hp, n))))
        | inr lq ↦ omega (arith, lp, lq, hp, hq, n)
      ]
    ]

-- a chunk added, from the contracts of its parts
pub puts_add : (n : ℕ) (ks new_ks : List ℕ) (cs new_cs : List (List ℕ)) (k : ℕ) (c : List ℕ) → IsPaired n ks cs → lookup (nat_eq k) (entries_of ks cs) ≡ None → new_ks ≡ ks ++ k ∷ [] → new_cs ≡ cs ++ c ∷ [] → Puts (entries_of ks cs) (entries_of new_ks new_cs) k (Some c)
puts_add n ks new_ks cs new_cs k c p none e f =
    rw (e, f) (puts_push ks cs k c p.apart (apart_push ks k p.apart (absent_from_lookup ks cs k p.apart p.sizes none)) p.sizes)

pub paired_add : (n : ℕ) (ks new_ks : List ℕ) (cs new_cs : List (List ℕ)) (k : ℕ) (c : List ℕ) → IsPaired n ks cs → IsAbsent ks k → new_ks ≡ ks ++ k ∷ [] → new_cs ≡ cs ++ c ∷ [] → IsPaired n new_ks new_cs
paired_add n ks new_ks cs new_cs k c p h e f = record {
  fits = p.fits;
  sizes = rw (e, f) (length_push cs c ∙ ap (λ x. x + 1) p.sizes ∙ sym (length_push ks k));
  apart = rw e (apart_push ks k p.apart h);
}

-- ---- a place removed
pub length_without : {X : Type 0} (xs : List X) (p : ℕ) (d : X) → length (without_place xs p d) ≡ length xs - 1
length_without xs p d = length-take-le (length xs - 1) (slice_set xs p (slice_index_or xs (length xs - 1) d)) (rw (length-set xs p (slice_index_or xs (length xs - 1) d)) (omega arith))

pub without_this : {X : Type 0} (xs : List X) (p : ℕ) (d e : X) → p < length xs - 1 → slice_index_or (without_place xs p d) p e ≡ slice_index_or xs (length xs - 1) e
without_this xs p d e h =
    get_or-take (length xs - 1) (slice_set xs p (slice_index_or xs (length xs - 1) d)) p e h
    ∙ get_or-set_same xs p (slice_index_or xs (length xs - 1) d) e (omega (arith, h))
    ∙ get_or_default xs (length xs - 1) d e (omega (arith, h))

pub without_other : {X : Type 0} (xs : List X) (p q : ℕ) (d e : X) → q < length xs - 1 → q ≢ p → slice_index_or (without_place xs p d) q e ≡ slice_index_or xs q e
without_other xs p q d e h ne =
    get_or-take (length xs - 1) (slice_set xs p (slice_index_or xs (length xs - 1) d)) q e h
    ∙ get_or-set_other xs p q (slice_index_or xs (length xs - 1) d) e ne

-- where an index was before
was_at : (ks : List ℕ) (p q : ℕ) → q < length (without_place ks p 0) → (r : ℕ) × (r < length ks) × (slice_index (without_place ks p 0) q ≡ slice_index ks r) × (((q ≡ p) × (r ≡ length ks - 1)) ⊎ ((q ≢ p) × (r ≡ q)))
was_at ks p q h =
    let n = length_without ks p 0 in
    let w : q < length ks - 1 = omega (arith, h, n) in
    elim (cases_eq q p) [
      | inl e ↦ (length ks - 1, omega (arith, w), subst (λ x. slice_index (without_place ks p 0) x ≡ slice_index ks (length ks - 1)) (sym e) (without_this ks p 0 0 (omega (arith, w, e))), inl (e, refl))
      | inr ne ↦ (q, omega (arith, w), without_other ks p q 0 0 w ne, inr (ne, refl))
    ]

pub apart_without : (ks : List ℕ) (p : ℕ) → p < length ks → AreApart ks → AreApart (without_place ks p 0)
apart_without ks p hp a i j hi hj e =
    let n = length_without ks p 0 in
    let f = was_at ks p i hi in
    let g = was_at ks p j hj in
    let same = a f.0 g.0 f.1 g.1 (sym f.2 ∙ e ∙ g.2) in
    elim f.3 [
      | inl x ↦ elim g.3 [
        | inl y ↦ omega (arith, x.0, y.0)
        | inr y ↦ absurd (omega (arith, x.1, y.1, same, hj, n))
      ]
      | inr x ↦ elim g.3 [
        | inl y ↦ absurd (omega (arith, x.1, y.1, same, hi, n))
        | inr y ↦ omega (arith, x.1, y.1, same)
      ]
    ]

-- the removed index is at no place
gone_without : (ks : List ℕ) (p : ℕ) → p < length ks → AreApart ks → IsAbsent (without_place ks p 0) (slice_index ks p)
gone_without ks p hp a q h e =
    let n = length_without ks p 0 in
    let f = was_at ks p q h in
    let same = a f.0 p f.1 hp (sym f.2 ∙ e) in
    elim f.3 [
      | inl x ↦ absurd (omega (arith, x.0, x.1, same, h, n))
      | inr x ↦ x.0 (omega (arith, x.1, same))
    ]

absent_without : (ks : List ℕ) (p q : ℕ) → IsAbsent ks q → IsAbsent (without_place ks p 0) q
absent_without ks p q h place w e = let f = was_at ks p place w in h f.0 f.1 (sym f.2 ∙ e)

pub puts_without : {X : Type 0} (ks : List ℕ) (cs : List X) (p : ℕ) (d : X) → AreApart ks → length cs ≡ length ks → p < length ks → Puts (entries_of ks cs) (entries_of (without_place ks p 0) (without_place cs p d)) (slice_index ks p) None
puts_without ks cs p d a s h q =
    let n = length_without ks p 0 in
    let apart = apart_without ks p h a in
    let size : length (without_place cs p d) ≡ length (without_place ks p 0) = length_without cs p d ∙ ap (λ x. x - 1) s ∙ sym n in
    elim (cases_eq q (slice_index ks p)) [
      | inl e ↦ rw (eq-eqb q (slice_index ks p) e) (entry_absent (without_place ks p 0) (without_place cs p d) q (subst (λ x. IsAbsent (without_place ks p 0) x) (sym e) (gone_without ks p h a)))
      | inr ne ↦ rw (ne_eqb q (slice_index ks p) ne) (elim (place_or_none ks q) [
        | inl f ↦
            let w = f.1.within in
            let other : f.0 ≢ p = λ e. ne (sym f.1.is ∙ ap (slice_index ks) e) in
            sym (found_at ks cs q f.0 d a s f.1 ∙ sym (elim (cases_eq f.0 (length ks - 1)) [
              | inl last ↦
                  let under : p < length ks - 1 = omega (arith, last, other, w, h) in
                  let here : IsAt (without_place ks p 0) q p = record { within = omega (arith, under, n); is = without_this ks p 0 0 under ∙ ap (slice_index ks) (sym last) ∙ f.1.is } in
                  found_at (without_place ks p 0) (without_place cs p d) q p d apart size here
                  ∙ ap Some (without_this cs p d d (omega (arith, under, s)) ∙ ap (λ i. slice_index_or cs i d) (let e : length cs - 1 ≡ f.0 = omega (arith, s, last) in e))
              | inr not ↦
                  let under : f.0 < length ks - 1 = omega (arith, not, w) in
                  let here : IsAt (without_place ks p 0) q f.0 = record { within = omega (arith, under, n); is = without_other ks p f.0 0 0 under other ∙ f.1.is } in
                  found_at (without_place ks p 0) (without_place cs p d) q f.0 d apart size here
                  ∙ ap Some (without_other cs p f.0 d d (omega (arith, under, s)) other)
            ]))
        | inr g ↦ entry_absent (without_place ks p 0) (without_place cs p d) q (absent_without ks p q g) ∙ sym (entry_absent ks cs q g)
      ])
    ]

pub paired_without : (n : ℕ) (ks : List ℕ) (cs : List (List ℕ)) (p : ℕ) (d : List ℕ) → IsPaired n ks cs → p < length ks → IsPaired n (without_place ks p 0) (without_place cs p d)
paired_without n ks cs p d x h = record {
  fits = x.fits;
  sizes = length_without cs p d ∙ ap (λ m. m - 1) x.sizes ∙ sym (length_without ks p 0);
  apart = apart_without ks p h x.apart;
}
