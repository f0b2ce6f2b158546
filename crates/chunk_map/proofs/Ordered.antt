-- Keys in ascending order.
use Rattle.std.proofs.Common.{◌≡◌, ◌≢◌, ℕ, zero, suc, ◌+◌, ◌-◌, ◌*◌, ◌/◌, ◌%◌, ◌^◌, ◌<◌, ◌≤◌, Bool, true, false, ◌||◌, List, [], ◌∷◌, ◌++◌, length, slice_index, append_assoc, arith, refl, sym, ap, ◌∙◌, subst}
use mathlib.Core.Logic.{inl, inr, ◌⊎◌}
use Rattle.std.proofs.lemmas.Bool.{cases_Bool, cases_eq, cases_lt, cases_order, eq-eqb, false≢true, ne_eqb}
use Rattle.std.proofs.lemmas.List.{append-nil}
use Rattle.std.proofs.lemmas.List.Folds.{list_any-append}
use Rattle.std.specs.declared.cmp.Ordering.TheVariants.{Less}
use Rattle.std.specs.List.{AllByRecursion}
use Rattle.std.specs.List.Sorted.{IsStrictlySortedBy}
use Rattle.std.specs.Map.{keys_of}
use Rattle.std.specs.Ordering.{nat_cmp}
use Rattle.std.specs.Prelude.{nat_eq}
use Rattle.std.specs.Set.{is_member}
use Rattle.chunk_map.specs.declared.trie.Node.{Node}
use Rattle.chunk_map.specs.Ascending.{AppendsAscending, AppendsKeys, IsAscendingOf, LeadsBelow, LeadsTo}
use Rattle.chunk_map.specs.Entries.{entries_of}
use Rattle.chunk_map.specs.Trie.{AreApart, Finds, Holds, IsAt, IsRoot, IsTrie, Leads, digit_in, link_for, node_at}
use Rattle.chunk_map.proofs.Digits.{div_digit, same_above}
use Rattle.chunk_map.proofs.EntryLists.{cmp_less, entries_sorted, indices_are, less_below, member_at, not_member, place_or_none}
use Rattle.chunk_map.proofs.Following.{below_by_digits, finds_holds, finds_some}
use Rattle.chunk_map.proofs.Paths.{finds_next, finds_place}

-- ---- ascending lists
or_true : (t : Bool) → (t || true) ≡ true
or_true true = refl
or_true false = refl

member_here : (x : ℕ) (xs : List ℕ) → is_member nat_eq (x ∷ xs) x ≡ true
member_here x xs = rw (eq-eqb x x refl) refl

member_there : (x : ℕ) (xs : List ℕ) (q : ℕ) → is_member nat_eq xs q ≡ true → is_member nat_eq (x ∷ xs) q ≡ true
member_there x xs q m = rw m (or_true (nat_eq q x))

member_other : (x : ℕ) (xs : List ℕ) (q : ℕ) → q ≢ x → is_member nat_eq (x ∷ xs) q ≡ is_member nat_eq xs q
member_other x xs q ne = rw (ne_eqb q x ne) refl

all_append : (x : ℕ) (xs ys : List ℕ) → AllByRecursion (λ y. nat_cmp x y ≡ Less) xs → ((y : ℕ) → is_member nat_eq ys y ≡ true → x < y) → AllByRecursion (λ y. nat_cmp x y ≡ Less) (xs ++ ys)
all_append x [] [] a h = tt
all_append x [] (y ∷ ys) a h = (cmp_less x y (h y (member_here y ys)), all_append x [] ys tt (λ z m. h z (member_there y ys z m)))
all_append x (z ∷ xs) ys a h = (a.0, all_append x xs ys a.1 h)

sorted_append : (xs ys : List ℕ) → IsStrictlySortedBy nat_cmp xs → IsStrictlySortedBy nat_cmp ys → ((x y : ℕ) → is_member nat_eq xs x ≡ true → is_member nat_eq ys y ≡ true → x < y) → IsStrictlySortedBy nat_cmp (xs ++ ys)
unfolding IsStrictlySortedBy
sorted_append [] ys s t h = t
sorted_append (x ∷ xs) ys s t h = (all_append x xs ys s.0 (λ y m. h x y (member_here x xs) m), sorted_append xs ys s.1 t (λ a b m n. h a b (member_there x xs a m) n))

-- no member of a list of greater numbers
not_above : (x y : ℕ) (ys : List ℕ) → x ≤ y → AllByRecursion (λ z. nat_cmp y z ≡ Less) ys → is_member nat_eq ys x ≡ false
not_above x y [] h a = refl
not_above x y (z ∷ ys) h a = member_other z ys x (λ e. let l = less_below y z a.0 in absurd (omega (arith, e, l, h))) ∙ not_above x y ys h a.1

-- the least of one list is that of another
not_less : (x y : ℕ) (xs ys : List ℕ) → AllByRecursion (λ z. nat_cmp y z ≡ Less) ys → ((q : ℕ) → is_member nat_eq (x ∷ xs) q ≡ is_member nat_eq (y ∷ ys) q) → x < y → ⊥
not_less x y xs ys a h l =
    let none = member_other y ys x (λ e. absurd (omega (arith, e, l))) ∙ not_above x y ys (omega (arith, l)) a in
    false≢true (sym none ∙ sym (h x) ∙ member_here x xs)

-- ascending lists are equal if they have the same members
pub ascending_same : (xs ys : List ℕ) → IsStrictlySortedBy nat_cmp xs → IsStrictlySortedBy nat_cmp ys → ((q : ℕ) → is_member nat_eq xs q ≡ is_member nat_eq ys q) → xs ≡ ys
unfolding IsStrictlySortedBy
ascending_same [] [] s t h = refl
ascending_same [] (y ∷ ys) s t h = absurd (false≢true (h y ∙ member_here y ys))
ascending_same (x ∷ xs) [] s t h = absurd (false≢true (sym (h x) ∙ member_here x xs))
ascending_same (x ∷ xs) (y ∷ ys) s t h = elim (cases_order x y) [
  | inl e ↦
      let rest : xs ≡ ys = ascending_same xs ys s.1 t.1 (λ q. elim (cases_eq q x) [
        | inl f ↦ not_above q x xs (omega (arith, f)) s.0 ∙ sym (not_above q y ys (omega (arith, e, f)) t.0)
        | inr ne ↦ sym (member_other x xs q ne) ∙ h q ∙ member_other y ys q (λ f. ne (f ∙ sym e))
      ]) in
      ap (λ z. z ∷ xs) e ∙ ap (λ zs. y ∷ zs) rest
  | inr (inl l) ↦ absurd (not_less x y xs ys t.0 h l)
  | inr (inr l) ↦ absurd (not_less y x ys xs s.0 (λ q. sym (h q)) l)
]

-- ---- numbers appended to a list
appends_none : (P : ℕ → Type 0) (old : List ℕ) → ((key : ℕ) → P key → ⊥) → AppendsAscending P old old
unfolding IsStrictlySortedBy
appends_none P old h = record { more = []; appended = sym (append-nil old); sorted = tt; all = λ key p. absurd (h key p); only = λ key e. absurd (false≢true e) }

appends_one : (P : ℕ → Type 0) (old : List ℕ) (x : ℕ) → P x → ((key : ℕ) → P key → key ≡ x) → AppendsAscending P old (old ++ x ∷ [])
unfolding IsStrictlySortedBy
appends_one P old x p h = record {
  more = x ∷ [];
  appended = refl;
  sorted = (tt, tt);
  all = λ key q. rw (eq-eqb key x (h key q)) refl;
  only = λ key e. elim (cases_eq key x) [
    | inl f ↦ subst P (sym f) p
    | inr ne ↦ absurd (false≢true (sym (member_other x [] key ne) ∙ e))
  ];
}

appends_both : (P Q R : ℕ → Type 0) (old mid new : List ℕ) → AppendsAscending P old mid → AppendsAscending Q mid new → ((x y : ℕ) → P x → Q y → x < y) → ((key : ℕ) → R key → P key ⊎ Q key) → ((key : ℕ) → P key → R key) → ((key : ℕ) → Q key → R key) → AppendsAscending R old new
appends_both P Q R old mid new a b order either from_p from_q = record {
  more = a.more ++ b.more;
  appended = b.appended ∙ ap (λ l. l ++ b.more) a.appended ∙ append_assoc old a.more b.more;
  sorted = sorted_append a.more b.more a.sorted b.sorted (λ x y m n. order x y (a.only x m) (b.only y n));
  all = λ key r. list_any-append (nat_eq key) a.more b.more ∙ elim (either key r) [
    | inl p ↦ rw (a.all key p) refl
    | inr q ↦ rw (b.all key q) (or_true (is_member nat_eq a.more key))
  ];
  only = λ key e. elim (cases_Bool (is_member nat_eq a.more key)) [
    | inl m ↦ from_p key (a.only key m)
    | inr m ↦ from_q key (b.only key (sym (ap (λ t. t || is_member nat_eq b.more key) m) ∙ sym (list_any-append (nat_eq key) a.more b.more) ∙ e))
  ];
}

-- ---- the keys that a link leads to
-- a link of a node for a digit leads to keys with that digit
slot_digits : (nodes : List Node) (keys : List ℕ) (root c digit key : ℕ) → IsTrie nodes keys root → c < length nodes → digit < 16 → LeadsTo nodes keys (slice_index (node_at nodes c).links digit) key → key / 2 ^ (node_at nodes c).shift ≡ (node_at nodes c).base / 2 ^ (node_at nodes c).shift / 16 * 16 + digit
slot_digits nodes keys root c digit key t within d (place, (zero, f)) =
    let node = node_at nodes c in
    let link = slice_index node.links digit in
    let is = f.1 in
    let here : link / 2 - 1 ≡ place = omega (arith, is) in
    let same : slice_index keys (link / 2 - 1) ≡ key = ap (slice_index keys) here ∙ f.0.is in
    sym (ap (λ k. k / 2 ^ node.shift) same) ∙ (t.slots c within digit d).below_key (omega (arith, is)) (omega (arith, is))
slot_digits nodes keys root c digit key t within d (place, (suc steps, f)) =
    let node = node_at nodes c in
    let link = slice_index node.links digit in
    let child = node_at nodes (link / 2) in
    let odd = f.0.odd in
    let low = (t.forest c within).lower digit d odd in
    let mine = (t.forest c within).shift.digit in
    let its = (t.forest (link / 2) f.0.within).shift.digit in
    let joined : key / 2 ^ (child.shift + 4) ≡ child.base / 2 ^ (child.shift + 4) = div_digit key child.shift ∙ f.1 ∙ sym (div_digit child.base child.shift) in
    same_above key child.base (child.shift + 4) node.shift (omega (arith, low, mine, its)) joined ∙ (t.slots c within digit d).below_node odd

-- the link of a node leads to the keys that a link of the node leads to
from_slot : (nodes : List Node) (keys : List ℕ) (root link digit key : ℕ) → IsTrie nodes keys root → link % 2 ≡ 1 → link / 2 < length nodes → digit < 16 → LeadsTo nodes keys (slice_index (node_at nodes (link / 2)).links digit) key → LeadsTo nodes keys link key × (digit_in (node_at nodes (link / 2)) key ≡ digit)
from_slot nodes keys root link digit key t odd within d below =
    let node = node_at nodes (link / 2) in
    let is = slot_digits nodes keys root (link / 2) digit key t within d below in
    let own : digit_in node key ≡ digit = omega (arith, is, d) in
    let holds : Holds node key = omega (arith, is, d) in
    ((below.0, (suc below.1.0, (record { odd = odd; within = within }, holds, subst (λ x. Leads nodes keys key below.0 below.1.0 (slice_index node.links x)) (sym own) below.1.1))), own)

to_slot : (nodes : List Node) (keys : List ℕ) (link digit key : ℕ) → link % 2 ≡ 1 → LeadsTo nodes keys link key → digit_in (node_at nodes (link / 2)) key ≡ digit → LeadsTo nodes keys (slice_index (node_at nodes (link / 2)).links digit) key
to_slot nodes keys link digit key odd below own =
    (below.0, subst (λ x. Finds nodes keys key below.0 (slice_index (node_at nodes (link / 2)).links x)) own (finds_next nodes keys key below.0 link odd below.1))

no_slot : (nodes : List Node) (keys : List ℕ) (link key : ℕ) → link % 2 ≡ 1 → LeadsTo nodes keys link key → link_for (node_at nodes (link / 2)) key ≢ 0
no_slot nodes keys link key odd below = finds_some nodes keys key below.0 (link_for (node_at nodes (link / 2)) key) (finds_next nodes keys key below.0 link odd below.1)

-- before the first digit
pub digits_start : (nodes : List Node) (keys : List ℕ) (link digit : ℕ) (old : List ℕ) → link % 2 ≡ 1 → ((d : ℕ) → 0 ≤ d → d < digit → slice_index (node_at nodes (link / 2)).links d ≡ 0) → AppendsAscending (LeadsBelow nodes keys link digit) old old
digits_start nodes keys link digit old odd none =
    appends_none (LeadsBelow nodes keys link digit) old (λ key p. no_slot nodes keys link key odd p.0 (none (digit_in (node_at nodes (link / 2)) key) (omega arith) p.1))

-- one digit more, and the next one
pub digits_more : (nodes : List Node) (keys : List ℕ) (root link digit next : ℕ) (old mid new : List ℕ) → IsTrie nodes keys root → link % 2 ≡ 1 → link / 2 < length nodes → digit < 16 → digit + 1 ≤ next → ((d : ℕ) → digit + 1 ≤ d → d < next → slice_index (node_at nodes (link / 2)).links d ≡ 0) → AppendsAscending (LeadsBelow nodes keys link digit) old mid → AppendsKeys nodes keys (slice_index (node_at nodes (link / 2)).links digit) mid new → AppendsAscending (LeadsBelow nodes keys link next) old new
digits_more nodes keys root link digit next old mid new t odd within d up none before mine =
    let node = node_at nodes (link / 2) in
    appends_both (LeadsBelow nodes keys link digit) (LeadsTo nodes keys (slice_index node.links digit)) (LeadsBelow nodes keys link next) old mid new before mine
    (λ x y p q.
    let holds : Holds node x = finds_holds nodes keys x p.0.0 link odd p.0.1 in
    let less = p.1 in
    let is = slot_digits nodes keys root (link / 2) digit y t within d q in
    below_by_digits x y node.shift (omega (arith, holds, less, is)))
    (λ key r. elim (cases_lt (digit_in node key) digit) [
      | inl l ↦ inl (r.0, l)
      | inr l ↦ elim (cases_eq (digit_in node key) digit) [
        | inl e ↦ inr (to_slot nodes keys link digit key odd r.0 e)
        | inr ne ↦ absurd (no_slot nodes keys link key odd r.0 (none (digit_in node key) (omega (arith, l, ne)) r.1))
      ]
    ])
    (λ key p. let less = p.1 in (p.0, omega (arith, less, up)))
    (λ key q. let f = from_slot nodes keys root link digit key t odd within d q in let own = f.1 in (f.0, omega (arith, own, up)))

-- after the last digit
pub digits_end : (nodes : List Node) (keys : List ℕ) (link digit : ℕ) (old new : List ℕ) → 16 ≤ digit → AppendsAscending (LeadsBelow nodes keys link digit) old new → AppendsKeys nodes keys link old new
digits_end nodes keys link digit old new last a = record {
  more = a.more;
  appended = a.appended;
  sorted = a.sorted;
  all = λ key p. a.all key (p, omega (arith, last));
  only = λ key m. (a.only key m).0;
}

-- no link
pub keys_none : (nodes : List Node) (keys : List ℕ) (link : ℕ) (old : List ℕ) → link ≡ 0 → AppendsKeys nodes keys link old old
keys_none nodes keys link old none = appends_none (LeadsTo nodes keys link) old (λ key p. finds_some nodes keys key p.0 link p.1 none)

leads_at : (nodes : List Node) (keys : List ℕ) (key place steps link : ℕ) → Leads nodes keys key place steps link → IsAt keys key place
leads_at nodes keys key place zero link f = f.0
leads_at nodes keys key place (suc steps) link f = leads_at nodes keys key place steps (link_for (node_at nodes (link / 2)) key) f.2

-- the link of a place
pub keys_one : (nodes : List Node) (keys : List ℕ) (link : ℕ) (old : List ℕ) → IsRoot nodes keys link → link % 2 ≡ 0 → link ≢ 0 → AppendsKeys nodes keys link old (old ++ slice_index keys (link / 2 - 1) ∷ [])
keys_one nodes keys link old r even some =
    let in_keys = r.place even in
    appends_one (LeadsTo nodes keys link) old (slice_index keys (link / 2 - 1))
    (link / 2 - 1, (0, (record { within = omega (arith, in_keys, even, some); is = refl }, omega (arith, even, some))))
    (λ key p.
    let is = finds_place nodes keys key p.0 link even p.1 in
    sym (leads_at nodes keys key p.0 p.1.0 link p.1.1).is ∙ ap (slice_index keys) (let e : p.0 ≡ link / 2 - 1 = omega (arith, is) in e))

-- ---- the keys of a trie
pub trie_keys : (nodes : List Node) (keys : List ℕ) (root : ℕ) (new : List ℕ) → IsTrie nodes keys root → AppendsKeys nodes keys root [] new → IsAscendingOf keys new
trie_keys nodes keys root new t a = record {
  sorted = subst (IsStrictlySortedBy nat_cmp) (sym a.appended) a.sorted;
  members = λ key. ap (λ xs. is_member nat_eq xs key) a.appended ∙ elim (place_or_none keys key) [
    | inl f ↦
        a.all key (f.0, subst (λ k. Finds nodes keys k f.0 root) f.1.is (t.found f.0 f.1.within))
        ∙ sym (member_at keys key f.0 f.1.within f.1.is)
    | inr h ↦ elim (cases_Bool (is_member nat_eq a.more key)) [
      | inl m ↦
          let p = a.only key m in
          let at = leads_at nodes keys key p.0 p.1.0 root p.1.1 in
          absurd (h p.0 at.within at.is)
      | inr m ↦ m ∙ sym (not_member keys key h)
    ]
  ];
}

-- the indices of chunks, ascending, are those of the entries
pub entries_ascending : (indices : List ℕ) (chunks : List (List ℕ)) (ascending : List ℕ) → AreApart indices → length chunks ≡ length indices → IsAscendingOf indices ascending → ascending ≡ keys_of (entries_of indices chunks)
entries_ascending indices chunks ascending apart sizes a =
    ascending_same ascending (keys_of (entries_of indices chunks)) a.sorted (entries_sorted indices chunks) (λ q. a.members q ∙ indices_are indices chunks apart sizes q)
