-- The walk to the least key at or above a number.
use Rattle.std.proofs.Common.{◌≡◌, ◌≢◌, ℕ, zero, suc, ◌+◌, ◌-◌, ◌*◌, ◌/◌, ◌%◌, ◌^◌, ◌<◌, ◌≤◌, List, length, slice_index, MatchOption, Option, Some, None, max, arith, sym, ap, ◌∙◌, subst}
use mathlib.Core.Logic.{inl, inr}
use Rattle.std.proofs.lemmas.Bool.{cases_eq, cases_lt}
use Rattle.std.proofs.lemmas.Nat.{pow-add, pow_pos, le-div, div_below}
use Rattle.std.proofs.Math.Nat.{div-mul-le_self, mul-div_left, mul-le-mul_right, lt-div-mul-add}
use Rattle.chunk_map.specs.declared.next.Slot.{Slot}
use Rattle.chunk_map.specs.declared.next.Step.{Step}
use Rattle.chunk_map.specs.declared.next.Step.TheVariants.{Found, Skip, End}
use Rattle.chunk_map.specs.declared.trie.Node.{Node}
use Rattle.chunk_map.specs.Next.{AreBelow, AreFrom, IsFirstIn, IsNextPlace, IsNoneIn, IsPast, IsSpan, IsStart, IsWalk, StepReports}
use Rattle.chunk_map.specs.Trie.{Finds, Holds, IsShift, IsTrie, digit_in, link_for, node_at}
use Rattle.chunk_map.proofs.Digits.{div_digit, same_above}
use Rattle.chunk_map.proofs.Paths.{finds_next, finds_place}

-- ---- numbers
pub div_mono : (a b s : ℕ) → a ≤ b → a / 2 ^ s ≤ b / 2 ^ s
div_mono a b s h = le-div (a / 2 ^ s) b (2 ^ s) (pow_pos s) (omega (arith, h, div-mul-le_self a (2 ^ s)))

-- a number with digits below those of another from a shift on is less
pub below_by_digits : (a b s : ℕ) → a / 2 ^ s < b / 2 ^ s → a < b
below_by_digits a b s h = elim (cases_lt a b) [ inl l ↦ l | inr l ↦ absurd (omega (arith, h, div_mono b a s l)) ]

-- the first number with some digits
start_of : (x key s : ℕ) → x ≤ key / 2 ^ s → x * 2 ^ s ≤ key
start_of x key s h = omega (arith, mul-le-mul_right (2 ^ s) h, div-mul-le_self key (2 ^ s))

start_fits : (base digit s : ℕ) → base < 2 ^ 64 → s ≤ 60 → digit < 16 → (base / 2 ^ s / 16 * 16 + digit) * 2 ^ s < 2 ^ 64
start_fits base digit s fits most d =
    let m = 2 ^ (60 - s) in
    let p : m * 2 ^ s ≡ 2 ^ 60 = sym (pow-add 2 (60 - s) s) ∙ ap (λ x. 2 ^ x) (let e : 60 - s + s ≡ 60 = omega arith in e) in
    let high : base / 2 ^ s < m * 16 = div_below base (2 ^ s) (m * 16) (pow_pos s) (omega (arith, p, fits)) in
    let below : base / 2 ^ s / 16 * 16 + digit + 1 ≤ m * 16 = omega (arith, high, d) in
    omega (arith, p, mul-le-mul_right (2 ^ s) below, pow_pos s)

-- ---- one node
-- no link for the digits before the next one
enter_none : (node : Node) (at from digit key : ℕ) → (at / 2 ^ node.shift / 16 ≡ node.base / 2 ^ node.shift / 16 → from ≡ at / 2 ^ node.shift % 16) → (at / 2 ^ node.shift / 16 < node.base / 2 ^ node.shift / 16 → from ≡ 0) → at / 2 ^ node.shift / 16 ≤ node.base / 2 ^ node.shift / 16 → ((d : ℕ) → from ≤ d → d < digit → slice_index node.links d ≡ 0) → at ≤ key → Holds node key → digit_in node key < digit → link_for node key ≡ 0
enter_none node at from digit key same below most least h holds lt =
    let up = div_mono at key node.shift h in
    least (digit_in node key) (elim (cases_lt (at / 2 ^ node.shift / 16) (node.base / 2 ^ node.shift / 16)) [
      | inl l ↦ let e = below l in omega (arith, e)
      | inr l ↦ let e = same (omega (arith, l, most)) in omega (arith, e, up, holds, most, l)
    ]) lt

pub enter_past : (node : Node) (at from digit : ℕ) → digit ≡ 16 → (at / 2 ^ node.shift / 16 ≡ node.base / 2 ^ node.shift / 16 → from ≡ at / 2 ^ node.shift % 16) → (at / 2 ^ node.shift / 16 < node.base / 2 ^ node.shift / 16 → from ≡ 0) → at / 2 ^ node.shift / 16 ≤ node.base / 2 ^ node.shift / 16 → ((d : ℕ) → from ≤ d → d < digit → slice_index node.links d ≡ 0) → IsNoneIn node at
enter_past node at from digit last same below most least key h holds = enter_none node at from digit key same below most least h holds (omega (arith, last))

pub enter_first : (node : Node) (at from digit first : ℕ) → at < 2 ^ 64 → node.base < 2 ^ 64 → node.shift ≤ 60 → digit < 16 → from ≤ digit → (at / 2 ^ node.shift / 16 ≡ node.base / 2 ^ node.shift / 16 → from ≡ at / 2 ^ node.shift % 16) → (at / 2 ^ node.shift / 16 < node.base / 2 ^ node.shift / 16 → from ≡ 0) → at / 2 ^ node.shift / 16 ≤ node.base / 2 ^ node.shift / 16 → ((d : ℕ) → from ≤ d → d < digit → slice_index node.links d ≡ 0) → first ≡ max at ((node.base / 2 ^ node.shift / 16 * 16 + digit) * 2 ^ node.shift % 2 ^ 64) → IsFirstIn node at first
enter_first node at from digit first fa fits shift d lo same below most least e =
    let s = node.shift in
    let x = node.base / 2 ^ s / 16 * 16 + digit in
    let start = x * 2 ^ s in
    let small = start_fits node.base digit s fits shift d in
    let exact : start % 2 ^ 64 ≡ start = omega (arith, small) in
    let is : first ≡ max at start = e ∙ ap (λ y. max at y) exact in
    let digits : start / 2 ^ s ≡ x = mul-div_left x (pow_pos s) in
    record {
      fits = omega (arith, is, small, fa);
      from_on = omega (arith, is);
      holds = elim (cases_lt at start) [
        | inl l ↦ let f : first ≡ start = omega (arith, is, l) in rw (f, digits) (omega (arith, d))
        | inr l ↦ let f : first ≡ at = omega (arith, is, l) in let up = div_mono start at s l in rw f (omega (arith, up, digits, most))
      ];
      least = λ key h holds some.
          let past : digit ≤ digit_in node key = elim (cases_lt (digit_in node key) digit) [
            | inl l ↦ absurd (some (enter_none node at from digit key same below most least h holds l))
            | inr l ↦ l
          ] in
          let on = start_of x key s (omega (arith, past, holds)) in
          omega (arith, is, on, h);
    }

pub enter_linked : (node : Node) (at from digit first : ℕ) → at < 2 ^ 64 → node.base < 2 ^ 64 → node.shift ≤ 60 → digit < 16 → from ≤ digit → (at / 2 ^ node.shift / 16 ≡ node.base / 2 ^ node.shift / 16 → from ≡ at / 2 ^ node.shift % 16) → (at / 2 ^ node.shift / 16 < node.base / 2 ^ node.shift / 16 → from ≡ 0) → at / 2 ^ node.shift / 16 ≤ node.base / 2 ^ node.shift / 16 → ((d : ℕ) → from ≤ d → d < digit → slice_index node.links d ≡ 0) → slice_index node.links digit ≢ 0 → first ≡ max at ((node.base / 2 ^ node.shift / 16 * 16 + digit) * 2 ^ node.shift % 2 ^ 64) → link_for node first ≢ 0
enter_linked node at from digit first fa fits shift d lo same below most least some e =
    let s = node.shift in
    let x = node.base / 2 ^ s / 16 * 16 + digit in
    let start = x * 2 ^ s in
    let small = start_fits node.base digit s fits shift d in
    let exact : start % 2 ^ 64 ≡ start = omega (arith, small) in
    let is : first ≡ max at start = e ∙ ap (λ y. max at y) exact in
    let digits : start / 2 ^ s ≡ x = mul-div_left x (pow_pos s) in
    let own : digit_in node first ≡ digit = elim (cases_lt at start) [
      | inl l ↦ let f : first ≡ start = omega (arith, is, l) in rw (f, digits) (omega (arith, d))
      | inr l ↦
          let f : first ≡ at = omega (arith, is, l) in
          let up = div_mono start at s l in
          let joined : at / 2 ^ s / 16 ≡ node.base / 2 ^ s / 16 = omega (arith, up, digits, most) in
          let on = same joined in
          rw f (omega (arith, up, digits, joined, on, lo))
    ] in
    rw own some

-- ---- a walk
-- a link that leads to a key is not 0
pub finds_some : (nodes : List Node) (keys : List ℕ) (key place link : ℕ) → Finds nodes keys key place link → link ≢ 0
finds_some nodes keys key place link (zero, f) = λ e. let g = f.1 in absurd (omega (arith, g, e))
finds_some nodes keys key place link (suc steps, f) = λ e. let o = f.0.odd in absurd (omega (arith, o, e))

pub finds_holds : (nodes : List Node) (keys : List ℕ) (key place link : ℕ) → link % 2 ≡ 1 → Finds nodes keys key place link → Holds (node_at nodes (link / 2)) key
finds_holds nodes keys key place link odd (zero, f) = let e = f.1 in absurd (omega (arith, odd, e))
finds_holds nodes keys key place link odd (suc steps, f) = f.1

-- a key at or above a number, but not in its slot, is past the slot
past_slot : (key at span : ℕ) → at ≤ key → key / 2 ^ span ≢ at / 2 ^ span → (at / 2 ^ span + 1) * 2 ^ span ≤ key
past_slot key at span h ne = start_of (at / 2 ^ span + 1) key span (let up = div_mono at key span h in omega (arith, up, ne))

-- no key at or above the number is in the slot
pub past_reports : (keys : List ℕ) (from at span : ℕ) (told : Step) → ((place : ℕ) → place < length keys → slice_index keys place < 2 ^ 64) → from ≤ at → AreFrom keys from at → ((place : ℕ) → place < length keys → at ≤ slice_index keys place → slice_index keys place / 2 ^ span ≢ at / 2 ^ span) → IsPast at span told → StepReports keys from told
past_reports keys from at span (Found place) fits h all none p = absurd p
past_reports keys from at span (Skip past) fits h all none p = (
  let up = lt-div-mul-add {a = at} {b = 2 ^ span} (pow_pos span) in omega (arith, up, p, h),
  λ place w f. let g = past_slot (slice_index keys place) at span (all place w f) (none place w (all place w f)) in omega (arith, g, p),
)
past_reports keys from at span End fits h all none p = λ place w. elim (cases_lt (slice_index keys place) from) [
  | inl l ↦ l
  | inr l ↦ let g = past_slot (slice_index keys place) at span (all place w l) (none place w (all place w l)) in absurd (omega (arith, g, p, fits place w))
]

-- numbers in one node are in one slot of the node above
one_above : (node : Node) (at first span : ℕ) → IsSpan span → IsShift node.shift → node.shift < span → at < 2 ^ 64 → first < 2 ^ 64 → Holds node first → (span ≤ 60 → node.base / 2 ^ span ≡ at / 2 ^ span) → first / 2 ^ span ≡ at / 2 ^ span
one_above node at first span (inl s) shift lt fa ff holds inside =
    let d = s.digit in
    let e = shift.digit in
    let up : node.shift + 4 ≤ span = omega (arith, lt, d, e) in
    let joined : first / 2 ^ (node.shift + 4) ≡ node.base / 2 ^ (node.shift + 4) = div_digit first node.shift ∙ holds ∙ sym (div_digit node.base node.shift) in
    same_above first node.base (node.shift + 4) span up joined ∙ inside s.most
one_above node at first span (inr s) shift lt fa ff holds inside =
    let zero_a : at / 2 ^ 64 ≡ 0 = omega (arith, fa) in
    let zero_f : first / 2 ^ 64 ≡ 0 = omega (arith, ff) in
    rw s (zero_f ∙ sym zero_a)

-- one node further
pub walk_next : (nodes : List Node) (keys : List ℕ) (root from at span link first : ℕ) → IsTrie nodes keys root → IsWalk nodes keys from at span link → link % 2 ≡ 1 → IsFirstIn (node_at nodes (link / 2)) at first → IsWalk nodes keys from first (node_at nodes (link / 2)).shift (link_for (node_at nodes (link / 2)) first)
walk_next nodes keys root from at span link first t w odd f =
    let c = link / 2 in
    let node = node_at nodes c in
    let within = w.node odd in
    let shape = t.forest c within in
    let digit = digit_in node first in
    let same : first / 2 ^ span ≡ at / 2 ^ span = one_above node at first span w.span_fits shape.shift (w.lower odd) w.at_fits f.fits f.holds (w.node_in odd) in
    let slot = t.slots c within digit (omega arith) in
    let holds = f.holds in
    let on = f.from_on in
    record {
      span_fits = inl shape.shift;
      at_fits = f.fits;
      from_on = let a = w.from_on in omega (arith, a, on);
      all = λ place h g.
          let key = slice_index keys place in
          let up = w.all place h g in
          elim (cases_eq (key / 2 ^ span) (at / 2 ^ span)) [
            | inl e ↦
                let found = w.below place h e in
                f.least key up (finds_holds nodes keys key place link odd found) (finds_some nodes keys key place (link_for node key) (finds_next nodes keys key place link odd found))
            | inr ne ↦
                let lt : first / 2 ^ span < key / 2 ^ span = let m = div_mono at key span up in omega (arith, m, ne, same) in
                let l = below_by_digits first key span lt in omega (arith, l)
          ];
      below = λ place h e.
          let key = slice_index keys place in
          let above : key / 2 ^ span ≡ at / 2 ^ span = same_above key first node.shift span (let l = w.lower odd in omega (arith, l)) e ∙ same in
          let found = finds_next nodes keys key place link odd (w.below place h above) in
          let to : link_for node key ≡ link_for node first = ap (λ x. slice_index node.links (x % 16)) e in
          subst (λ l. Finds nodes keys key place l) to found;
      node = λ o. shape.within digit (omega arith) o;
      place = slot.place;
      lower = λ o. shape.lower digit (omega arith) o;
      node_in = λ o l. let b = slot.below_node o in omega (arith, b, holds);
      key_in = λ e some. let b = slot.below_key e some in omega (arith, b, holds);
    }

-- ---- where a walk ends
-- the node has no link for a key of the slot
pub walk_none : (nodes : List Node) (keys : List ℕ) (from at span link : ℕ) → IsWalk nodes keys from at span link → link % 2 ≡ 1 → IsNoneIn (node_at nodes (link / 2)) at → (place : ℕ) → place < length keys → at ≤ slice_index keys place → slice_index keys place / 2 ^ span ≢ at / 2 ^ span
walk_none nodes keys from at span link w odd none place h up = λ e.
    let key = slice_index keys place in
    let found = w.below place h e in
    finds_some nodes keys key place (link_for (node_at nodes (link / 2)) key) (finds_next nodes keys key place link odd found) (none key up (finds_holds nodes keys key place link odd found))

-- the one key of the slot is below the number, or there is none
pub walk_end : (nodes : List Node) (keys : List ℕ) (from at span link : ℕ) → IsWalk nodes keys from at span link → link % 2 ≡ 0 → (0 < link → slice_index keys (link / 2 - 1) < at) → (place : ℕ) → place < length keys → at ≤ slice_index keys place → slice_index keys place / 2 ^ span ≢ at / 2 ^ span
walk_end nodes keys from at span link w even below place h up = λ e.
    let is = finds_place nodes keys (slice_index keys place) place link even (w.below place h e) in
    let here : link / 2 - 1 ≡ place = omega (arith, is) in
    let l : slice_index keys place < at = subst (λ p. slice_index keys p < at) here (below (omega (arith, is))) in
    absurd (omega (arith, l, up))

-- the one key of the slot is at or above the number
pub walk_found : (nodes : List Node) (keys : List ℕ) (from at span link : ℕ) → IsWalk nodes keys from at span link → link % 2 ≡ 0 → 0 < link → at ≤ slice_index keys (link / 2 - 1) → IsNextPlace keys from (link / 2 - 1)
walk_found nodes keys from at span link w even some here = record {
  within = let p = w.place even in omega (arith, p, even, some);
  from_on = let f = w.from_on in omega (arith, f, here);
  least = λ place h g.
      let key = slice_index keys place in
      let up = w.all place h g in
      elim (cases_eq (key / 2 ^ span) (at / 2 ^ span)) [
        | inl e ↦
            let is = finds_place nodes keys key place link even (w.below place h e) in
            let same : link / 2 - 1 ≡ place = omega (arith, is) in
            let f : slice_index keys (link / 2 - 1) ≡ key = ap (slice_index keys) same in
            omega (arith, f)
        | inr ne ↦
            let mine = w.key_in even some in
            let lt : slice_index keys (link / 2 - 1) / 2 ^ span < key / 2 ^ span = let m = div_mono at key span up in omega (arith, m, ne, mine) in
            let l = below_by_digits (slice_index keys (link / 2 - 1)) key span lt in omega (arith, l)
      ];
}

-- a later start
pub from_later : (keys : List ℕ) (from at place : ℕ) → from ≤ at → AreFrom keys from at → IsNextPlace keys at place → IsNextPlace keys from place
from_later keys from at place h all n = record {
  within = n.within;
  from_on = let f = n.from_on in omega (arith, f, h);
  least = λ q w g. n.least q w (all q w g);
}

pub below_later : (keys : List ℕ) (from at : ℕ) → AreFrom keys from at → AreBelow keys at → AreBelow keys from
below_later keys from at all below place h = elim (cases_lt (slice_index keys place) from) [
  | inl l ↦ l
  | inr l ↦ let a = all place h l in let b = below place h in absurd (omega (arith, a, b))
]

-- ---- where a walk starts
-- the slot of a number is that of another number in it
walk_at : (nodes : List Node) (keys : List ℕ) (from at span link first : ℕ) → IsWalk nodes keys from at span link → first < 2 ^ 64 → first / 2 ^ span ≡ at / 2 ^ span → IsWalk nodes keys first first span link
walk_at nodes keys from at span link first w fits same = record {
  span_fits = w.span_fits;
  at_fits = fits;
  from_on = omega arith;
  all = λ place h g. g;
  below = λ place h e. w.below place h (e ∙ same);
  node = w.node;
  place = w.place;
  lower = w.lower;
  node_in = λ o l. w.node_in o l ∙ sym same;
  key_in = λ e some. w.key_in e some ∙ sym same;
}

-- one node further, with the same number
pub walk_on : (nodes : List Node) (keys : List ℕ) (root at span link : ℕ) → IsTrie nodes keys root → IsWalk nodes keys at at span link → link % 2 ≡ 1 → Holds (node_at nodes (link / 2)) at → IsWalk nodes keys at at (node_at nodes (link / 2)).shift (link_for (node_at nodes (link / 2)) at)
walk_on nodes keys root at span link t w odd holds =
    walk_next nodes keys root at at span link at t w odd (record { fits = w.at_fits; from_on = omega arith; holds = holds; least = λ key h g some. h })

-- the keys at or above a number that are not in its slot are at or above another, where a slot starts
pub record IsRest (nodes : List Node) (keys : List ℕ) (from span at its_span link : ℕ) : Type 0 where
  pub from_on : from ≤ at
  pub all : (place : ℕ) → place < length keys → from ≤ slice_index keys place → slice_index keys place / 2 ^ span ≢ from / 2 ^ span → at ≤ slice_index keys place
  pub walk : IsWalk nodes keys at at its_span link

-- all keys at or above a number are in its slot
abbrev pub AreInSlot : List ℕ → ℕ → ℕ → Type 0
AreInSlot keys from span = (place : ℕ) → place < length keys → from ≤ slice_index keys place → slice_index keys place / 2 ^ span ≡ from / 2 ^ span

-- a key in the slot of a number, but not in that of the node below, has a later digit in the node
later_digit : (nodes : List Node) (keys : List ℕ) (from span link digit place : ℕ) → IsWalk nodes keys from from span link → link % 2 ≡ 1 → Holds (node_at nodes (link / 2)) from → ((d : ℕ) → digit_in (node_at nodes (link / 2)) from + 1 ≤ d → d < digit → slice_index (node_at nodes (link / 2)).links d ≡ 0) → place < length keys → from ≤ slice_index keys place → slice_index keys place / 2 ^ span ≡ from / 2 ^ span → slice_index keys place / 2 ^ (node_at nodes (link / 2)).shift ≢ from / 2 ^ (node_at nodes (link / 2)).shift → (digit ≤ digit_in (node_at nodes (link / 2)) (slice_index keys place)) × Holds (node_at nodes (link / 2)) (slice_index keys place)
later_digit nodes keys from span link digit place w odd holds least h up e ne =
    let node = node_at nodes (link / 2) in
    let key = slice_index keys place in
    let found = w.below place h e in
    let same = finds_holds nodes keys key place link odd found in
    let some = finds_some nodes keys key place (link_for node key) (finds_next nodes keys key place link odd found) in
    let more = div_mono from key node.shift up in (
      elim (cases_lt (digit_in node key) digit) [
        | inl l ↦ absurd (some (least (digit_in node key) (omega (arith, more, ne, same, holds)) l))
        | inr l ↦ l
      ],
      same,
    )

-- no later digit
rest_kept : (nodes : List Node) (keys : List ℕ) (from span link digit : ℕ) → IsWalk nodes keys from from span link → link % 2 ≡ 1 → Holds (node_at nodes (link / 2)) from → 16 ≤ digit → ((d : ℕ) → digit_in (node_at nodes (link / 2)) from + 1 ≤ d → d < digit → slice_index (node_at nodes (link / 2)).links d ≡ 0) → (place : ℕ) → place < length keys → from ≤ slice_index keys place → slice_index keys place / 2 ^ span ≡ from / 2 ^ span → slice_index keys place / 2 ^ (node_at nodes (link / 2)).shift ≡ from / 2 ^ (node_at nodes (link / 2)).shift
rest_kept nodes keys from span link digit w odd holds last least place h up e =
    let node = node_at nodes (link / 2) in
    elim (cases_eq (slice_index keys place / 2 ^ node.shift) (from / 2 ^ node.shift)) [
      | inl same ↦ same
      | inr ne ↦ let l = (later_digit nodes keys from span link digit place w odd holds least h up e ne).0 in absurd (omega (arith, l, last))
    ]

-- a later digit
pub rest_new : (nodes : List Node) (keys : List ℕ) (root from span link digit at to : ℕ) → IsTrie nodes keys root → IsWalk nodes keys from from span link → link % 2 ≡ 1 → Holds (node_at nodes (link / 2)) from → digit < 16 → digit_in (node_at nodes (link / 2)) from + 1 ≤ digit → ((d : ℕ) → digit_in (node_at nodes (link / 2)) from + 1 ≤ d → d < digit → slice_index (node_at nodes (link / 2)).links d ≡ 0) → at ≡ (from / 2 ^ (node_at nodes (link / 2)).shift / 16 * 16 + digit) * 2 ^ (node_at nodes (link / 2)).shift % 2 ^ 64 → to ≡ slice_index (node_at nodes (link / 2)).links digit → IsRest nodes keys from (node_at nodes (link / 2)).shift at (node_at nodes (link / 2)).shift to
rest_new nodes keys root from span link digit at to t w odd holds d after least at_is to_is =
    let node = node_at nodes (link / 2) in
    let s = node.shift in
    let shape = t.forest (link / 2) (w.node odd) in
    let x = from / 2 ^ s / 16 * 16 + digit in
    let small = start_fits from digit s w.at_fits shape.shift.most d in
    let is : at ≡ x * 2 ^ s = omega (arith, at_is, small) in
    let fits : at < 2 ^ 64 = omega (arith, is, small) in
    let digits : at / 2 ^ s ≡ x = ap (λ y. y / 2 ^ s) is ∙ mul-div_left x (pow_pos s) in
    let in_node : Holds node at = omega (arith, digits, d, holds) in
    let its : digit_in node at ≡ digit = omega (arith, digits, d) in
    let same : at / 2 ^ span ≡ from / 2 ^ span = one_above node from at span w.span_fits shape.shift (w.lower odd) w.at_fits fits in_node (w.node_in odd) in
    let on = below_by_digits from at s (omega (arith, digits, after)) in
    let go = walk_on nodes keys root at span link t (walk_at nodes keys from from span link at w fits same) odd in_node in
    let there : link_for node at ≡ to = ap (slice_index node.links) its ∙ sym to_is in
    record {
      from_on = omega (arith, on);
      all = λ place h up ne.
          let key = slice_index keys place in
          elim (cases_eq (key / 2 ^ span) (from / 2 ^ span)) [
            | inl e ↦
                let l = later_digit nodes keys from span link digit place w odd holds least h up e ne in
                let l0 = l.0 in
                let l1 = l.1 in
                let first = start_of x key s (omega (arith, l0, l1, holds)) in
                omega (arith, is, first)
            | inr other ↦
                let more = div_mono from key span up in
                let l = below_by_digits at key span (omega (arith, more, other, same)) in
                omega (arith, l)
          ];
      walk = subst (λ l. IsWalk nodes keys at at s l) there go;
    }

-- what holds of the slot that a walk keeps, if it keeps one
abbrev pub KeepsRest : List Node → List ℕ → ℕ → ℕ → Option Slot → Type 0
KeepsRest nodes keys from span next = MatchOption next (AreInSlot keys from span) (λ slot. IsRest nodes keys from span slot.at slot.span slot.link)

pub rest_stays : (nodes : List Node) (keys : List ℕ) (from span link digit : ℕ) (next : Option Slot) → IsWalk nodes keys from from span link → link % 2 ≡ 1 → Holds (node_at nodes (link / 2)) from → 16 ≤ digit → ((d : ℕ) → digit_in (node_at nodes (link / 2)) from + 1 ≤ d → d < digit → slice_index (node_at nodes (link / 2)).links d ≡ 0) → KeepsRest nodes keys from span next → KeepsRest nodes keys from (node_at nodes (link / 2)).shift next
rest_stays nodes keys from span link digit None w odd holds last least r = λ place h up. rest_kept nodes keys from span link digit w odd holds last least place h up (r place h up)
rest_stays nodes keys from span link digit (Some slot) w odd holds last least r = record {
  from_on = r.from_on;
  all = λ place h up ne. r.all place h up (λ e. ne (rest_kept nodes keys from span link digit w odd holds last least place h up e));
  walk = r.walk;
}

-- the slot of the number, and no other
pub start_self : (nodes : List Node) (keys : List ℕ) (from span link : ℕ) → IsWalk nodes keys from from span link → IsStart nodes keys from from span link
start_self nodes keys from span link w = record { from_on = omega arith; all = λ place h g. g; walk = w }

-- no key of the slot of the number is at or above it
start_rest : (nodes : List Node) (keys : List ℕ) (from span link at its_span to : ℕ) → IsWalk nodes keys from from span link → link % 2 ≡ 0 → (0 < link → slice_index keys (link / 2 - 1) < from) → IsRest nodes keys from span at its_span to → IsStart nodes keys from at its_span to
start_rest nodes keys from span link at its_span to w even below r = record {
  from_on = r.from_on;
  all = λ place h up. r.all place h up (walk_end nodes keys from from span link w even below place h up);
  walk = r.walk;
}

start_none : (nodes : List Node) (keys : List ℕ) (from span link : ℕ) → IsWalk nodes keys from from span link → link % 2 ≡ 0 → (0 < link → slice_index keys (link / 2 - 1) < from) → AreInSlot keys from span → AreBelow keys from
start_none nodes keys from span link w even below all place h = elim (cases_lt (slice_index keys place) from) [
  | inl l ↦ l
  | inr l ↦ absurd (walk_end nodes keys from from span link w even below place h l (all place h l))
]

pub start_next : (nodes : List Node) (keys : List ℕ) (from span link : ℕ) (next : Option Slot) → IsWalk nodes keys from from span link → link % 2 ≡ 0 → (0 < link → slice_index keys (link / 2 - 1) < from) → KeepsRest nodes keys from span next → MatchOption next (AreBelow keys from) (λ slot. IsStart nodes keys from slot.at slot.span slot.link)
start_next nodes keys from span link None w even below r = start_none nodes keys from span link w even below r
start_next nodes keys from span link (Some slot) w even below r = start_rest nodes keys from span link slot.at slot.span slot.link w even below r
