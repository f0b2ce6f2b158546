-- A trie with one more key.
use Rattle.std.proofs.Common.{◌≡◌, ℕ, zero, suc, ◌+◌, ◌-◌, ◌*◌, ◌/◌, ◌%◌, ◌<◌, List, length, slice_index, arith, refl, sym, ap, ◌∙◌, subst}
use mathlib.Core.Logic.{inl, inr}
use Rattle.std.proofs.lemmas.Bool.{cases_lt}
use Rattle.chunk_map.specs.declared.trie.Node.{Node}
use Rattle.chunk_map.specs.Trie.{AreSlots, Finds, Grows, Holds, IsAt, IsLower, IsNode, IsRoot, IsSlot, IsTrie, IsWay, KeepsKeys, Leads, Meets, Reaches, Relinks, digit_in, link_for, new_root, node_at}

-- one node more on a path
step_up : (old new : List Node) (keys : List ℕ) (owner key link k place first next : ℕ) → Relinks old new owner key link → IsNode old first → Holds (node_at old (first / 2)) k → slice_index (node_at new (first / 2)).links (digit_in (node_at old (first / 2)) k) ≡ next → Finds new keys k place next → Finds new keys k place first
step_up old new keys owner key link k place first next r n h e f =
    let c = first / 2 in
    let shift : (node_at new c).shift ≡ (node_at old c).shift = r.shift c n.within in
    let base : (node_at new c).base ≡ (node_at old c).base = r.base c n.within in
    let here : IsNode new first = record { odd = n.odd; within = let l = r.longer in omega (arith, n.within) } in
    let holds : Holds (node_at new c) k = rw (shift, base) h in
    let to : link_for (node_at new c) k ≡ next = rw shift e in
    (suc f.0, (here, holds, subst (λ l. Leads new keys k place f.0 l) (sym to) f.1))

-- what was found is still found, if it is below the new link that was below the old one
pub finds_kept : (old new : List Node) (keys new_keys : List ℕ) (owner key link new_link k place : ℕ) → Relinks old new owner key new_link → (IsAt keys k place → IsAt new_keys k place) → ((steps : ℕ) → Leads old keys k place steps link → Finds new new_keys k place link → Finds new new_keys k place new_link) → ((c : ℕ) → c < length old → 2 * c + 1 ≡ owner → link_for (node_at old c) key ≡ link) → (steps first : ℕ) → Leads old keys k place steps first → Finds new new_keys k place first
finds_kept old new keys new_keys owner key link new_link k place r kept turns at zero first f = (0, (kept f.0, f.1))
finds_kept old new keys new_keys owner key link new_link k place r kept turns at (suc steps) first f =
    let c = first / 2 in
    let next = link_for (node_at old c) k in
    let below : Finds new new_keys k place next = finds_kept old new keys new_keys owner key link new_link k place r kept turns at steps next f.2 in
    elim (r.links c (digit_in (node_at old c) k) f.0.within (omega arith)) [
      | inl a ↦
          let same : next ≡ link = ap (slice_index (node_at old c).links) a.1 ∙ at c f.0.within a.0 in
          let found = turns steps (subst (λ l. Leads old keys k place steps l) same f.2) (subst (λ l. Finds new new_keys k place l) same below) in
          step_up old new new_keys owner key new_link k place first new_link r f.0 f.1 a.2 found
      | inr b ↦ step_up old new new_keys owner key new_link k place first next r f.0 f.1 b.1 below
    ]

-- what is below the new link is found on the way to it
pub finds_on_way : (old new : List Node) (keys : List ℕ) (owner key link place : ℕ) → Relinks old new owner key link → Finds new keys key place link → IsNode old owner → Holds (node_at old (owner / 2)) key → (steps first : ℕ) → Reaches old key owner steps first → Finds new keys key place first
finds_on_way old new keys owner key link place r found n h zero first e =
    let P : ℕ → Type 0 = λ l. Finds new keys key place l in
    subst P (sym e) (elim (r.links (owner / 2) (digit_in (node_at old (owner / 2)) key) n.within (omega arith)) [
      | inl a ↦ step_up old new keys owner key link key place owner link r n h a.2 found
      | inr b ↦ let odd = n.odd in absurd (b.0 (omega (arith, odd)) refl)
    ])
finds_on_way old new keys owner key link place r found n h (suc steps) first f =
    elim (r.links (first / 2) (digit_in (node_at old (first / 2)) key) f.0.within (omega arith)) [
      | inl a ↦ step_up old new keys owner key link key place first link r f.0 f.1 a.2 found
      | inr b ↦ step_up old new keys owner key link key place first (link_for (node_at old (first / 2)) key) r f.0 f.1 b.1 (finds_on_way old new keys owner key link place r found n h steps (link_for (node_at old (first / 2)) key) f.2)
    ]

-- one node more on the way to a link
meets_up : (old new : List Node) (owner key link k target first next : ℕ) → Relinks old new owner key link → IsNode old first → Holds (node_at old (first / 2)) k → slice_index (node_at new (first / 2)).links (digit_in (node_at old (first / 2)) k) ≡ next → Meets new k target next → Meets new k target first
meets_up old new owner key link k target first next r n h e f =
    let c = first / 2 in
    let shift : (node_at new c).shift ≡ (node_at old c).shift = r.shift c n.within in
    let base : (node_at new c).base ≡ (node_at old c).base = r.base c n.within in
    let here : IsNode new first = record { odd = n.odd; within = let l = r.longer in omega (arith, n.within) } in
    let holds : Holds (node_at new c) k = rw (shift, base) h in
    let to : link_for (node_at new c) k ≡ next = rw shift e in
    (suc f.0, (here, holds, subst (λ l. Reaches new k target f.0 l) (sym to) f.1))

-- a link that was reached is still reached, if it is below the new link that was below the old one
pub meets_kept : (old new : List Node) (owner key link new_link k target : ℕ) → Relinks old new owner key new_link → ((steps : ℕ) → Reaches old k target steps link → Meets new k target link → Meets new k target new_link) → ((c : ℕ) → c < length old → 2 * c + 1 ≡ owner → link_for (node_at old c) key ≡ link) → (steps first : ℕ) → Reaches old k target steps first → Meets new k target first
meets_kept old new owner key link new_link k target r passes at zero first f = (0, f)
meets_kept old new owner key link new_link k target r passes at (suc steps) first f =
    let c = first / 2 in
    let next = link_for (node_at old c) k in
    let below : Meets new k target next = meets_kept old new owner key link new_link k target r passes at steps next f.2 in
    elim (r.links c (digit_in (node_at old c) k) f.0.within (omega arith)) [
      | inl a ↦
          let same : next ≡ link = ap (slice_index (node_at old c).links) a.1 ∙ at c f.0.within a.0 in
          let met = passes steps (subst (λ l. Reaches old k target steps l) same f.2) (subst (λ l. Meets new k target l) same below) in
          meets_up old new owner key new_link k target first new_link r f.0 f.1 a.2 met
      | inr b ↦ meets_up old new owner key new_link k target first next r f.0 f.1 b.1 below
    ]

-- the new link is reached on the way to it
meets_on_way : (old new : List Node) (owner key link : ℕ) → Relinks old new owner key link → IsNode old owner → Holds (node_at old (owner / 2)) key → (steps first : ℕ) → Reaches old key owner steps first → Meets new key link first
meets_on_way old new owner key link r n h zero first e =
    let P : ℕ → Type 0 = λ l. Meets new key link l in
    subst P (sym e) (elim (r.links (owner / 2) (digit_in (node_at old (owner / 2)) key) n.within (omega arith)) [
      | inl a ↦ meets_up old new owner key link key link owner link r n h a.2 (0, refl)
      | inr b ↦ let odd = n.odd in absurd (b.0 (omega (arith, odd)) refl)
    ])
meets_on_way old new owner key link r n h (suc steps) first f =
    elim (r.links (first / 2) (digit_in (node_at old (first / 2)) key) f.0.within (omega arith)) [
      | inl a ↦ meets_up old new owner key link key link first link r f.0 f.1 a.2 (0, refl)
      | inr b ↦ meets_up old new owner key link key link first (link_for (node_at old (first / 2)) key) r f.0 f.1 b.1 (meets_on_way old new owner key link r n h steps (link_for (node_at old (first / 2)) key) f.2)
    ]

-- an old link that stays is right
slot_kept : (old new : List Node) (keys new_keys : List ℕ) (root owner key link new_link c digit : ℕ) → IsTrie old keys root → Grows old new keys new_keys owner key link new_link → c < length old → digit < 16 → slice_index (node_at old c).links digit ≡ slice_index (node_at new c).links digit → IsSlot new new_keys (node_at new c) digit (slice_index (node_at old c).links digit)
slot_kept old new keys new_keys root owner key link new_link c digit t g h d e =
    let l = slice_index (node_at old c).links digit in
    let s = t.slots c h digit d in
    let shift : (node_at new c).shift ≡ (node_at old c).shift = g.relinks.shift c h in
    let base : (node_at new c).base ≡ (node_at old c).base = g.relinks.base c h in
    let at : l % 2 ≡ 0 → 0 < l → IsAt new_keys (slice_index keys (l / 2 - 1)) (l / 2 - 1) = λ even some. g.kept (l / 2 - 1) (let p = s.place even in omega (arith, p, even, some)) in
    record {
      place = λ even. elim (cases_lt 0 l) [
        | inl some ↦ let w = (at even some).within in omega (arith, w, some)
        | inr none ↦ omega (arith, none)
      ];
      below_node = λ odd. rw (shift, base, g.relinks.base (l / 2) ((t.forest c h).within digit d odd)) (s.below_node odd);
      below_key = λ even some. rw (shift, base, (at even some).is) (s.below_key even some);
    }

-- the links of an old node go down
lower_kept : (old new : List Node) (keys new_keys : List ℕ) (root owner key link new_link c : ℕ) → IsTrie old keys root → Grows old new keys new_keys owner key link new_link → c < length old → IsLower new (node_at new c)
lower_kept old new keys new_keys root owner key link new_link c t g h =
    let r = g.relinks in
    let was = t.forest c h in
    let shift : (node_at new c).shift ≡ (node_at old c).shift = r.shift c h in
    let longer = r.longer in
    record {
      size = r.size c h;
      used = r.used c h;
      shift = record { most = rw shift was.shift.most; digit = rw shift was.shift.digit };
      within = λ digit d odd. elim (r.links c digit h d) [
        | inl a ↦ rw a.2 (g.node (rw a.2 at odd))
        | inr b ↦ let w = was.within digit d (rw b.1 at odd) in rw b.1 (omega (arith, w, longer))
      ];
      lower = λ digit d odd. elim (r.links c digit h d) [
        | inl a ↦ rw (a.2, shift) (g.below c h a.0 (rw a.2 at odd))
        | inr b ↦ rw (b.1, shift, r.shift (slice_index (node_at old c).links digit / 2) (was.within digit d (rw b.1 at odd))) (was.lower digit d (rw b.1 at odd))
      ];
    }

-- the links of an old node are right
slots_kept : (old new : List Node) (keys new_keys : List ℕ) (root owner key link new_link c : ℕ) → IsTrie old keys root → IsWay old root key owner link → Grows old new keys new_keys owner key link new_link → c < length old → AreSlots new new_keys (node_at new c)
slots_kept old new keys new_keys root owner key link new_link c t w g h digit d =
    let shift : (node_at new c).shift ≡ (node_at old c).shift = g.relinks.shift c h in
    let base : (node_at new c).base ≡ (node_at old c).base = g.relinks.base c h in
    elim (g.relinks.links c digit h d) [
      | inl a ↦
          let s = g.slot c h a.0 in
          rw a.2 (record {
            place = s.place;
            below_node = λ odd. rw (shift, base, a.1) (s.below_node odd);
            below_key = λ even some. rw (shift, base, a.1) (s.below_key even some);
          })
      | inr b ↦ rw b.1 (slot_kept old new keys new_keys root owner key link new_link c digit t g h d (sym b.1))
    ]

-- the link on the way is that of its node
pub way_link : (old : List Node) (root key owner link : ℕ) → IsWay old root key owner link → (c : ℕ) → c < length old → 2 * c + 1 ≡ owner → link_for (node_at old c) key ≡ link
way_link old root key zero link w c h e = absurd (omega (arith, e))
way_link old root key (suc owner) link w c h e =
    let same : suc owner / 2 ≡ c = omega (arith, e) in
    let P : ℕ → Type 0 = λ x. link ≡ link_for (node_at old x) key in
    sym (subst P same w.2)

root_kept : (old new : List Node) (keys new_keys : List ℕ) (root owner key link new_link : ℕ) → IsTrie old keys root → IsWay old root key owner link → Grows old new keys new_keys owner key link new_link → IsRoot new new_keys (new_root root owner new_link)
root_kept old new keys new_keys root zero key link new_link t w g = record { node = g.node; place = g.place }
root_kept old new keys new_keys root (suc owner) key link new_link t w g =
    let longer = g.relinks.longer in
    let at : root % 2 ≡ 0 → 0 < root → IsAt new_keys (slice_index keys (root / 2 - 1)) (root / 2 - 1) = λ even some. g.kept (root / 2 - 1) (let p = t.first.place even in omega (arith, p, even, some)) in
    record {
      node = λ odd. let n = t.first.node odd in omega (arith, n, longer);
      place = λ even. elim (cases_lt 0 root) [
        | inl some ↦ let p = (at even some).within in omega (arith, p, some)
        | inr none ↦ omega (arith, none)
      ];
    }

keeps : (keys new_keys : List ℕ) (k place : ℕ) → KeepsKeys keys new_keys → IsAt keys k place → IsAt new_keys k place
keeps keys new_keys k place kept f = let there = kept place f.within in record { within = there.within; is = there.is ∙ f.is }

-- the old keys are found
old_found : (old new : List Node) (keys new_keys : List ℕ) (root owner key link new_link place : ℕ) → IsTrie old keys root → IsWay old root key owner link → Grows old new keys new_keys owner key link new_link → place < length keys → Finds new new_keys (slice_index new_keys place) place (new_root root owner new_link)
old_found old new keys new_keys root zero key link new_link place t w g h =
    let k = slice_index keys place in
    let was = t.found place h in
    let now = finds_kept old new keys new_keys zero key link new_link k place g.relinks (keeps keys new_keys k place g.kept) (g.turns k place) (way_link old root key zero link w) was.0 root was.1 in
    let P : ℕ → Type 0 = λ l. Leads old keys k place was.0 l in
    let Q : ℕ → Type 0 = λ l. Finds new new_keys k place l in
    let found = g.turns k place was.0 (subst P (sym w) was.1) (subst Q (sym w) now) in
    subst (λ x. Finds new new_keys x place new_link) (sym (g.kept place h).is) found
old_found old new keys new_keys root (suc owner) key link new_link place t w g h =
    let k = slice_index keys place in
    let was = t.found place h in
    let now = finds_kept old new keys new_keys (suc owner) key link new_link k place g.relinks (keeps keys new_keys k place g.kept) (g.turns k place) (way_link old root key (suc owner) link w) was.0 root was.1 in
    subst (λ x. Finds new new_keys x place root) (sym (g.kept place h).is) now

-- the new key is found
new_found : (old new : List Node) (keys new_keys : List ℕ) (root owner key link new_link : ℕ) → IsWay old root key owner link → Grows old new keys new_keys owner key link new_link → Finds new new_keys key (length keys) (new_root root owner new_link)
new_found old new keys new_keys root zero key link new_link w g = g.finds
new_found old new keys new_keys root (suc owner) key link new_link w g =
    finds_on_way old new new_keys (suc owner) key new_link (length keys) g.relinks g.finds w.0 w.1 w.3.0 root w.3.1

-- the old nodes are reached
old_reached : (old new : List Node) (keys new_keys : List ℕ) (root owner key link new_link c : ℕ) → IsTrie old keys root → IsWay old root key owner link → Grows old new keys new_keys owner key link new_link → c < length old → Meets new (node_at old c).base (2 * c + 1) (new_root root owner new_link)
old_reached old new keys new_keys root zero key link new_link c t w g h =
    let k = (node_at old c).base in
    let was = t.reached c h in
    let now = meets_kept old new zero key link new_link k (2 * c + 1) g.relinks (λ steps f met. g.passes c steps h f met) (way_link old root key zero link w) was.0 root was.1 in
    let P : ℕ → Type 0 = λ l. Reaches old k (2 * c + 1) was.0 l in
    let Q : ℕ → Type 0 = λ l. Meets new k (2 * c + 1) l in
    g.passes c was.0 h (subst P (sym w) was.1) (subst Q (sym w) now)
old_reached old new keys new_keys root (suc owner) key link new_link c t w g h =
    let was = t.reached c h in
    meets_kept old new (suc owner) key link new_link (node_at old c).base (2 * c + 1) g.relinks (λ steps f met. g.passes c steps h f met) (way_link old root key (suc owner) link w) was.0 root was.1

-- the new link is reached
new_reached : (old new : List Node) (keys new_keys : List ℕ) (root owner key link new_link : ℕ) → IsWay old root key owner link → Grows old new keys new_keys owner key link new_link → Meets new key new_link (new_root root owner new_link)
new_reached old new keys new_keys root zero key link new_link w g = (0, refl)
new_reached old new keys new_keys root (suc owner) key link new_link w g =
    meets_on_way old new (suc owner) key new_link g.relinks w.0 w.1 w.3.0 root w.3.1

pub grown : (old new : List Node) (keys new_keys : List ℕ) (root owner key link new_link : ℕ) → IsTrie old keys root → IsWay old root key owner link → Grows old new keys new_keys owner key link new_link → IsTrie new new_keys (new_root root owner new_link)
grown old new keys new_keys root owner key link new_link t w g = record {
  forest = λ c h. elim (cases_lt c (length old)) [
    | inl l ↦ lower_kept old new keys new_keys root owner key link new_link c t g l
    | inr l ↦ g.lower c l h
  ];
  first = root_kept old new keys new_keys root owner key link new_link t w g;
  slots = λ c h. elim (cases_lt c (length old)) [
    | inl l ↦ slots_kept old new keys new_keys root owner key link new_link c t w g l
    | inr l ↦ g.slots c l h
  ];
  reached = λ c h. elim (cases_lt c (length old)) [
    | inl l ↦ subst (λ k. Meets new k (2 * c + 1) (new_root root owner new_link)) (sym (g.relinks.base c l)) (old_reached old new keys new_keys root owner key link new_link c t w g l)
    | inr l ↦
        let e = g.reached c l h in
        let P : ℕ → Type 0 = λ target. Meets new key target (new_root root owner new_link) in
        let Q : ℕ → Type 0 = λ k. Meets new k (2 * c + 1) (new_root root owner new_link) in
        subst Q (sym e.0) (subst P (sym e.1) (new_reached old new keys new_keys root owner key link new_link w g))
  ];
  found = λ place h. elim (g.added place h) [
    | inl l ↦ old_found old new keys new_keys root owner key link new_link place t w g l
    | inr e ↦
        let now = new_found old new keys new_keys root owner key link new_link w g in
        let at = subst (λ p. Finds new new_keys key p (new_root root owner new_link)) (sym e.0) now in
        subst (λ k. Finds new new_keys k place (new_root root owner new_link)) (sym e.1) at
  ];
}
