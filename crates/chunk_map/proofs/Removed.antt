-- A key removed from a trie: its link is replaced by 0, the last key takes its place, and the last place is dropped.
use Rattle.std.proofs.Common.{◌≡◌, ◌≢◌, ℕ, zero, suc, ◌+◌, ◌-◌, ◌*◌, ◌/◌, ◌%◌, ◌^◌, ◌<◌, ◌≤◌, List, length, slice_index, slice_set, take, arith, refl, sym, ap, ◌∙◌, subst}
use mathlib.Core.Logic.{inl, inr}
use Rattle.std.proofs.lemmas.Bool.{cases_eq, cases_lt}
use Rattle.std.proofs.lemmas.List.{get_or-set_other, get_or-set_same, get_or-take, length-set, length-take-le, set-get_or}
use Rattle.chunk_map.specs.declared.trie.Node.{Node}
use Rattle.chunk_map.specs.Trie.{Finds, Holds, IsAt, IsEnd, IsForest, IsNode, IsPartial, IsRoot, IsSlot, IsTrie, IsWay, Leads, Meets, Reaches, Relinks, without_place, digit_in, link_for, new_root, node_at, relinked}
use Rattle.chunk_map.proofs.Digits.{div_digit, same_above}
use Rattle.chunk_map.proofs.Growth.{finds_kept, finds_on_way, meets_kept, way_link}
use Rattle.chunk_map.proofs.Paths.{finds_next}
use Rattle.chunk_map.proofs.Relinked.{length_relinked, relinks, way_holds, way_odd}

-- ---- the walk for the key of a place
-- what is found from a link is found from each link on the way
leads_on : (nodes : List Node) (keys : List ℕ) (key place target steps n first : ℕ) → Leads nodes keys key place steps first → Reaches nodes key target n first → Finds nodes keys key place target
leads_on nodes keys key place target steps zero first f e = (steps, subst (λ l. Leads nodes keys key place steps l) e f)
leads_on nodes keys key place target zero (suc n) first f r = let e = f.1 in let o = r.0.odd in absurd (omega (arith, e, o))
leads_on nodes keys key place target (suc steps) (suc n) first f r = leads_on nodes keys key place target steps n (link_for (node_at nodes (first / 2)) key) f.2 r.2

-- what is found from the root is found from the link where a walk is
way_finds : (nodes : List Node) (keys : List ℕ) (root key place owner link : ℕ) → IsWay nodes root key owner link → Finds nodes keys key place root → Finds nodes keys key place link
way_finds nodes keys root key place zero link w f = subst (λ l. Finds nodes keys key place l) (sym w) f
way_finds nodes keys root key place (suc owner) link w f =
    subst (λ l. Finds nodes keys key place l) (sym w.2) (finds_next nodes keys key place (suc owner) w.0.odd (leads_on nodes keys key place (suc owner) f.0 w.3.0 root f.1 w.3.1))

-- a path from a link where the walk for its key stops is at its end
stops_at : (nodes : List Node) (keys : List ℕ) (key place steps link : ℕ) → Leads nodes keys key place steps link → (link % 2 ≡ 1 → Holds (node_at nodes (link / 2)) key → ⊥) → link ≡ 2 * place + 2
stops_at nodes keys key place zero link f stops = f.1
stops_at nodes keys key place (suc steps) link f stops = absurd (stops f.0.odd f.1)

-- the walk for a key ends at the link of its place
pub end_is : (nodes : List Node) (keys : List ℕ) (root key place owner link : ℕ) → IsEnd nodes root key owner link → Finds nodes keys key place root → link ≡ 2 * place + 2
end_is nodes keys root key place owner link e f =
    let found = way_finds nodes keys root key place owner link e.way f in
    stops_at nodes keys key place found.0 link found.1 e.stops

-- and that is the link in the node of the owner
pub end_way : (nodes : List Node) (keys : List ℕ) (root key place owner link : ℕ) → IsEnd nodes root key owner link → Finds nodes keys key place root → IsWay nodes root key owner (2 * place + 2)
end_way nodes keys root key place owner link e f = subst (λ l. IsWay nodes root key owner l) (end_is nodes keys root key place owner link e f) e.way

-- ---- one walk to each link
-- no node is reached from a link that is no node's
not_from : (nodes : List Node) (key target steps link : ℕ) → link % 2 ≡ 0 → target % 2 ≡ 1 → {A : Type 0} → Reaches nodes key target steps link → A
not_from nodes key target zero link even odd f = absurd (omega (arith, even, odd, f))
not_from nodes key target (suc steps) link even odd f = let o = f.0.odd in absurd (omega (arith, even, o))

-- a walk reaches one node only that has a link which is no node's
same_node : (nodes : List Node) (key a b n m first : ℕ) → a % 2 ≡ 1 → b % 2 ≡ 1 → link_for (node_at nodes (a / 2)) key % 2 ≡ 0 → link_for (node_at nodes (b / 2)) key % 2 ≡ 0 → Reaches nodes key a n first → Reaches nodes key b m first → a ≡ b
same_node nodes key a b zero zero first oa ob ea eb f g = sym f ∙ g
same_node nodes key a b zero (suc m) first oa ob ea eb f g =
    not_from nodes key b m (link_for (node_at nodes (first / 2)) key) (subst (λ x. link_for (node_at nodes (x / 2)) key % 2 ≡ 0) (sym f) ea) ob g.2
same_node nodes key a b (suc n) zero first oa ob ea eb f g =
    not_from nodes key a n (link_for (node_at nodes (first / 2)) key) (subst (λ x. link_for (node_at nodes (x / 2)) key % 2 ≡ 0) (sym g) eb) oa f.2
same_node nodes key a b (suc n) (suc m) first oa ob ea eb f g = same_node nodes key a b n m (link_for (node_at nodes (first / 2)) key) oa ob ea eb f.2 g.2

-- two walks for a key to a link that is no node's have one owner
same_owner : (nodes : List Node) (root key a b link : ℕ) → link % 2 ≡ 0 → IsWay nodes root key a link → IsWay nodes root key b link → a ≡ b
same_owner nodes root key zero zero link even v w = refl
same_owner nodes root key zero (suc b) link even v w = not_from nodes key (suc b) w.3.0 root (subst (λ l. l % 2 ≡ 0) v even) w.0.odd w.3.1
same_owner nodes root key (suc a) zero link even v w = not_from nodes key (suc a) v.3.0 root (subst (λ l. l % 2 ≡ 0) w even) v.0.odd v.3.1
same_owner nodes root key (suc a) (suc b) link even v w =
    same_node nodes key (suc a) (suc b) v.3.0 w.3.0 root v.0.odd w.0.odd (subst (λ l. l % 2 ≡ 0) v.2 even) (subst (λ l. l % 2 ≡ 0) w.2 even) v.3.1 w.3.1

-- a key reaches a node as another does that agrees with it above the digit of the node
reaches_too : (nodes : List Node) (a b c : ℕ) → IsForest nodes → c < length nodes → a / 2 ^ ((node_at nodes c).shift + 4) ≡ b / 2 ^ ((node_at nodes c).shift + 4) → (steps first : ℕ) → Reaches nodes a (2 * c + 1) steps first → (first % 2 ≡ 1) × ((node_at nodes c).shift ≤ (node_at nodes (first / 2)).shift) × Reaches nodes b (2 * c + 1) steps first
reaches_too nodes a b c forest h e zero first f =
    let at : first / 2 ≡ c = omega (arith, f) in
    (omega (arith, f), rw at (omega arith), f)
reaches_too nodes a b c forest h e (suc steps) first f =
    let node = node_at nodes (first / 2) in
    let next = link_for node a in
    let was = forest (first / 2) f.0.within in
    let more = reaches_too nodes a b c forest h e steps next f.2 in
    let lower : (node_at nodes (next / 2)).shift < node.shift = was.lower (digit_in node a) (omega arith) more.0 in
    let above = more.1 in
    let digit = was.shift.digit in
    let its = (forest c h).shift.digit in
    let agree : a / 2 ^ node.shift ≡ b / 2 ^ node.shift = same_above a b ((node_at nodes c).shift + 4) node.shift (omega (arith, lower, above, digit, its)) e in
    let P : ℕ → Type 0 = λ x. (x / 16 ≡ node.base / 2 ^ node.shift / 16) × Reaches nodes b (2 * c + 1) steps (slice_index node.links (x % 16)) in
    let same = subst P agree (f.1, more.2) in
    (f.0.odd, omega (arith, lower, above), (f.0, same.0, same.1))

-- a walk that reaches a node is at the link of the node for its key
way_at : (nodes : List Node) (root key owner link : ℕ) → IsNode nodes owner → Holds (node_at nodes (owner / 2)) key → link ≡ link_for (node_at nodes (owner / 2)) key → Meets nodes key owner root → IsWay nodes root key owner link
way_at nodes root key zero link n h e m = let o = n.odd in absurd (omega (arith, o))
way_at nodes root key (suc owner) link n h e m = (n, h, e, m)

-- a slot with the link of a place is on the walk for the key of the place
slot_way : (nodes : List Node) (keys : List ℕ) (root c digit place : ℕ) → IsForest nodes → c < length nodes → Meets nodes (node_at nodes c).base (2 * c + 1) root → IsSlot nodes keys (node_at nodes c) digit (slice_index (node_at nodes c).links digit) → digit < 16 → slice_index (node_at nodes c).links digit ≡ 2 * place + 2 → IsWay nodes root (slice_index keys place) (2 * c + 1) (2 * place + 2) × (digit ≡ digit_in (node_at nodes c) (slice_index keys place))
slot_way nodes keys root c digit place forest h m s d e =
    let node = node_at nodes c in
    let l = slice_index node.links digit in
    let k = slice_index keys place in
    let at : l / 2 - 1 ≡ place = omega (arith, e) in
    let b : k / 2 ^ node.shift ≡ node.base / 2 ^ node.shift / 16 * 16 + digit = subst (λ p. slice_index keys p / 2 ^ node.shift ≡ node.base / 2 ^ node.shift / 16 * 16 + digit) at (s.below_key (omega (arith, e)) (omega (arith, e))) in
    let holds : Holds node k = omega (arith, b, d) in
    let is : digit ≡ digit_in node k = omega (arith, b, d) in
    let agree : node.base / 2 ^ (node.shift + 4) ≡ k / 2 ^ (node.shift + 4) = div_digit node.base node.shift ∙ sym holds ∙ sym (div_digit k node.shift) in
    let too = reaches_too nodes node.base k c forest h agree m.0 root m.1 in
    let half : (2 * c + 1) / 2 ≡ c = omega arith in
    let P : ℕ → Type 0 = λ x. slice_index node.links x ≡ 2 * place + 2 in
    (way_at nodes root k (2 * c + 1) (2 * place + 2) (record { odd = omega arith; within = rw half h }) (rw half holds) (rw half (sym (subst P is e))) (m.0, too.2), is)

-- only one slot has the link of a place
one_slot : (nodes : List Node) (keys : List ℕ) (root owner c digit place : ℕ) → IsForest nodes → c < length nodes → Meets nodes (node_at nodes c).base (2 * c + 1) root → IsSlot nodes keys (node_at nodes c) digit (slice_index (node_at nodes c).links digit) → digit < 16 → IsWay nodes root (slice_index keys place) owner (2 * place + 2) → slice_index (node_at nodes c).links digit ≡ 2 * place + 2 → (2 * c + 1 ≡ owner) × (digit ≡ digit_in (node_at nodes c) (slice_index keys place))
one_slot nodes keys root owner c digit place forest h m s d w e =
    let o = slot_way nodes keys root c digit place forest h m s d e in
    (same_owner nodes root (slice_index keys place) (2 * c + 1) owner (2 * place + 2) (omega arith) o.0 w, o.1)

-- the root is another link, if a node has the link
root_apart : (nodes : List Node) (root key owner link : ℕ) → link % 2 ≡ 0 → IsWay nodes root key (suc owner) link → root ≢ link
root_apart nodes root key owner link even w = λ e. not_from nodes key (suc owner) w.3.0 root (subst (λ l. l % 2 ≡ 0) (sym e) even) w.0.odd w.3.1

-- no path to another place ends at a place's link
not_here : (nodes : List Node) (keys : List ℕ) (k q place steps link : ℕ) → q ≢ place → link ≡ 2 * place + 2 → {A : Type 0} → Leads nodes keys k q steps link → A
not_here nodes keys k q place zero link ne e f = let g = f.1 in absurd (ne (omega (arith, g, e)))
not_here nodes keys k q place (suc steps) link ne e f = let o = f.0.odd in absurd (omega (arith, o, e))

-- ---- links that stay
forest_stays : (old new : List Node) (owner key link : ℕ) → Relinks old new owner key link → length new ≡ length old → link % 2 ≡ 0 → IsForest old → IsForest new
forest_stays old new owner key link r size even forest c h =
    let w : c < length old = omega (arith, h, size) in
    let was = forest c w in
    let shift : (node_at new c).shift ≡ (node_at old c).shift = r.shift c w in
    record {
      size = r.size c w;
      used = r.used c w;
      shift = record { most = rw shift was.shift.most; digit = rw shift was.shift.digit };
      within = λ digit d odd. elim (r.links c digit w d) [
        | inl a ↦ let o = rw a.2 at odd in absurd (omega (arith, o, even))
        | inr b ↦ let i = was.within digit d (rw b.1 at odd) in rw b.1 (omega (arith, i, size))
      ];
      lower = λ digit d odd. elim (r.links c digit w d) [
        | inl a ↦ let o = rw a.2 at odd in absurd (omega (arith, o, even))
        | inr b ↦ rw (b.1, shift, r.shift (slice_index (node_at old c).links digit / 2) (was.within digit d (rw b.1 at odd))) (was.lower digit d (rw b.1 at odd))
      ];
    }

slot_stays : (old new : List Node) (keys new_keys : List ℕ) (owner key link c digit l : ℕ) → Relinks old new owner key link → c < length old → IsSlot old keys (node_at old c) digit l → (l % 2 ≡ 1 → l / 2 < length old) → (l % 2 ≡ 0 → 0 < l → (l / 2 ≤ length new_keys) × (slice_index new_keys (l / 2 - 1) ≡ slice_index keys (l / 2 - 1))) → IsSlot new new_keys (node_at new c) digit l
slot_stays old new keys new_keys owner key link c digit l r h s within same =
    let shift : (node_at new c).shift ≡ (node_at old c).shift = r.shift c h in
    let base : (node_at new c).base ≡ (node_at old c).base = r.base c h in
    record {
      place = λ even. elim (cases_lt 0 l) [
        | inl some ↦ (same even some).0
        | inr none ↦ omega (arith, none)
      ];
      below_node = λ odd. rw (shift, base, r.base (l / 2) (within odd)) (s.below_node odd);
      below_key = λ even some. rw (shift, base, (same even some).1) (s.below_key even some);
    }

-- the nodes that were reached are reached, after the link of a place was replaced
reached_stays : (nodes new : List Node) (root key owner link new_link c : ℕ) → Relinks nodes new owner key new_link → link % 2 ≡ 0 → IsWay nodes root key owner link → c < length nodes → Meets nodes (node_at nodes c).base (2 * c + 1) root → Meets new (node_at new c).base (2 * c + 1) (new_root root owner new_link)
reached_stays nodes new root key zero link new_link c r even w h m =
    not_from nodes (node_at nodes c).base (2 * c + 1) m.0 root (subst (λ l. l % 2 ≡ 0) w even) (omega arith) m.1
reached_stays nodes new root key (suc owner) link new_link c r even w h m =
    let k = (node_at nodes c).base in
    let met = meets_kept nodes new (suc owner) key link new_link k (2 * c + 1) r (λ steps f below. not_from nodes k (2 * c + 1) steps link even (omega arith) f) (way_link nodes root key (suc owner) link w) m.0 root m.1 in
    subst (λ x. Meets new x (2 * c + 1) root) (sym (r.base c h)) met

-- ---- the link replaced by 0
root_taken : (nodes new : List Node) (keys : List ℕ) (root key owner place : ℕ) → IsRoot nodes keys root → length nodes ≤ length new → IsWay nodes root key owner (2 * place + 2) → IsRoot new keys (new_root root owner 0) × (new_root root owner 0 ≢ 2 * place + 2)
root_taken nodes new keys root key zero place first longer w =
    (record { node = λ odd. absurd (omega (arith, odd)); place = λ even. omega arith }, λ f. absurd (omega (arith, f)))
root_taken nodes new keys root key (suc owner) place first longer w =
    (record { node = λ odd. let n = first.node odd in omega (arith, n, longer); place = first.place }, root_apart nodes root key owner (2 * place + 2) (omega arith) w)

found_taken : (nodes new : List Node) (keys : List ℕ) (root key owner place q : ℕ) → Relinks nodes new owner key 0 → IsWay nodes root key owner (2 * place + 2) → Finds nodes keys (slice_index keys q) q root → q ≢ place → Finds new keys (slice_index keys q) q (new_root root owner 0)
found_taken nodes new keys root key zero place q r w f ne = not_here nodes keys (slice_index keys q) q place f.0 root ne (sym w) f.1
found_taken nodes new keys root key (suc owner) place q r w f ne =
    finds_kept nodes new keys keys (suc owner) key (2 * place + 2) 0 (slice_index keys q) q r (λ at. at) (λ steps g h. not_here nodes keys (slice_index keys q) q place steps (2 * place + 2) ne refl g) (way_link nodes root key (suc owner) (2 * place + 2) w) f.0 root f.1

pub taken : (nodes : List Node) (keys : List ℕ) (root owner place : ℕ) → IsTrie nodes keys root → IsWay nodes root (slice_index keys place) owner (2 * place + 2) → IsPartial (relinked nodes owner (slice_index keys place) 0) keys (new_root root owner 0) place
taken nodes keys root owner place t w =
    let key = slice_index keys place in
    let new = relinked nodes owner key 0 in
    let size : length new ≡ length nodes = length_relinked nodes owner key 0 in
    let r = relinks nodes nodes owner key 0 t.forest (omega arith) (λ c x. refl) (λ x. (way_odd nodes root key owner (2 * place + 2) w x).0) in
    let top = root_taken nodes new keys root key owner place t.first (omega (arith, size)) w in
    record {
      forest = forest_stays nodes new owner key 0 r size (omega arith) t.forest;
      first = top.0;
      slots = λ c x digit d.
          let i : c < length nodes = omega (arith, x, size) in
          elim (r.links c digit i d) [
            | inl a ↦ rw a.2 (record { place = λ even. omega arith; below_node = λ odd. absurd (omega (arith, odd)); below_key = λ even some. absurd (omega (arith, some)) })
            | inr b ↦ rw b.1 (slot_stays nodes new keys keys owner key 0 c digit (slice_index (node_at nodes c).links digit) r i (t.slots c i digit d) ((t.forest c i).within digit d) (λ even some. ((t.slots c i digit d).place even, refl)))
          ];
      reached = λ c x. let i : c < length nodes = omega (arith, x, size) in reached_stays nodes new root key owner (2 * place + 2) 0 c r (omega arith) w i (t.reached c i);
      found = λ q x ne. found_taken nodes new keys root key owner place q r w (t.found q x) ne;
      free = λ c digit x d e.
          let i : c < length nodes = omega (arith, x, size) in
          elim (r.links c digit i d) [
            | inl a ↦ absurd (omega (arith, a.2, e))
            | inr b ↦ let o = one_slot nodes keys root owner c digit place t.forest i (t.reached c i) (t.slots c i digit d) d w (sym b.1 ∙ e) in b.0 o.0 o.1
          ];
      free_root = top.1;
    }

-- ---- the last key moved to the place
root_moved : (nodes new : List Node) (keys new_keys : List ℕ) (root key owner place last : ℕ) → IsRoot nodes keys root → length nodes ≤ length new → IsWay nodes root key owner (2 * last + 2) → place < last → length new_keys ≡ length keys → last + 1 ≡ length keys → IsRoot new new_keys (new_root root owner (2 * place + 2)) × (new_root root owner (2 * place + 2) ≢ 2 * last + 2)
root_moved nodes new keys new_keys root key zero place last first longer w lt sizes n =
    (record { node = λ odd. absurd (omega (arith, odd)); place = λ even. omega (arith, lt, sizes, n) }, λ f. absurd (omega (arith, f, lt)))
root_moved nodes new keys new_keys root key (suc owner) place last first longer w lt sizes n = (
  record {
    node = λ odd. let m = first.node odd in omega (arith, m, longer);
    place = λ even. let p = first.place even in omega (arith, p, sizes);
  },
  root_apart nodes root key owner (2 * last + 2) (omega arith) w,
)

found_moved : (nodes new : List Node) (keys new_keys : List ℕ) (root key owner place last q : ℕ) → Relinks nodes new owner key (2 * place + 2) → IsWay nodes root key owner (2 * last + 2) → Finds nodes keys (slice_index keys q) q root → q ≢ last → IsAt new_keys (slice_index keys q) q → Finds new new_keys (slice_index keys q) q (new_root root owner (2 * place + 2))
found_moved nodes new keys new_keys root key zero place last q r w f ne there = not_here nodes keys (slice_index keys q) q last f.0 root ne (sym w) f.1
found_moved nodes new keys new_keys root key (suc owner) place last q r w f ne there =
    finds_kept nodes new keys new_keys (suc owner) key (2 * last + 2) (2 * place + 2) (slice_index keys q) q r (λ at. there) (λ steps g h. not_here nodes keys (slice_index keys q) q last steps (2 * last + 2) ne refl g) (way_link nodes root key (suc owner) (2 * last + 2) w) f.0 root f.1

last_found : (nodes new : List Node) (new_keys : List ℕ) (root key owner place last : ℕ) → Relinks nodes new owner key (2 * place + 2) → IsWay nodes root key owner (2 * last + 2) → IsAt new_keys key place → Finds new new_keys key place (new_root root owner (2 * place + 2))
last_found nodes new new_keys root key zero place last r w there = (0, (there, refl))
last_found nodes new new_keys root key (suc owner) place last r w there =
    finds_on_way nodes new new_keys (suc owner) key (2 * place + 2) place r (0, (there, refl)) w.0 w.1 w.3.0 root w.3.1

pub moved_last : (nodes : List Node) (keys new_keys : List ℕ) (root owner place last : ℕ) → IsPartial nodes keys root place → IsWay nodes root (slice_index keys last) owner (2 * last + 2) → last + 1 ≡ length keys → place < last → length new_keys ≡ length keys → slice_index new_keys place ≡ slice_index keys last → ((q : ℕ) → q ≢ place → slice_index new_keys q ≡ slice_index keys q) → IsPartial (relinked nodes owner (slice_index keys last) (2 * place + 2)) new_keys (new_root root owner (2 * place + 2)) last
moved_last nodes keys new_keys root owner place last t w n lt sizes key_is keys_stay =
    let key = slice_index keys last in
    let link = 2 * place + 2 in
    let new = relinked nodes owner key link in
    let size : length new ≡ length nodes = length_relinked nodes owner key link in
    let r = relinks nodes nodes owner key link t.forest (omega arith) (λ c x. refl) (λ x. (way_odd nodes root key owner (2 * last + 2) w x).0) in
    let top = root_moved nodes new keys new_keys root key owner place last t.first (omega (arith, size)) w lt sizes n in
    let half : link / 2 - 1 ≡ place = omega arith in
    record {
      forest = forest_stays nodes new owner key link r size (omega arith) t.forest;
      first = top.0;
      slots = λ c x digit d.
          let i : c < length nodes = omega (arith, x, size) in
          let shift : (node_at new c).shift ≡ (node_at nodes c).shift = r.shift c i in
          let base : (node_at new c).base ≡ (node_at nodes c).base = r.base c i in
          elim (r.links c digit i d) [
            | inl a ↦ let holds = way_holds nodes root key owner (2 * last + 2) w c a.0 in rw a.2 (record {
              place = λ even. omega (arith, lt, sizes, n);
              below_node = λ odd. absurd (omega (arith, odd));
              below_key = λ even some. rw (half, key_is, shift, base) (let e = a.1 in omega (arith, holds, e));
            })
            | inr b ↦
                let l = slice_index (node_at nodes c).links digit in
                let s = t.slots c i digit d in
                rw b.1 (slot_stays nodes new keys new_keys owner key link c digit l r i s ((t.forest c i).within digit d) (λ even some.
                let apart : l / 2 - 1 ≢ place = λ e. t.free c digit i d (omega (arith, e, even, some)) in
                let p = s.place even in
                (omega (arith, p, sizes), keys_stay (l / 2 - 1) apart)))
          ];
      reached = λ c x. let i : c < length nodes = omega (arith, x, size) in reached_stays nodes new root key owner (2 * last + 2) link c r (omega arith) w i (t.reached c i);
      found = λ q x ne. elim (cases_eq q place) [
        | inl e ↦
            let at : IsAt new_keys key place = record { within = omega (arith, lt, sizes, n); is = key_is } in
            let f = last_found nodes new new_keys root key owner place last r w at in
            let P : ℕ → Type 0 = λ p. Finds new new_keys (slice_index new_keys p) p (new_root root owner link) in
            subst P (sym e) (subst (λ k. Finds new new_keys k place (new_root root owner link)) (sym key_is) f)
        | inr apart ↦
            let is : slice_index new_keys q ≡ slice_index keys q = keys_stay q apart in
            let at : IsAt new_keys (slice_index keys q) q = record { within = x; is = is } in
            let f = found_moved nodes new keys new_keys root key owner place last q r w (t.found q (omega (arith, x, sizes)) apart) ne at in
            subst (λ k. Finds new new_keys k q (new_root root owner link)) (sym is) f
      ];
      free = λ c digit x d e.
          let i : c < length nodes = omega (arith, x, size) in
          elim (r.links c digit i d) [
            | inl a ↦ absurd (omega (arith, a.2, e, lt))
            | inr b ↦ let o = one_slot nodes keys root owner c digit last t.forest i (t.reached c i) (t.slots c i digit d) d w (sym b.1 ∙ e) in b.0 o.0 o.1
          ];
      free_root = top.1;
    }

-- ---- the last place dropped
leads_keys : (nodes : List Node) (keys new_keys : List ℕ) (k q : ℕ) → IsAt new_keys k q → (steps link : ℕ) → Leads nodes keys k q steps link → Leads nodes new_keys k q steps link
leads_keys nodes keys new_keys k q at zero link f = (at, f.1)
leads_keys nodes keys new_keys k q at (suc steps) link f = (f.0, f.1, leads_keys nodes keys new_keys k q at steps (link_for (node_at nodes (link / 2)) k) f.2)

pub dropped : (nodes : List Node) (keys new_keys : List ℕ) (root last : ℕ) → IsPartial nodes keys root last → last + 1 ≡ length keys → length new_keys ≡ last → ((q : ℕ) → q < last → slice_index new_keys q ≡ slice_index keys q) → IsTrie nodes new_keys root
dropped nodes keys new_keys root last t n sizes keys_stay =
    record {
      forest = t.forest;
      first = record {
        node = t.first.node;
        place = λ even. let p = t.first.place even in elim (cases_eq (root / 2) (last + 1)) [
          | inl e ↦ absurd (t.free_root (omega (arith, e, even)))
          | inr ne ↦ omega (arith, p, ne, n, sizes)
        ];
      };
      slots = λ c h digit d.
          let l = slice_index (node_at nodes c).links digit in
          let s = t.slots c h digit d in
          let under : l % 2 ≡ 0 → 0 < l → l / 2 - 1 < last = λ even some.
          let p = s.place even in
          let apart : l / 2 - 1 ≢ last = λ e. t.free c digit h d (omega (arith, e, even, some)) in
          omega (arith, p, apart, n, some, even) in
          record {
            place = λ even. elim (cases_lt 0 l) [
              | inl some ↦ let u = under even some in omega (arith, u, sizes, even, some)
              | inr none ↦ omega (arith, none)
            ];
            below_node = s.below_node;
            below_key = λ even some. rw (keys_stay (l / 2 - 1) (under even some)) (s.below_key even some);
          };
      reached = t.reached;
      found = λ q h.
          let u : q < last = omega (arith, h, sizes) in
          let is : slice_index new_keys q ≡ slice_index keys q = keys_stay q u in
          let f = t.found q (omega (arith, u, n)) (λ e. absurd (omega (arith, e, u))) in
          let at : IsAt new_keys (slice_index keys q) q = record { within = h; is = is } in
          subst (λ k. Finds nodes new_keys k q root) (sym is) (f.0, leads_keys nodes keys new_keys (slice_index keys q) q at f.0 root f.1);
    }

-- ---- the calls
take_less : (xs : List ℕ) (n q : ℕ) → q < n → slice_index (take n xs) q ≡ slice_index xs q
take_less xs n q h = get_or-take n xs q 0 h

-- the last place dropped from the list
pub dropped_last : (nodes : List Node) (keys : List ℕ) (root last : ℕ) → IsPartial nodes keys root last → last + 1 ≡ length keys → IsTrie nodes (take (length keys - 1) keys) root
dropped_last nodes keys root last t n =
    dropped nodes keys (take (length keys - 1) keys) root last t n
    (length-take-le (length keys - 1) keys (omega arith) ∙ omega (arith, n))
    (λ q h. take_less keys (length keys - 1) q (omega (arith, h, n)))

-- the last key moved in the list
pub moved_in_list : (nodes : List Node) (keys : List ℕ) (root owner place last link : ℕ) → link ≡ 2 * place + 2 → IsPartial nodes keys root place → IsWay nodes root (slice_index keys last) owner (2 * last + 2) → last + 1 ≡ length keys → place < last → IsPartial (relinked nodes owner (slice_index keys last) link) (slice_set keys place (slice_index keys last)) (new_root root owner link) last
moved_in_list nodes keys root owner place last link e t w n lt =
    let P : ℕ → Type 0 = λ l. IsPartial (relinked nodes owner (slice_index keys last) l) (slice_set keys place (slice_index keys last)) (new_root root owner l) last in
    subst P (sym e) (moved_last nodes keys (slice_set keys place (slice_index keys last)) root owner place last t w n lt
    (length-set keys place (slice_index keys last))
    (get_or-set_same keys place (slice_index keys last) 0 (omega (arith, lt, n)))
    (λ q ne. get_or-set_other keys place q (slice_index keys last) 0 ne))

-- the last element in its own place
pub without_last : (xs : List ℕ) (place : ℕ) → place ≡ length xs - 1 → take (length xs - 1) xs ≡ without_place xs place 0
without_last xs place e = rw e (ap (take (length xs - 1)) (sym (set-get_or xs (length xs - 1) 0)))
