-- A key added to a trie.
use Rattle.std.proofs.Common.{◌≡◌, ◌≢◌, ℕ, zero, suc, ◌+◌, ◌-◌, ◌*◌, ◌/◌, ◌%◌, ◌^◌, ◌<◌, ◌≤◌, List, [], ◌∷◌, ◌++◌, length, slice_index, slice_set, replicate, arith, refl, sym, ap, ◌∙◌, subst}
use mathlib.Core.Logic.{inl, inr, ◌⊎◌}
use Rattle.std.proofs.lemmas.Bool.{cases_eq, cases_lt}
use Rattle.std.proofs.lemmas.List.{get_or-set_same, get_or-set_other, get_or_append_left, get_or_push, get_or-replicate, length-set, length_push}
use Rattle.chunk_map.specs.declared.trie.Node.{Node}
use Rattle.chunk_map.specs.Trie.{AreSlots, Branches, Finds, Grows, Holds, IsAt, IsLower, IsNode, IsSlot, IsTrie, IsWay, KeepsKeys, Leads, Meets, Parts, Reaches, Relinks, base_of, branch_of, digit_in, link_for, marked, new_root, node_at, relinked, top_of}
use Rattle.chunk_map.proofs.Digits.{same_above, shift_below, div_digit}
use Rattle.chunk_map.proofs.Growth.{grown}
use Rattle.chunk_map.proofs.Marks.{marks_none, marks_set}
use Rattle.chunk_map.proofs.Relinked.{length_relinked, node_before, node_last, other_node, relinks, way_holds, way_odd}

keeps_push : (keys : List ℕ) (key : ℕ) → KeepsKeys keys (keys ++ key ∷ [])
keeps_push keys key place h = record {
  within = rw (length_push keys key) (omega (arith, h));
  is = get_or_append_left keys (key ∷ []) 0 place h;
}

added_push : (keys : List ℕ) (key place : ℕ) → place < length (keys ++ key ∷ []) → (place < length keys) ⊎ ((place ≡ length keys) × (slice_index (keys ++ key ∷ []) place ≡ key))
added_push keys key place h = elim (cases_lt place (length keys)) [
  | inl l ↦ inl l
  | inr l ↦
      let e : place ≡ length keys = let more = length_push keys key in omega (arith, l, h, more) in
      inr (e, get_or_push keys key 0 place (sym e))
]

-- ---- below a link that is 0
leaf_grows : (nodes : List Node) (keys : List ℕ) (root owner key : ℕ) → IsTrie nodes keys root → IsWay nodes root key owner 0 → Grows nodes (relinked nodes owner key (2 * length keys + 2)) keys (keys ++ key ∷ []) owner key 0 (2 * length keys + 2)
leaf_grows nodes keys root owner key t w =
    let n = length keys in
    let leaf = 2 * n + 2 in
    let new = relinked nodes owner key leaf in
    let size : length new ≡ length nodes = length_relinked nodes owner key leaf in
    let half : leaf / 2 - 1 ≡ n = omega arith in
    let at : slice_index (keys ++ key ∷ []) (leaf / 2 - 1) ≡ key = get_or_push keys key 0 (leaf / 2 - 1) (sym half) in
    record {
      relinks = relinks nodes nodes owner key leaf t.forest (omega arith) (λ c h. refl) (λ h. (way_odd nodes root key owner 0 w h).0);
      kept = keeps_push keys key;
      added = added_push keys key;
      lower = λ c l h. absurd (omega (arith, l, h, size));
      slots = λ c l h. absurd (omega (arith, l, h, size));
      reached = λ c l h. absurd (omega (arith, l, h, size));
      node = λ odd. absurd (omega (arith, odd));
      place = λ even. rw (length_push keys key) (omega arith);
      below = λ c h e odd. absurd (omega (arith, odd));
      slot = λ c h e. let holds = way_holds nodes root key owner 0 w c e in record {
        place = λ even. rw (length_push keys key) (omega arith);
        below_node = λ odd. absurd (omega (arith, odd));
        below_key = λ even some. rw at (omega (arith, holds));
      };
      turns = λ other place steps f found. none nodes keys other place steps f;
      passes = λ c steps h f met. no_node nodes (node_at nodes c).base c steps f;
      finds = (0, (record { within = rw (length_push keys key) (omega arith); is = get_or_push keys key 0 n refl }, refl));
    }
  where
    none : (nodes : List Node) (keys : List ℕ) (other place steps : ℕ) → {A : Type 0} → Leads nodes keys other place steps 0 → A
    none nodes keys other place zero f = let e = f.1 in absurd (omega (arith, e))
    none nodes keys other place (suc steps) f = let e = f.0.odd in absurd (omega (arith, e))

    no_node : (nodes : List Node) (k c steps : ℕ) → {A : Type 0} → Reaches nodes k (2 * c + 1) steps 0 → A
    no_node nodes k c zero f = absurd (omega (arith, f))
    no_node nodes k c (suc steps) f = let e = f.0.odd in absurd (omega (arith, e))

leaf_trie_at : (nodes : List Node) (keys : List ℕ) (root owner key : ℕ) → IsTrie nodes keys root → IsWay nodes root key owner 0 → IsTrie (relinked nodes owner key (2 * length keys + 2)) (keys ++ key ∷ []) (new_root root owner (2 * length keys + 2))
leaf_trie_at nodes keys root owner key t w =
    grown nodes (relinked nodes owner key (2 * length keys + 2)) keys (keys ++ key ∷ []) root owner key 0 (2 * length keys + 2) t w (leaf_grows nodes keys root owner key t w)

-- a key added below a link that is 0
pub leaf_trie : (nodes : List Node) (keys : List ℕ) (root owner key n : ℕ) → n ≡ length keys → IsTrie nodes keys root → IsWay nodes root key owner 0 → IsTrie (relinked nodes owner key (2 * n + 2)) (keys ++ key ∷ []) (new_root root owner (2 * n + 2))
leaf_trie nodes keys root owner key n e t w =
    let P : ℕ → Type 0 = λ x. IsTrie (relinked nodes owner key (2 * x + 2)) (keys ++ key ∷ []) (new_root root owner (2 * x + 2)) in
    subst P (sym e) (leaf_trie_at nodes keys root owner key t w)

-- ---- by a new node
-- the digits of keys that part there differ
digits_apart : (a b s : ℕ) → Parts a b s → a / 2 ^ s % 16 ≢ b / 2 ^ s % 16
digits_apart a b s p e = let j = p.joined in p.apart (omega (arith, j, e))

-- the links of the new node
branch_new : (base link key leaf s : ℕ) → slice_index (branch_of base link key leaf s).links (key / 2 ^ s % 16) ≡ leaf
branch_new base link key leaf s = get_or-set_same (slice_set (replicate 16 0) (base / 2 ^ s % 16) link) (key / 2 ^ s % 16) leaf 0 (rw (length-set (replicate 16 0) (base / 2 ^ s % 16) link) (omega arith))

branch_old : (base link key leaf s : ℕ) → Parts base key s → slice_index (branch_of base link key leaf s).links (base / 2 ^ s % 16) ≡ link
branch_old base link key leaf s p =
    get_or-set_other (slice_set (replicate 16 0) (base / 2 ^ s % 16) link) (key / 2 ^ s % 16) (base / 2 ^ s % 16) leaf 0 (digits_apart base key s p)
    ∙ get_or-set_same (replicate 16 0) (base / 2 ^ s % 16) link 0 (omega arith)

branch_none : (base link key leaf s digit : ℕ) → digit < 16 → digit ≢ key / 2 ^ s % 16 → digit ≢ base / 2 ^ s % 16 → slice_index (branch_of base link key leaf s).links digit ≡ 0
branch_none base link key leaf s digit d ne other =
    get_or-set_other (slice_set (replicate 16 0) (base / 2 ^ s % 16) link) (key / 2 ^ s % 16) digit leaf 0 ne
    ∙ get_or-set_other (replicate 16 0) (base / 2 ^ s % 16) digit link 0 other
    ∙ get_or-replicate 16 digit 0 0 d

branch_size : (base link key leaf s : ℕ) → length (branch_of base link key leaf s).links ≡ 16
branch_size base link key leaf s = length-set (slice_set (replicate 16 0) (base / 2 ^ s % 16) link) (key / 2 ^ s % 16) leaf ∙ length-set (replicate 16 0) (base / 2 ^ s % 16) link

-- a link of the new node is one of three
branch_link : (base link key leaf s digit : ℕ) → Parts base key s → digit < 16 → ((digit ≡ key / 2 ^ s % 16) × (slice_index (branch_of base link key leaf s).links digit ≡ leaf)) ⊎ (((digit ≡ base / 2 ^ s % 16) × (slice_index (branch_of base link key leaf s).links digit ≡ link)) ⊎ (slice_index (branch_of base link key leaf s).links digit ≡ 0))
branch_link base link key leaf s digit p d =
    let P : ℕ → ℕ → Type 0 = λ x l. slice_index (branch_of base link key leaf s).links x ≡ l in
    elim (cases_eq digit (key / 2 ^ s % 16)) [
      | inl e ↦ inl (e, subst (λ x. P x leaf) (sym e) (branch_new base link key leaf s))
      | inr ne ↦ elim (cases_eq digit (base / 2 ^ s % 16)) [
        | inl e ↦ inr (inl (e, subst (λ x. P x link) (sym e) (branch_old base link key leaf s p)))
        | inr other ↦ inr (inr (branch_none base link key leaf s digit d ne other))
      ]
    ]

-- all keys below a link agree with its base, from its shift on
below_base : (nodes : List Node) (keys : List ℕ) (link odd other place steps : ℕ) → link % 2 ≡ odd → Leads nodes keys other place steps link → other / 2 ^ top_of nodes link odd ≡ base_of nodes keys link odd / 2 ^ top_of nodes link odd
below_base nodes keys link zero other place zero even f =
    let at : link / 2 - 1 ≡ place = let e = f.1 in omega (arith, e) in
    let same : slice_index keys (link / 2 - 1) ≡ other = ap (slice_index keys) at ∙ f.0.is in
    ap (λ x. x / 2 ^ 0) (sym same)
below_base nodes keys link zero other place (suc steps) even f = let o = f.0.odd in absurd (omega (arith, even, o))
below_base nodes keys link (suc odd) other place zero is f = let e = f.1 in absurd (omega (arith, is, e))
below_base nodes keys link (suc odd) other place (suc steps) is f =
    let n = node_at nodes (link / 2) in
    div_digit other n.shift ∙ f.1 ∙ sym (div_digit n.base n.shift)

-- the base of a link is below the slot of the link
base_in_slot : (nodes : List Node) (keys : List ℕ) (node : Node) (digit link odd : ℕ) → IsSlot nodes keys node digit link → 0 < link → link % 2 ≡ odd → base_of nodes keys link odd / 2 ^ node.shift ≡ node.base / 2 ^ node.shift / 16 * 16 + digit
base_in_slot nodes keys node digit link zero s some is = s.below_key is some
base_in_slot nodes keys node digit link (suc odd) s some is = s.below_node (omega (arith, is))

-- the shift of the node of a link is below the shift of its keys
top_above : (nodes : List Node) (link odd : ℕ) → link % 2 ≡ 1 → link % 2 ≡ odd → (node_at nodes (link / 2)).shift < top_of nodes link odd
top_above nodes link zero one is = absurd (omega (arith, one, is))
top_above nodes link (suc odd) one is = omega arith

-- the node and its slots
branch_lower : (nodes new : List Node) (base link key leaf s : ℕ) → length nodes ≤ length new → leaf % 2 ≡ 0 → Parts base key s → (link % 2 ≡ 1 → link / 2 < length nodes) → (link % 2 ≡ 1 → (node_at new (link / 2)).shift < s) → IsLower new (branch_of base link key leaf s)
branch_lower nodes new base link key leaf s longer even p within lower = record {
  size = branch_size base link key leaf s;
  used = marks_set (slice_set (replicate 16 0) (base / 2 ^ s % 16) link) (marked 0 (base / 2 ^ s % 16) link) (key / 2 ^ s % 16) leaf (length-set (replicate 16 0) (base / 2 ^ s % 16) link) (omega arith) (marks_set (replicate 16 0) 0 (base / 2 ^ s % 16) link refl (omega arith) marks_none);
  shift = p.shift_fits;
  within = λ digit d odd. elim (branch_link base link key leaf s digit p d) [
    | inl a ↦ let o = rw a.1 at odd in absurd (omega (arith, o, even))
    | inr (inl b) ↦ rw b.1 (let w = within (rw b.1 at odd) in omega (arith, w, longer))
    | inr (inr z) ↦ let o = rw z at odd in absurd (omega (arith, o))
  ];
  lower = λ digit d odd. elim (branch_link base link key leaf s digit p d) [
    | inl a ↦ let o = rw a.1 at odd in absurd (omega (arith, o, even))
    | inr (inl b) ↦ rw b.1 (lower (rw b.1 at odd))
    | inr (inr z) ↦ let o = rw z at odd in absurd (omega (arith, o))
  ];
}

branch_slots : (nodes new : List Node) (keys : List ℕ) (base link key s : ℕ) → Parts base key s → base ≡ base_of nodes keys link (link % 2) → (link % 2 ≡ 1 → (node_at new (link / 2)).base ≡ (node_at nodes (link / 2)).base) → (link % 2 ≡ 0 → link / 2 ≤ length keys) → AreSlots new (keys ++ key ∷ []) (branch_of base link key (2 * length keys + 2) s)
branch_slots nodes new keys base link key s p is same within digit d =
    let leaf = 2 * length keys + 2 in
    let node = branch_of base link key leaf s in
    let l = slice_index node.links digit in
    let more = length_push keys key in
    let half : leaf / 2 - 1 ≡ length keys = omega arith in
    let joined = p.joined in
    elim (branch_link base link key leaf s digit p d) [
      | inl a ↦ rw a.1 (record {
        place = λ even. omega (arith, more);
        below_node = λ odd. absurd (omega (arith, odd));
        below_key = λ even some. rw (half, get_or_push keys key 0 (length keys) refl) (let e = a.0 in omega (arith, e));
      })
      | inr (inl b) ↦ rw b.1 (record {
        place = λ even. let w = within even in omega (arith, w, more);
        below_node = λ odd.
            let base_is : (node_at new (link / 2)).base ≡ base = same odd ∙ of_node nodes keys link (link % 2) refl odd ∙ sym is in
            rw base_is (let e = b.0 in omega (arith, e, joined));
        below_key = λ even some.
            let w = within even in
            let key_is : slice_index (keys ++ key ∷ []) (link / 2 - 1) ≡ base = get_or_append_left keys (key ∷ []) 0 (link / 2 - 1) (omega (arith, w, even, some)) ∙ of_key nodes keys link (link % 2) refl even ∙ sym is in
            rw key_is (let e = b.0 in omega (arith, e, joined));
      })
      | inr (inr z) ↦ rw z (record {
        place = λ even. omega arith;
        below_node = λ odd. absurd (omega (arith, odd));
        below_key = λ even some. absurd (omega (arith, some));
      })
    ]
  where
    of_node : (nodes : List Node) (keys : List ℕ) (link odd : ℕ) → link % 2 ≡ odd → link % 2 ≡ 1 → (node_at nodes (link / 2)).base ≡ base_of nodes keys link odd
    of_node nodes keys link zero is one = absurd (omega (arith, is, one))
    of_node nodes keys link (suc odd) is one = refl

    of_key : (nodes : List Node) (keys : List ℕ) (link odd : ℕ) → link % 2 ≡ odd → link % 2 ≡ 0 → slice_index keys (link / 2 - 1) ≡ base_of nodes keys link odd
    of_key nodes keys link zero is even = refl
    of_key nodes keys link (suc odd) is even = absurd (omega (arith, is, even))

-- the link where a walk ends is one of a node or of a place
end_place : (nodes : List Node) (keys : List ℕ) (root owner key link : ℕ) → IsTrie nodes keys root → IsWay nodes root key owner link → link % 2 ≡ 0 → link / 2 ≤ length keys
end_place nodes keys root zero key link t w even = rw w (t.first.place (rw w at even))
end_place nodes keys root (suc owner) key link t w even =
    let n = suc owner / 2 in
    let s = t.slots n w.0.within (digit_in (node_at nodes n) key) (omega arith) in
    subst (λ l. l / 2 ≤ length keys) (sym w.2) (s.place (subst (λ l. l % 2 ≡ 0) w.2 even))

-- the slot of the owner of the link
owner_slot : (nodes : List Node) (keys : List ℕ) (root owner key link : ℕ) → IsTrie nodes keys root → IsWay nodes root key owner link → (c : ℕ) → c < length nodes → 2 * c + 1 ≡ owner → IsSlot nodes keys (node_at nodes c) (digit_in (node_at nodes c) key) link
owner_slot nodes keys root zero key link t w c h e = absurd (omega (arith, e))
owner_slot nodes keys root (suc owner) key link t w c h e =
    let same : suc owner / 2 ≡ c = omega (arith, e) in
    let P : ℕ → Type 0 = λ x. link ≡ link_for (node_at nodes x) key in
    let to : link ≡ link_for (node_at nodes c) key = subst P same w.2 in
    let s = t.slots c h (digit_in (node_at nodes c) key) (omega arith) in
    let Q : ℕ → ℕ → Type 0 = λ x l. IsSlot nodes keys (node_at nodes c) (digit_in (node_at nodes c) key) l in
    subst (λ x. Q x link) e (subst (λ l. Q (2 * c + 1) l) (sym to) s)

-- a new node above a link is below the node of its owner
branch_below : (nodes : List Node) (keys : List ℕ) (root owner key link s : ℕ) → IsTrie nodes keys root → IsWay nodes root key owner link → 0 < link → Parts (base_of nodes keys link (link % 2)) key s → (c : ℕ) → c < length nodes → 2 * c + 1 ≡ owner → s < (node_at nodes c).shift
branch_below nodes keys root owner key link s t w some p c h e =
    let node = node_at nodes c in
    let slot = owner_slot nodes keys root owner key link t w c h e in
    let its = base_in_slot nodes keys node (digit_in node key) link (link % 2) slot some refl in
    let holds = way_holds nodes root key owner link w c e in
    shift_below (base_of nodes keys link (link % 2)) key s node.shift p.apart (omega (arith, its, holds))

-- from the new node to the link, for what agrees with the base
branch_step : (new : List Node) (base link key leaf s m other : ℕ) → Parts base key s → m < length new → node_at new m ≡ branch_of base link key leaf s → other / 2 ^ s ≡ base / 2 ^ s → IsNode new (2 * m + 1) × Holds (node_at new ((2 * m + 1) / 2)) other × (link_for (node_at new ((2 * m + 1) / 2)) other ≡ link)
branch_step new base link key leaf s m other p within node agree =
    let half : (2 * m + 1) / 2 ≡ m = omega arith in (
      record { odd = omega arith; within = rw half within },
      rw (half, node) (ap (λ x. x / 16) agree ∙ p.joined),
      rw (half, node) (rw agree (branch_old base link key leaf s p)),
    )

-- what was below a link is below the new node
branch_turns : (nodes new : List Node) (keys new_keys : List ℕ) (base link key leaf s m other place steps : ℕ) → Parts base key s → top_of nodes link (link % 2) ≤ s → base ≡ base_of nodes keys link (link % 2) → m < length new → node_at new m ≡ branch_of base link key leaf s → Leads nodes keys other place steps link → Finds new new_keys other place link → Finds new new_keys other place (2 * m + 1)
branch_turns nodes new keys new_keys base link key leaf s m other place steps p from is within node f found =
    let agree : other / 2 ^ s ≡ base / 2 ^ s = same_above other base (top_of nodes link (link % 2)) s from (below_base nodes keys link (link % 2) other place steps refl f ∙ ap (λ x. x / 2 ^ top_of nodes link (link % 2)) (sym is)) in
    let step = branch_step new base link key leaf s m other p within node agree in
    (suc found.0, (step.0, step.1, subst (λ l. Leads new new_keys other place found.0 l) (sym step.2) found.1))

-- the base of a node below a link agrees with the base of the link, from its shift on
node_below : (nodes : List Node) (keys : List ℕ) (link odd c steps : ℕ) → link % 2 ≡ odd → Reaches nodes (node_at nodes c).base (2 * c + 1) steps link → (node_at nodes c).base / 2 ^ top_of nodes link odd ≡ base_of nodes keys link odd / 2 ^ top_of nodes link odd
node_below nodes keys link zero c zero even f = absurd (omega (arith, even, f))
node_below nodes keys link zero c (suc steps) even f = let o = f.0.odd in absurd (omega (arith, even, o))
node_below nodes keys link (suc odd) c zero is f =
    let at : c ≡ link / 2 = omega (arith, f) in
    ap (λ x. (node_at nodes x).base / 2 ^ ((node_at nodes (link / 2)).shift + 4)) at
node_below nodes keys link (suc odd) c (suc steps) is f =
    let n = node_at nodes (link / 2) in
    div_digit (node_at nodes c).base n.shift ∙ f.1 ∙ sym (div_digit n.base n.shift)

-- the nodes that were below a link are below the new node
branch_passes : (nodes new : List Node) (keys : List ℕ) (base link key leaf s m c steps : ℕ) → Parts base key s → top_of nodes link (link % 2) ≤ s → base ≡ base_of nodes keys link (link % 2) → m < length new → node_at new m ≡ branch_of base link key leaf s → Reaches nodes (node_at nodes c).base (2 * c + 1) steps link → Meets new (node_at nodes c).base (2 * c + 1) link → Meets new (node_at nodes c).base (2 * c + 1) (2 * m + 1)
branch_passes nodes new keys base link key leaf s m c steps p from is within node f met =
    let other = (node_at nodes c).base in
    let agree : other / 2 ^ s ≡ base / 2 ^ s = same_above other base (top_of nodes link (link % 2)) s from (node_below nodes keys link (link % 2) c steps refl f ∙ ap (λ x. x / 2 ^ top_of nodes link (link % 2)) (sym is)) in
    let step = branch_step new base link key leaf s m other p within node agree in
    (suc met.0, (step.0, step.1, subst (λ l. Reaches new other (2 * c + 1) met.0 l) (sym step.2) met.1))

branch_finds : (new : List Node) (keys : List ℕ) (base link key s m : ℕ) → m < length new → node_at new m ≡ branch_of base link key (2 * length keys + 2) s → Finds new (keys ++ key ∷ []) key (length keys) (2 * m + 1)
branch_finds new keys base link key s m within node =
    let leaf = 2 * length keys + 2 in
    let half : (2 * m + 1) / 2 ≡ m = omega arith in
    let holds : Holds (node_at new ((2 * m + 1) / 2)) key = rw (half, node) refl in
    let to : link_for (node_at new ((2 * m + 1) / 2)) key ≡ leaf = rw (half, node) (branch_new base link key leaf s) in
    let there : IsAt (keys ++ key ∷ []) key (length keys) = record { within = rw (length_push keys key) (omega arith); is = get_or_push keys key 0 (length keys) refl } in
    (1, (record { odd = omega arith; within = rw half within }, holds, (there, to)))

branch_grows : (nodes more : List Node) (keys : List ℕ) (root owner key link : ℕ) → IsTrie nodes keys root → IsWay nodes root key owner link → (link % 2 ≡ 1 → link / 2 < length nodes) → 0 < link → Branches nodes more keys link key (2 * length keys + 2) → Grows nodes (relinked more owner key (2 * length nodes + 1)) keys (keys ++ key ∷ []) owner key link (2 * length nodes + 1)
branch_grows nodes more keys root owner key link t w within some b =
    let m = length nodes in
    let n = length keys in
    let leaf = 2 * n + 2 in
    let fresh = 2 * m + 1 in
    let base = base_of nodes keys link (link % 2) in
    let node = branch_of base link key leaf b.shift in
    let new = relinked more owner key fresh in
    let half : fresh / 2 ≡ m = omega arith in
    let longer : length more ≡ m + 1 = ap length b.pushed ∙ length_push nodes node in
    let size : length new ≡ m + 1 = length_relinked more owner key fresh ∙ longer in
    let first : (c : ℕ) → c < m → node_at more c ≡ node_at nodes c = λ c h. ap (λ xs. node_at xs c) b.pushed ∙ node_before nodes node c h in
    let odd : 0 < owner → owner % 2 ≡ 1 = λ h. (way_odd nodes root key owner link w h).0 in
    let apart : 2 * m + 1 ≢ owner = λ e. let h = (way_odd nodes root key owner link w (omega (arith, e))).1 in absurd (omega (arith, e, h)) in
    let last : node_at new m ≡ node = other_node more owner key fresh m odd apart ∙ ap (λ xs. node_at xs m) b.pushed ∙ node_last nodes node in
    let r : Relinks nodes new owner key fresh = relinks nodes more owner key fresh t.forest (omega (arith, longer)) first odd in
    let place = end_place nodes keys root owner key link t w in
    let end_base : link % 2 ≡ 1 → (node_at new (link / 2)).base ≡ (node_at nodes (link / 2)).base = λ one. r.base (link / 2) (within one) in
    let slots : AreSlots new (keys ++ key ∷ []) node = branch_slots nodes new keys base link key b.shift b.parts refl end_base place in
    let lower : IsLower new node = branch_lower nodes new base link key leaf b.shift (omega (arith, size)) (omega arith) b.parts within (λ one. let s = r.shift (link / 2) (within one) in let top = top_above nodes link (link % 2) one refl in let from = b.from in omega (arith, s, top, from)) in
    let P : Node → Type 0 = λ x. IsLower new x in
    let Q : ℕ → Type 0 = λ c. P (node_at new c) in
    let S : Node → Type 0 = λ x. AreSlots new (keys ++ key ∷ []) x in
    let R : ℕ → Type 0 = λ c. AreSlots new (keys ++ key ∷ []) (node_at new c) in
    record {
      relinks = r;
      kept = keeps_push keys key;
      added = added_push keys key;
      lower = λ c l h. let at : m ≡ c = omega (arith, l, h, size) in subst Q at (subst P (sym last) lower);
      slots = λ c l h. let at : m ≡ c = omega (arith, l, h, size) in subst R at (subst S (sym last) slots);
      reached = λ c l h. let at : m ≡ c = omega (arith, l, h, size) in (subst (λ x. (node_at new x).base ≡ key) at (ap (λ (x : Node). x.base) last), omega (arith, at));
      node = λ one. omega (arith, size);
      place = λ even. absurd (omega (arith, even));
      below = λ c h e one. rw (half, last) (branch_below nodes keys root owner key link b.shift t w some b.parts c h e);
      slot = λ c h e. let holds = way_holds nodes root key owner link w c e in record {
        place = λ even. absurd (omega (arith, even));
        below_node = λ one. rw (half, last) (omega (arith, holds));
        below_key = λ even more_than. absurd (omega (arith, even));
      };
      turns = λ other at steps f found. branch_turns nodes new keys (keys ++ key ∷ []) base link key leaf b.shift m other at steps b.parts b.from refl (omega (arith, size)) last f found;
      passes = λ c steps h f met. branch_passes nodes new keys base link key leaf b.shift m c steps b.parts b.from refl (omega (arith, size)) last f met;
      finds = branch_finds new keys base link key b.shift m (omega (arith, size)) last;
    }

branch_trie_at : (nodes more : List Node) (keys : List ℕ) (root owner key link : ℕ) → IsTrie nodes keys root → IsWay nodes root key owner link → (link % 2 ≡ 1 → link / 2 < length nodes) → 0 < link → Branches nodes more keys link key (2 * length keys + 2) → IsTrie (relinked more owner key (2 * length nodes + 1)) (keys ++ key ∷ []) (new_root root owner (2 * length nodes + 1))
branch_trie_at nodes more keys root owner key link t w within some b =
    grown nodes (relinked more owner key (2 * length nodes + 1)) keys (keys ++ key ∷ []) root owner key link (2 * length nodes + 1) t w (branch_grows nodes more keys root owner key link t w within some b)

-- a key added by a new node
pub branch_trie : (nodes more : List Node) (keys : List ℕ) (root owner key link n new : ℕ) → n ≡ length keys → new ≡ 2 * length nodes + 1 → IsTrie nodes keys root → IsWay nodes root key owner link → (link % 2 ≡ 1 → link / 2 < length nodes) → 0 < link → Branches nodes more keys link key (2 * n + 2) → IsTrie (relinked more owner key new) (keys ++ key ∷ []) (new_root root owner new)
branch_trie nodes more keys root owner key link n new e f t w within some b =
    let P : ℕ → Type 0 = λ x. Branches nodes more keys link key (2 * x + 2) in
    let Q : ℕ → Type 0 = λ x. IsTrie (relinked more owner key x) (keys ++ key ∷ []) (new_root root owner x) in
    subst Q (sym f) (branch_trie_at nodes more keys root owner key link t w within some (subst P e b))
