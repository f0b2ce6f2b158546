-- The digests follow a bitmap from its beginning on, through commits, drops and rewinds.
use Rattle.std.proofs.Common.{◌≡◌, ℕ, ◌+◌, ◌-◌, ◌*◌, ◌^◌, ◌<◌, Bool, true, false, List, [], ◌∷◌, ◌++◌, refl, sym, ap, subst, ◌∙◌, arith, inl, inr}
use Rattle.std.specs.Prelude.{⊤, Option, Some, None, if◌then◌else◌, nat_le}
use Rattle.std.specs.Int.{div_ceil}
use Rattle.std.specs.List.{filter}
use Rattle.std.specs.Option.{option_or}
use Rattle.std.proofs.lemmas.Bool.{cases_eq, cases_lt, eq-eqb, ne_eqb}
use Rattle.bitmap_core.specs.PrunedBits.{PrunedBits, bit_len}
use Rattle.historical_bitmap.specs.Changes.{chunk_total}
use Rattle.historical_bitmap.specs.History.{from_number, kept_under, up_to_number}
use Rattle.historical_bitmap.specs.Batch.{aborted, begun}
use Rattle.historical_bitmap.specs.Pending.{PendingEdits}
use Rattle.historical_bitmap.specs.View.{View, history_of}
use Rattle.historical_bitmap.proofs.History.KeptUnder.{kept_where}
use Rattle.historical_bitmap.proofs.History.Replaced.{total_small}
use Rattle.authenticated_bitmap.specs.LeafDigests.{Authenticates, HasTreeSize, StoresTree}
use Rattle.authenticated_bitmap.specs.Stored.{nodes, stored_below}
use Rattle.authenticated_bitmap.specs.StoredBitmap.{IsOnBaseOf}
use Rattle.authenticated_bitmap.proofs.FromStored.{place_within}
use Rattle.authenticated_history.specs.Versions.{AuthenticatesIf, Follows, nothing}

-- ---- the number of chunks, from the number of stored digests
nodes_less : (a b : ℕ) → a < b → nodes a < nodes b
nodes_less a b l =
    let first : a * 2 ^ 0 ≡ a = omega arith in
    let within : nodes a + (2 * 2 ^ 0 - 2) < nodes b = subst (λ k. nodes k + (2 * 2 ^ 0 - 2) < nodes b) first (place_within b 0 a (omega (arith, l))) in
    omega (arith, within)

pub nodes_same : (a b : ℕ) → nodes a ≡ nodes b → a ≡ b
nodes_same a b e = elim (cases_lt a b) [
  | inl l ↦ absurd (omega (arith, e, nodes_less a b l))
  | inr h ↦ elim (cases_lt b a) [
    | inl l ↦ absurd (omega (arith, e, nodes_less b a l))
    | inr l ↦ omega (arith, h, l)
  ]
]

-- digests that have the size of a tree of some leaves, and authenticate a state, have a leaf per chunk of it
pub count_is : (H : List ℕ → List ℕ) (n count : ℕ) (s t : PrunedBits) → HasTreeSize count t → Authenticates H n s t → count ≡ chunk_total n s
count_is H n count s t size a = nodes_same count (chunk_total n s) (omega (arith, sym size.len ∙ a.tree.len))

-- ---- the beginning
none_stored : (H : List ℕ → List ℕ) → StoresTree H 0 (record { pruned = 0; bits = [] })
unfolding stored_below lib.Count.ones
none_stored H = record { pruned = refl; len = refl; digests = refl }

pub none_authenticated : (H : List ℕ → List ℕ) (n : ℕ) → 0 < n → Authenticates H n (record { pruned = 0; bits = [] }) (record { pruned = 0; bits = [] })
none_authenticated H n pos = record {
  tree = subst (λ k. StoresTree H k (record { pruned = 0; bits = [] })) (sym total) (none_stored H);
  leaves = λ i low below. absurd (omega (arith, below, total));
}
  where
    total : chunk_total n (record { pruned = 0; bits = [] }) ≡ 0
    total = omega (arith, total_small n (record { pruned = 0; bits = [] }) pos)

pub follows_nothing : (H : List ℕ → List ℕ) (n : ℕ) → 0 < n → (bits digests : View ⊤) → bits ≡ nothing → digests ≡ nothing → Follows H n bits digests
follows_nothing H n pos bits digests bits_are digests_are = rw (bits_are, digests_are) (record { current = none_authenticated H n pos; kept = λ k. tt; last = refl })

-- digests that authenticate a state have the size of the tree of its chunks
pub tree_size : (H : List ℕ → List ℕ) (n len count : ℕ) (s t : PrunedBits) → Authenticates H n s t → len ≡ bit_len n s → count ≡ div_ceil len (8 * n) → HasTreeSize count t
tree_size H n len count s t a len_is count_is = record { pruned = a.tree.pruned; len = a.tree.len ∙ ap (λ k. 256 * nodes k) (sym (count_is ∙ ap (λ l. div_ceil l (8 * n)) len_is)) }

-- ---- a batch that is begun
pub follows_begun : (H : List ℕ → List ℕ) (n : ℕ) (bits : View ⊤) (batch : View PendingEdits) (digests : View ⊤) → Follows H n bits digests → batch ≡ begun n bits → Follows H n batch digests
follows_begun H n bits batch digests before is = rw is (record { current = before.current; kept = before.kept; last = before.last })

-- ---- a batch that is aborted
pub follows_aborted : (H : List ℕ → List ℕ) (n : ℕ) (batch : View PendingEdits) (bits digests : View ⊤) → Follows H n batch digests → bits ≡ aborted batch → Follows H n bits digests
follows_aborted H n batch bits digests before is = rw is (record { current = before.current; kept = before.kept; last = before.last })

-- ---- an edit of a batch
pub edits_follow : (H : List ℕ → List ℕ) (n : ℕ) (old new : View PendingEdits) (digests : View ⊤) → new.current ≡ old.current → new.commits ≡ old.commits → new.last ≡ old.last → Follows H n old digests → Follows H n new digests
edits_follow H n old new digests current commits last before = record {
  current = rw current before.current;
  kept = λ k. rw (commits, current) (before.kept k);
  last = before.last ∙ sym last;
}

-- ---- a batch of the digests, which is edited and then aborted or committed
pub base_back : (digests : View ⊤) (old new : View PendingEdits) → old.current ≡ digests.current → old.commits ≡ digests.commits → old.last ≡ digests.last → IsOnBaseOf old new → aborted new ≡ digests
base_back digests old new current commits last base = rw (base.current ∙ current, base.commits ∙ commits, base.last ∙ last) refl

pub base_history : (digests : View ⊤) (old new : View PendingEdits) → old.current ≡ digests.current → old.commits ≡ digests.commits → IsOnBaseOf old new → history_of 32 new ≡ history_of 32 digests
base_history digests old new current commits base = rw (base.current ∙ current, base.commits ∙ commits) refl

-- ---- one commit more
pub kept_push : {X : Type 0} (cs : List (ℕ × X)) (c : ℕ × X) (m : ℕ) → kept_under (cs ++ c ∷ []) m ≡ option_or (kept_under cs m) (kept_under (c ∷ []) m)
kept_push [] c m = refl
kept_push (d ∷ cs) c m = elim (cases_eq m d.0) [
  | inl e ↦ rw (eq-eqb m d.0 e) refl
  | inr ne ↦ rw (ne_eqb m d.0 ne) (kept_push cs c m)
]

or_both : (H : List ℕ → List ℕ) (n : ℕ) (a b p q : Option PrunedBits) → AuthenticatesIf H n a b → AuthenticatesIf H n p q → AuthenticatesIf H n (option_or a p) (option_or b q)
or_both H n None None p q h more = more
or_both H n None (Some t) p q h more = absurd h
or_both H n (Some s) None p q h more = absurd h
or_both H n (Some s) (Some t) p q h more = h

one_both : (H : List ℕ → List ℕ) (n m k : ℕ) (s t : PrunedBits) → Authenticates H n s t → AuthenticatesIf H n (kept_under ((m, s) ∷ []) k) (kept_under ((m, t) ∷ []) k)
one_both H n m k s t a = elim (cases_eq k m) [
  | inl e ↦ rw (eq-eqb k m e) a
  | inr ne ↦ rw (ne_eqb k m ne) tt
]

kept_more : (H : List ℕ → List ℕ) (n m k : ℕ) (xs ys : List (ℕ × PrunedBits)) (s t : PrunedBits) → AuthenticatesIf H n (kept_under xs k) (kept_under ys k) → Authenticates H n s t
    → AuthenticatesIf H n (kept_under (xs ++ (m, s) ∷ []) k) (kept_under (ys ++ (m, t) ∷ []) k)
kept_more H n m k xs ys s t before a =
    rw (kept_push xs (m, s) k, kept_push ys (m, t) k) (or_both H n (kept_under xs k) (kept_under ys k) (kept_under ((m, s) ∷ []) k) (kept_under ((m, t) ∷ []) k) before (one_both H n m k s t a))

pub follows_commit : {S : Type 0} (H : List ℕ → List ℕ) (n number : ℕ) (bits : View S) (digests new_bits new_digests : View ⊤) → Follows H n bits digests → Authenticates H n new_bits.current new_digests.current
    → history_of n new_bits ≡ history_of n bits ++ (number, new_bits.current) ∷ [] → history_of 32 new_digests ≡ history_of 32 digests ++ (number, new_digests.current) ∷ []
    → new_bits.last ≡ Some number → new_digests.last ≡ Some number → Follows H n new_bits new_digests
follows_commit H n number bits digests new_bits new_digests before a in_bits in_digests last_bits last_digests = record {
  current = a;
  kept = λ k. rw (in_bits, in_digests) (kept_more H n number k (history_of n bits) (history_of 32 digests) new_bits.current new_digests.current (before.kept k) a);
  last = last_digests ∙ sym last_bits;
}

-- ---- commits dropped by number
if_both : (H : List ℕ → List ℕ) (n : ℕ) (kept : Bool) (a b : Option PrunedBits) → AuthenticatesIf H n a b → AuthenticatesIf H n (if kept then a else None) (if kept then b else None)
if_both H n true a b h = h
if_both H n false a b h = tt

kept_both : (H : List ℕ → List ℕ) (n : ℕ) (p : ℕ → Bool) (k : ℕ) (xs ys : List (ℕ × PrunedBits)) → AuthenticatesIf H n (kept_under xs k) (kept_under ys k)
    → AuthenticatesIf H n (kept_under (filter (λ e. p e.0) xs) k) (kept_under (filter (λ e. p e.0) ys) k)
kept_both H n p k xs ys before = rw (kept_where p k xs, kept_where p k ys) (if_both H n (p k) (kept_under xs k) (kept_under ys k) before)

pub follows_dropped : (H : List ℕ → List ℕ) (n number : ℕ) (bits digests new_bits new_digests : View ⊤) → Follows H n bits digests
    → new_bits.current ≡ bits.current → new_digests.current ≡ digests.current → history_of n new_bits ≡ from_number number (history_of n bits) → history_of 32 new_digests ≡ from_number number (history_of 32 digests)
    → new_bits.last ≡ bits.last → new_digests.last ≡ digests.last → Follows H n new_bits new_digests
follows_dropped H n number bits digests new_bits new_digests before current_bits current_digests in_bits in_digests last_bits last_digests = record {
  current = rw (current_bits, current_digests) before.current;
  kept = λ k. rw (in_bits, in_digests) (kept_both H n (nat_le number) k (history_of n bits) (history_of 32 digests) (before.kept k));
  last = last_digests ∙ before.last ∙ sym last_bits;
}

pub follows_cleared : (H : List ℕ → List ℕ) (n : ℕ) (bits digests new_bits new_digests : View ⊤) → Follows H n bits digests
    → new_bits.current ≡ bits.current → new_digests.current ≡ digests.current → history_of n new_bits ≡ [] → history_of 32 new_digests ≡ []
    → new_bits.last ≡ bits.last → new_digests.last ≡ digests.last → Follows H n new_bits new_digests
follows_cleared H n bits digests new_bits new_digests before current_bits current_digests in_bits in_digests last_bits last_digests = record {
  current = rw (current_bits, current_digests) before.current;
  kept = λ k. rw (in_bits, in_digests) tt;
  last = last_digests ∙ before.last ∙ sym last_bits;
}

-- ---- a commit that is rewound to
both_there : (H : List ℕ → List ℕ) (n : ℕ) (a b : Option PrunedBits) (s t : PrunedBits) → AuthenticatesIf H n a b → a ≡ Some s → b ≡ Some t → Authenticates H n s t
both_there H n a b s t h is_s is_t = rw (is_s, is_t) at h

pub authenticated_at : {S : Type 0} (H : List ℕ → List ℕ) (n k : ℕ) (bits : View S) (digests : View ⊤) (s t : PrunedBits) → Follows H n bits digests
    → kept_under (history_of n bits) k ≡ Some s → kept_under (history_of 32 digests) k ≡ Some t → Authenticates H n s t
authenticated_at H n k bits digests s t f is_s is_t = both_there H n (kept_under (history_of n bits) k) (kept_under (history_of 32 digests) k) s t (f.kept k) is_s is_t

pub follows_rewound : (H : List ℕ → List ℕ) (n number : ℕ) (bits digests new_bits new_digests : View ⊤) → Follows H n bits digests
    → kept_under (history_of n bits) number ≡ Some new_bits.current → kept_under (history_of 32 digests) number ≡ Some new_digests.current
    → history_of n new_bits ≡ up_to_number number (history_of n bits) → history_of 32 new_digests ≡ up_to_number number (history_of 32 digests)
    → new_bits.last ≡ Some number → new_digests.last ≡ Some number → Follows H n new_bits new_digests
follows_rewound H n number bits digests new_bits new_digests before there_bits there_digests in_bits in_digests last_bits last_digests = record {
  current = authenticated_at H n number bits digests new_bits.current new_digests.current before there_bits there_digests;
  kept = λ k. rw (in_bits, in_digests) (kept_both H n (λ m. nat_le m number) k (history_of n bits) (history_of 32 digests) (before.kept k));
  last = last_digests ∙ sym last_bits;
}
