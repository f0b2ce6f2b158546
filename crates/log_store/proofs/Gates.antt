-- What a crash leaves while bytes are written behind a gate, and while a gate is closed.
use Rattle.std.proofs.Common.{◌≡◌, inl, inr, ⊎_elim, ℕ, ◌+◌, ◌<◌, ◌≤◌, List, [], ◌∷◌, ◌++◌, length, take, refl, sym, ap, subst, ◌∙◌, arith, append_assoc, length-append}
use Rattle.std.proofs.lemmas.List.{append-nil, take_at}
use Rattle.log_store.specs.Device.{MayTear, with_byte}
use Rattle.log_store.specs.Gate.{IsGated, IsShutting, closed}
use Rattle.log_store.specs.Moments.{LeavesOnly}
use Rattle.log_store.specs.declared.device.Device.{Ghosts}
use Rattle.log_store.proofs.Moments.{joined, weaker}
use Rattle.log_store.proofs.Tears.{append_torn, cut_torn, set_after, set_torn}

-- some bytes, and a byte and others after them
pub one_by_one : (good : List ℕ) (x : ℕ) (rest : List ℕ) → (good ++ x ∷ []) ++ rest ≡ good ++ x ∷ rest
one_by_one good x rest = append_assoc good (x ∷ []) rest

-- while the further bytes are appended
pub behind_gate : (good : List ℕ) (first : ℕ) (rest old c : List ℕ) → old ≡ good ++ closed ∷ [] → MayTear old (old ++ rest) c → IsGated good first rest c
behind_gate good first rest old c is torn =
    let grown = append_torn old rest c torn in
    inl (grown.more, grown.is ∙ ap (λ (x : List ℕ). x ++ grown.more) is ∙ one_by_one good closed grown.more, grown.few)

-- while the gate is opened
pub at_gate : (good : List ℕ) (first : ℕ) (rest old c : List ℕ) (at : ℕ) → old ≡ good ++ closed ∷ rest → at ≡ length good → MayTear old (with_byte at first old) c → IsGated good first rest c
at_gate good first rest old c at is at_is torn =
    let new : with_byte at first old ≡ good ++ first ∷ rest = ap (with_byte at first) is ∙ set_after good rest closed first at at_is in
    ⊎_elim (λ (same : c ≡ good ++ closed ∷ rest). inl (rest, same, omega arith)) (λ (whole : c ≡ good ++ first ∷ rest). inr whole)
    (set_torn good rest c closed first (subst (λ (x : List ℕ). MayTear x (good ++ first ∷ rest) c) is (subst (λ (x : List ℕ). MayTear old x c) new torn)))

module _ {D : Type 0} (g : Ghosts D) where
  -- after the further bytes are appended
  pub append_gated_leaves : (old mid : D) (good : List ℕ) (first : ℕ) (rest : List ℕ) → g.seen old ≡ good ++ closed ∷ [] → LeavesOnly g old mid (MayTear (g.seen old) (g.seen old ++ rest)) → LeavesOnly g old mid (IsGated good first rest)
  append_gated_leaves old mid good first rest is calls =
      weaker g old mid (MayTear (g.seen old) (g.seen old ++ rest)) (IsGated good first rest) calls (λ c torn. behind_gate good first rest (g.seen old) c is torn)

  -- and after the gate is opened
  pub gated_leaves : (old mid new : D) (good : List ℕ) (first : ℕ) (rest : List ℕ) (at : ℕ) → g.seen old ≡ good ++ closed ∷ [] → at ≡ length good → LeavesOnly g old mid (MayTear (g.seen old) (g.seen old ++ rest))
      → g.seen mid ≡ g.seen old ++ rest → LeavesOnly g mid new (MayTear (g.seen mid) (with_byte at first (g.seen mid))) → LeavesOnly g old new (IsGated good first rest)
  gated_leaves old mid new good first rest at is at_is one seen two =
      let there : g.seen mid ≡ good ++ closed ∷ rest = seen ∙ ap (λ (x : List ℕ). x ++ rest) is ∙ one_by_one good closed rest in
      joined g old mid new (MayTear (g.seen old) (g.seen old ++ rest)) (MayTear (g.seen mid) (with_byte at first (g.seen mid))) (IsGated good first rest) one two
      (λ c torn. behind_gate good first rest (g.seen old) c is torn) (λ c torn. at_gate good first rest (g.seen mid) c at there at_is torn)

-- ---- closing a gate

-- while it is appended
pub shut_after : (good rest old c : List ℕ) → old ≡ good ++ rest → length rest ≡ 0 → MayTear old (old ++ closed ∷ []) c → IsShutting good rest c
shut_after good [] old c is none torn =
    let grown = append_torn old (closed ∷ []) c torn in
    (grown.more, grown.is ∙ ap (λ (x : List ℕ). x ++ grown.more) (is ∙ append-nil good), inr (inl grown.few))
shut_after good (x ∷ rest) old c is none torn = absurd (omega (arith, none))

-- while it is set in the place of a byte
pub shut_over : (good rest old c : List ℕ) (x at : ℕ) → old ≡ good ++ x ∷ rest → at ≡ length good → MayTear old (with_byte at closed old) c → IsShutting good (x ∷ rest) c
shut_over good rest old c x at is at_is torn =
    let new : with_byte at closed old ≡ good ++ closed ∷ rest = ap (with_byte at closed) is ∙ set_after good rest x closed at at_is in
    ⊎_elim (λ (same : c ≡ good ++ x ∷ rest). (x ∷ rest, same, inl refl)) (λ (over : c ≡ good ++ closed ∷ rest). (closed ∷ rest, over, inr (inr (rest, refl, omega arith))))
    (set_torn good rest c x closed (subst (λ (y : List ℕ). MayTear y (good ++ closed ∷ rest) c) is (subst (λ (y : List ℕ). MayTear old y c) new torn)))

-- while the bytes after it are cut off
pub shut_cut : (good rest mid c : List ℕ) (x at : ℕ) → mid ≡ good ++ closed ∷ rest → at ≡ length good → MayTear mid (take (at + 1) mid) c → IsShutting good (x ∷ rest) c
shut_cut good rest mid c x at is at_is torn =
    let gate : List ℕ = good ++ closed ∷ [] in
    let whole : mid ≡ gate ++ rest = is ∙ sym (one_by_one good closed rest) in
    let cut : take (at + 1) mid ≡ gate = ap (take (at + 1)) whole ∙ take_at gate rest (at + 1) (omega (arith, at_is, length-append good (closed ∷ []))) in
    let grown = cut_torn gate rest c (subst (λ (y : List ℕ). MayTear (gate ++ rest) y c) cut (subst (λ (y : List ℕ). MayTear y (take (at + 1) mid) c) whole torn)) in
    (closed ∷ grown.more, grown.is ∙ one_by_one good closed grown.more, inr (inr (grown.more, refl, omega (arith, grown.few))))

module _ {D : Type 0} (g : Ghosts D) where
  -- while it is appended
  pub appended_leaves : (old new : D) (good rest : List ℕ) → g.seen old ≡ good ++ rest → length rest ≡ 0 → LeavesOnly g old new (MayTear (g.seen old) (g.seen old ++ closed ∷ [])) → LeavesOnly g old new (IsShutting good rest)
  appended_leaves old new good rest is none calls =
      weaker g old new (MayTear (g.seen old) (g.seen old ++ closed ∷ [])) (IsShutting good rest) calls (λ c torn. shut_after good rest (g.seen old) c is none torn)

  -- while it is set
  pub set_leaves : (old mid : D) (good rest : List ℕ) (at : ℕ) → g.seen old ≡ good ++ rest → at ≡ length good → 0 < length rest → LeavesOnly g old mid (MayTear (g.seen old) (with_byte at closed (g.seen old))) → LeavesOnly g old mid (IsShutting good rest)
  set_leaves old mid good [] at is at_is some calls = absurd (omega (arith, some))
  set_leaves old mid good (x ∷ rest) at is at_is some calls =
      weaker g old mid (MayTear (g.seen old) (with_byte at closed (g.seen old))) (IsShutting good (x ∷ rest)) calls (λ c torn. shut_over good rest (g.seen old) c x at is at_is torn)

  -- and while the bytes after it are cut off
  pub shut_leaves : (old mid new : D) (good rest : List ℕ) (at : ℕ) → g.seen old ≡ good ++ rest → at ≡ length good → 0 < length rest → LeavesOnly g old mid (MayTear (g.seen old) (with_byte at closed (g.seen old)))
      → g.seen mid ≡ with_byte at closed (g.seen old) → LeavesOnly g mid new (MayTear (g.seen mid) (take (at + 1) (g.seen mid))) → LeavesOnly g old new (IsShutting good rest)
  shut_leaves old mid new good [] at is at_is some one set two = absurd (omega (arith, some))
  shut_leaves old mid new good (x ∷ rest) at is at_is some one set two =
      let there : g.seen mid ≡ good ++ closed ∷ rest = set ∙ ap (with_byte at closed) is ∙ set_after good rest x closed at at_is in
      joined g old mid new (MayTear (g.seen old) (with_byte at closed (g.seen old))) (MayTear (g.seen mid) (take (at + 1) (g.seen mid))) (IsShutting good (x ∷ rest)) one two
      (λ c torn. shut_over good rest (g.seen old) c x at is at_is torn) (λ c torn. shut_cut good rest (g.seen mid) c x at there at_is torn)

  -- the bytes after the cut
  pub shut_seen : (old mid new : D) (good rest : List ℕ) (at : ℕ) → g.seen old ≡ good ++ rest → at ≡ length good → 0 < length rest → g.seen mid ≡ with_byte at closed (g.seen old) → g.seen new ≡ take (at + 1) (g.seen mid) → g.seen new ≡ good ++ closed ∷ []
  shut_seen old mid new good [] at is at_is some set cut = absurd (omega (arith, some))
  shut_seen old mid new good (x ∷ rest) at is at_is some set cut =
      let gate : List ℕ = good ++ closed ∷ [] in
      let there : g.seen mid ≡ gate ++ rest = set ∙ ap (with_byte at closed) is ∙ set_after good rest x closed at at_is ∙ sym (one_by_one good closed rest) in
      cut ∙ ap (take (at + 1)) there ∙ take_at gate rest (at + 1) (omega (arith, at_is, length-append good (closed ∷ [])))

  -- a byte that is set, and one byte more, are within the bytes
  pub set_within : (old mid : D) (good rest : List ℕ) (at : ℕ) → g.seen old ≡ good ++ rest → at ≡ length good → 0 < length rest → g.seen mid ≡ with_byte at closed (g.seen old) → at + 1 ≤ length (g.seen mid)
  set_within old mid good [] at is at_is some set = absurd (omega (arith, some))
  set_within old mid good (x ∷ rest) at is at_is some set =
      let there : g.seen mid ≡ good ++ closed ∷ rest = set ∙ ap (with_byte at closed) is ∙ set_after good rest x closed at at_is in
      omega (arith, at_is, ap length there, length-append good (closed ∷ rest))
