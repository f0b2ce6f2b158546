-- One more content among those that a device has had, and what a crash may leave after each call.
use Rattle.std.proofs.Common.{◌≡◌, ◌⊎◌, inl, inr, ⊎_elim, ℕ, zero, suc, ◌≤◌, List, [], ◌∷◌, ◌++◌, length, drop, Option, Some, None, Vec, refl, sym, subst, arith, length-append}
use Rattle.std.specs.Option.{unwrap_or}
use Rattle.std.specs.declared.alloc.Global.{Global}
use Rattle.log_store.specs.Device.{Elapses, MayTear, Only}
use Rattle.log_store.specs.Past.{HadBeen, MayLeave, Since, kept_before}
use Rattle.log_store.proofs.Tears.{as_after, as_before}

abbrev Content : Type 0
Content = Vec ℕ Global × Option (Vec ℕ Global)

-- what a past content could leave
abbrev Left : Content → List ℕ → Type 0
Left v c = MayLeave (kept_before v.1) v.0.items c

-- what a past content could leave, it could leave still
keeps : (past : List Content) (v : Content) (c : List ℕ) → HadBeen past c → HadBeen (past ++ v ∷ []) c
keeps [] v c had = absurd had
keeps (p ∷ past) v c (inl here) = inl here
keeps (p ∷ past) v c (inr there) = inr (keeps past v c there)

-- what one more content adds
adds : (past : List Content) (v : Content) (c : List ℕ) → HadBeen (past ++ v ∷ []) c → HadBeen past c ⊎ Left v c
adds [] v c (inl here) = inr here
adds [] v c (inr none) = absurd none
adds (p ∷ past) v c (inl here) = inl (inl here)
adds (p ∷ past) v c (inr there) = ⊎_elim (λ had. inl (inr had)) (λ new. inr new) (adds past v c there)

-- the last content could leave this
newest : (past : List Content) (v : Content) (c : List ℕ) → Left v c → HadBeen (past ++ v ∷ []) c
newest [] v c is = inl is
newest (p ∷ past) v c is = inr (newest past v c is)

drop_push : (t : ℕ) (past : List Content) (v : Content) → t ≤ length past → drop t (past ++ v ∷ []) ≡ drop t past ++ v ∷ []
drop_push zero past v le = refl
drop_push (suc t) [] v le = absurd (omega arith)
drop_push (suc t) (p ∷ past) v le = drop_push t past v (omega arith)

-- nothing has happened
pub elapses_same : (past : List Content) (before : Option (Vec ℕ Global)) (bytes : List ℕ) → Elapses (length past) (length past) (Since past before bytes) (Since past before bytes) (MayLeave (kept_before before) bytes)
elapses_same past before bytes = record { later = omega arith; nothing_else = λ t c le left. inl left; keeps = λ t c le left. left }

-- the present content, as the last of the past ones
is_past : (v : Content) (before : Option (Vec ℕ Global)) (old : List ℕ) → v.0.items ≡ old → kept_before v.1 ≡ kept_before before → (c : List ℕ) → Left v c ≡ MayLeave (kept_before before) old c
is_past v before old is same c = λ i. MayLeave (same i) (is i) c

-- one content more is a past one
elapses_push : (past : List Content) (v : Content) (old new : List ℕ) (before after : Option (Vec ℕ Global)) → v.0.items ≡ old → kept_before v.1 ≡ kept_before before
    → Elapses (length past) (length (past ++ v ∷ [])) (Since past before old) (Since (past ++ v ∷ []) after new) (MayLeave (kept_before after) new)
elapses_push past v old new before after is same = record {
  later = omega (arith, length-append past (v ∷ []));
  nothing_else = λ t c le left. ⊎_elim (λ now. inr now) (λ had. inl (was t c (adds (drop t past) v c (subst (λ (l : List Content). HadBeen l c) (drop_push t past v le) had)))) left;
  keeps = λ t c le left. inr (subst (λ (l : List Content). HadBeen l c) (sym (drop_push t past v le)) (⊎_elim (λ now. newest (drop t past) v c (subst (λ (X : Type 0). X) (sym (is_past v before old is same c)) now)) (keeps (drop t past) v c) left));
}
  where
    was : (t : ℕ) (c : List ℕ) → HadBeen (drop t past) c ⊎ Left v c → Since past before old t c
    was t c (inl had) = inr had
    was t c (inr new) = inl (subst (λ (X : Type 0). X) (is_past v before old is same c) new)

pub elapses_to : (past later : List Content) (v : Content) (old new : List ℕ) (before after : Option (Vec ℕ Global)) → v.0.items ≡ old → kept_before v.1 ≡ kept_before before → later ≡ past ++ v ∷ []
    → Elapses (length past) (length later) (Since past before old) (Since later after new) (MayLeave (kept_before after) new)
elapses_to past later v old new before after is same to =
    subst (λ (l : List Content). Elapses (length past) (length l) (Since past before old) (Since l after new) (MayLeave (kept_before after) new)) (sym to) (elapses_push past v old new before after is same)

-- a change of bytes that were all kept: what was kept before it is what was there
pub change_tears : (before after : Option (Vec ℕ Global)) (old new c : List ℕ) → kept_before after ≡ Some (unwrap_or (kept_before before) old) → Only old (MayLeave (kept_before before) old) → MayLeave (kept_before after) new c → MayTear old new c
change_tears None after old new c is only left = subst (λ (x : Option (List ℕ)). MayLeave x new c) is left
change_tears (Some bytes) after old new c is only left =
    subst (λ (x : List ℕ). MayTear x new c) (only bytes.items (as_before bytes.items old)) (subst (λ (x : Option (List ℕ)). MayLeave x new c) is left)

-- a call that failed
pub same_tears : (before : Option (Vec ℕ Global)) (old new c : List ℕ) → Only old (MayLeave (kept_before before) old) → MayLeave (kept_before before) old c → MayTear old new c
same_tears before old new c only left = subst (λ (x : List ℕ). MayTear old new x) (sym (only c left)) (as_before old new)

-- after a sync
pub sync_keeps : (before : Option (Vec ℕ Global)) (old c : List ℕ) → c ≡ old → MayLeave (kept_before before) old c
sync_keeps None old c is = is
sync_keeps (Some bytes) old c is = subst (MayTear bytes.items old) (sym is) (as_after bytes.items old)
