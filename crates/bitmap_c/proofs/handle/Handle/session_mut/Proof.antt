-- `session_mut` lends the session in its place, and the handle follows it.
use Rattle.std.proofs.Common.{◌≡◌, ℕ, List, [], ◌∷◌, refl, sym, lit<}
use Rattle.std.specs.Prelude.{None, Some}
use Rattle.std.proofs.raw_atomic.Walks.{proved}
use seplogic.Ra.Ura.{Ura}
use base.Fraction.{full_share}
use base.Logic.{ent, sep, never, fst∗}
use base.Fml.{GName, Fml, ftrue, fsep, fat, flft, fobs, fres}
use contract.Running.{tables}
use mir.Raw.{raw as bare}
use mir.Syntax.{named, ty_ptr}
use mir.Val.{Val, vptr, vnil, vcons}
use types.Logic.{Logic, sem}
use types.Kit.{‵, raw, ◌⊛◌, some, later, at_ret, ◌$◌, ◌∵◌, !, qed, done, keep, drop, split, join, group, move, suffices, use0, use1, await, pick, fsplit, fsplit3, fjoin, fpack, frame, rewrite}
use types.Run.{enter, stop, fld, load, of_opd, lit, bin, addr, no_more, and_then, first, blocks, branches, skips, exec, returns, returns_within}
use types.ByLocal.{alloc_all, pass_all, free_all, look_at, get, through, sets, sets_last, env, take_at, give_at}
use types.Part.{agg, sub, whole, look_in}
use types.Match.{live}
use denote.Exit.{no}
use denote.Follow.{follows, follows_by, Part, lends_Part}
use denote.Laws.{shows}
use denote.Memory.{cell_at, lone, mem, part_at, part_of}
use denote.RawPtr.{Ptr, block_ptr, in_a_block, null_ptr, ptr_val, tests_null}
use denote.RattleType.{RattleType}
use denote.Ref.{MutBor, MutRef, mut_vals, mut_Tells}
use denote.Signature.{plain, mut_ref_to, type_at}
use denote.Steps.{nothing, opens, closes, peeks}
use denote.Triple.Walked.{Stays, walk_of, says, stay_dropped, ends_at, Goes-spent_ref}
use Rattle.core.proofs.option.Made.{Some-of, none_of}
use Rattle.std.specs.contracts.alloc.Global.{the_row as Z}
use Rattle.std.proofs.alloc.Global.TheLaws as global
use Rattle.std.specs.contracts.impls.GlobalAllocator.TheImpl.{ghosts}
use Rattle.bitmap_c.specs.Lends.{with_session}
use Rattle.bitmap_c.specs.contracts.any.AnySession.{the_row as R}
use Rattle.bitmap_c.specs.contracts.handle.Handle.{the_row as B}
use Rattle.bitmap_c.proofs.handle.Handle.TheLaws as handle
use Rattle.bitmap_c.specs.declared.handle.Handle.{Handle}
use Rattle.bitmap_c.proofs.Handles.{boxed, filled, made, occupied, opened, pointer_typed, still_empty, testable}
use Rattle.bitmap_c.specs.contracts.handle.Handle.session_mut as f
use Rattle.bitmap_c.proofs.handle.Handle.session_mut.Statement.{statement}
use Rattle.bitmap_c.proofs.handle.Handle.session_mut.Code as code

abbrev stayed : Stays f.ended.signature.params f.ended.kept
stayed = (stay_dropped (mut_ref_to (0 ∷ []) tt (plain (λ _. B))) no, tt)

-- all of the handle but its session, which lies at b and o
abbrev Rest : Handle → (rb ro b o : ℕ) → Fml
Rest h rb ro b o =
    fsep (fsep (ghosts.dealloc_token h.alloc (bare (lone R.mir)) (block_ptr b o)) (Z.own_val h.alloc (global.lowered h.alloc ∷ [])))
    (cell_at full_share B.mir (handle.lowered h ∷ []) rb ro)

-- with any session at b and o it is the handle with that session
back : {M : Type 1} {𝓤 : Ura M} (𝓛 : Logic 𝓤) (h : Handle) (rb ro b o : ℕ) → h.session ≡ block_ptr b o
    → (w : R.Denot) → ent 𝓤 (sep 𝓤 (sem 𝓛 ((mem R).own_at w b o)) (sem 𝓛 (Rest h rb ro b o))) (sem 𝓛 ((mem B).own_at (with_session h w) rb ro))
unfolding part_of
back 𝓛 h rb ro b o e w =
    qed 𝓛 (‵ (part_at R full_share w b o) ∷ ‵ (Rest h rb ro b o) ∷ []) ∵ move ! (1 ∷ []) $ fsplit ! $ fsplit ! $ move ! (3 ∷ 0 ∷ []) $ fjoin ! $
    rewrite ! 0 (λ (p : Ptr). ‵ (boxed h.alloc p w)) (sym e) refl $ filled ! h.alloc h.session w $ made ! (with_session h w) $ move ! (1 ∷ 0 ∷ []) $ fjoin ! $
    fpack ! (List Val) (λ us. fsep (cell_at full_share B.mir us rb ro) (B.own_val (with_session h w) us)) (handle.lowered h ∷ []) $ done !

pub session_mut_spec : {M : Type 1} → statement M
unfolding follows_by
session_mut_spec {M} 𝓤 𝓛 𝓜 𝓡 wired =
    let c = f.clauses 𝓛 𝓜.mem 𝓡.returns in let W = walk_of 𝓛 f.ended stayed c in let 𝓣 = tables 𝓤 𝓛.H 𝓜 𝓡 𝓡.env in
    proved 𝓛 f.ended stayed c 𝓜 𝓡 (Goes-spent_ref 𝓛 1 (0 ∷ []) tt (plain (λ _. B)), tt)
    f.Key.name code.function (code.unfolded 𝓤 𝓛.H 𝓜 𝓡 wired)
    (λ κs. (mut_vals, tt)) (λ κs. (mut_Tells (named 0) κs.0 B, tt)) (λ κs qs bounds a _ are.
    let κ = κs.0 in let q = qs.0 in
    let rb = a.0.ref_ptr.0 in let ro = a.0.ref_ptr.1 in let γ = a.0.ghost_name in let h : Handle = a.0.now in
    let Lent : RattleType = MutRef (named 0) κ R in
    let y : W.Ghost = ((κs, qs, bounds, a, (mut_vals a.0, tt)), tt) in
    qed 𝓛 (((‵ (flft κ q) ⊛ ‵ ftrue) ⊛ ‵ ((MutRef (named 0) κ B).own_val a.0 (mut_vals a.0)) ⊛ ‵ ftrue) ∷ ‵ ftrue ∷ []) ∵
    split ! $ split ! $ move ! (2 ∷ []) $ split ! $ keep ! (0 ∷ 2 ∷ []) $
    enter ! _ _ _ _ _ $ alloc_all ! (λ l. pass_all ! refl ((tt, tt), tt) $
    fsplit3 ! $ move ! (1 ∷ 2 ∷ 3 ∷ []) $ opens ! tt B rb ro (λ us.
    move ! (1 ∷ []) $ peeks ! B _ (shows 𝓛 B) h us (λ is.
    let word = handle.lowers.val_is h us is in
    rewrite ! 0 (λ (vs : List Val). ‵ (B.own_val h vs)) word refl $ rewrite ! 1 (λ (vs : List Val). ‵ (cell_at full_share B.mir vs rb ro)) word refl $
    opened ! h $ testable ! h.alloc h.session h.value (λ t.
    -- [what the handle owns; its allocator; its cell; the open borrow; obs; auth]
    sets ! (of_opd ! (load ! (through ! refl (fld ! refl (stop !))) (look_in ! 2 (sub ! 0 refl (whole !))))) refl (pointer_typed h.session) $
    sets ! (bin ! (get ! refl) (lit ! tt) (tests_null h.session t)) refl (tt, tt) $
    first ! $ branches ! (get ! refl)
    (λ empty. still_empty ! h.alloc h.session h.value empty (λ none.
    made ! h $ move ! (1 ∷ []) $ closes ! tt B h (handle.lowered h ∷ []) rb ro $
    sets ! (agg ! (and_then ! (lit ! tt) (no_more !))) refl (tt, (record { fits = lit< tt }, tt)) $
    returns_within ! (W.post y) refl (look_at ! 0 refl) $ free_all ! refl $ keep ! (0 ∷ 2 ∷ []) $
    use1 𝓛 (‵ (fres γ (B.coded.code h))) (𝓛.names.obs-res γ (B.coded.code h)) $ move ! (1 ∷ []) $
    use0 𝓛 (‵ ((type_at f.signature.result κs).own_val None (live 0 vnil ∷ []))) (none_of 𝓛 Lent) $
    suffices ! _ (ends_at 𝓛 f.ended stayed c y (live 0 vnil) None (tt, tt) (tt, tt)) $
    nothing ! $ nothing ! $ fjoin ! $ join ! $ nothing ! $ move ! (2 ∷ 0 ∷ []) $ join ! $ join ! $ frame ! $ says ! (sym none) $ done !))
    (λ full. skips ! $ exec ! 𝓣.C 𝓣.Λ (env code.Mir.locals l) code.Mir.t-4 (at_ret (env code.Mir.locals l) (W.post y)) $ occupied ! h.alloc h.session h.value full (λ x some'.
    in_a_block ! h.session (λ p. boxed h.alloc p x) (fst∗ 𝓤 (never 𝓤) (sem 𝓛 (ghosts.dealloc_token h.alloc (bare (lone R.mir)) null_ptr))) (λ b o e. fsplit ! $
    take_at ! 2 $ rewrite ! 0 (λ (p : Ptr). ‵ (fat full_share ty_ptr (l 2) 0 (ptr_val p))) e refl $ give_at ! 2 $
    -- [the session; the right to free its block; the allocator; the cell; the open borrow; obs; auth]
    first ! $ blocks ! $ sets ! (of_opd ! (get ! refl)) refl (tt, tt) $ sets ! (addr ! (through ! refl (stop !))) refl (tt, tt) $
    sets_last ! (agg ! (and_then ! (lit ! tt) (and_then ! (get ! refl) (no_more !)))) refl (tt, (record { fits = lit< tt }, (tt, tt))) $
    exec ! 𝓣.C 𝓣.Λ (env code.Mir.locals l) code.Mir.t-5 (at_ret (env code.Mir.locals l) (W.post y)) $
    sets ! (of_opd ! (get ! refl)) refl (tt, (record { fits = lit< tt }, (tt, tt))) $
    move ! (1 ∷ 2 ∷ []) $ fjoin ! $ move ! (0 ∷ 2 ∷ []) $ fjoin ! $ move ! (2 ∷ 3 ∷ 4 ∷ 1 ∷ 0 ∷ []) $ group ! 5 $
    use1 𝓛 (later (some (λ (δ : GName). ‵ (Lent.own_val (record { ref_ptr = (b, o); ghost_name = δ; now = x }) (vptr b o ∷ [])) ⊛ ‵ (flft κ q) ⊛ ‵ (follows B R γ δ (with_session h)))))
    (lends_Part 𝓛 B R (with_session h) (named 0) κ q rb ro b o γ (sem 𝓛 (Rest h rb ro b o)) (back 𝓛 h rb ro b o e) (B.coded.code h) (B.coded.code h) x) $ await ! tt $ pick ! (λ δ.
    let r : MutBor R.Denot = record { ref_ptr = (b, o); ghost_name = δ; now = x } in
    let out : Val = live 1 (vcons (vptr b o) vnil) in
    returns ! (look_at ! 0 refl) $ free_all ! refl $ keep ! (0 ∷ []) $ split ! $ move ! (1 ∷ []) $ split ! $ move ! (2 ∷ []) $
    use1 𝓛 (‵ ((type_at f.signature.result κs).own_val (Some r) (out ∷ []))) (Some-of 𝓛 Lent r (vptr b o)) $
    suffices ! _ (ends_at 𝓛 f.ended stayed c y out (Some r) (tt, tt) (tt, tt)) $
    nothing ! $ nothing ! $ fjoin ! $ join ! $ nothing ! $ move ! (2 ∷ 0 ∷ []) $ join ! $ join ! $ frame ! $ says ! (sym some') $ done !)))))))))
