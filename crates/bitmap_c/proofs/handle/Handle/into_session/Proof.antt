-- `into_session`: a null pointer is of an empty handle, and any other is made a box by the call.
use Rattle.std.proofs.Common.{◌≡◌, [], ◌∷◌, refl, sym, ap, ◌∙◌, List}
use Rattle.std.specs.Prelude.{None, Some}
use Rattle.std.proofs.raw_atomic.Walks.{proved}
use lib.Dec.{lit<}
use base.Fml.{ftrue, flft}
use base.Fraction.{full_share}
use base.Logic.{emp, id⊢}
use mir.Val.{Val, vnil, vcons}
use contract.Monad.{fact, fact_i}
use contract.BorrowLft.{◌⊑◌}
use contract.Running.{tables}
use types.Kit.{‵, raw, ◌⊛◌, some, later, at_ret, ◌$◌, ◌∵◌, !, qed, done, drop, keep, split, join, move, suffices, use1, use0, use2, feq_i, await, pick, rewrite}
use types.Run.{enter, stop, fld, of_opd, lit, bin, no_more, and_then, first, branches, skips, blocks, exec, returns, returns_within}
use types.ByLocal.{alloc_all, pass_all, free_all, look_at, get, get_in, sets, lands_as, sets_last, env}
use types.Part.{agg, sub, whole}
use types.Tokens.{lft_new}
use denote.Exit.{yes}
use denote.Param.NoDrop.{glues}
use denote.Signature.{plain, type_at}
use types.Match.{live}
use Rattle.core.proofs.option.Made.{Some-of, none_of}
use denote.RawPtr.{ptr_val, tests_null}
use denote.Triple.Clauses.{Lasts, lasts}
use denote.Steps.{nothing, heard, only, peeks}
use denote.Laws.{shows}
use denote.Triple.Call.{calls_at}
use denote.Triple.Spec.{triple_of}
use denote.Triple.Table.{framed}
use denote.Triple.Walked.{Stays, walk_of, says, stay_dropped, ends_at}
use Rattle.core.proofs.alloc.Calls.{Goes-blank}
use Rattle.std.specs.contracts.alloc.Global.{the_row as Z}
use Rattle.std.proofs.alloc.Global.TheLaws as global
use Rattle.std.specs.contracts.impls.GlobalAllocator.TheImpl.{ghosts, dict}
use Rattle.std.proofs.impls.GlobalAllocator.TheImpl.Met.{passed}
use Rattle.bitmap_c.specs.contracts.any.AnySession.{the_row as R}
use Rattle.bitmap_c.proofs.any.AnySession.TheLaws as session
use Rattle.bitmap_c.specs.contracts.handle.Handle as handle
use Rattle.bitmap_c.proofs.handle.Handle.TheLaws as handle_laws
use Rattle.bitmap_c.specs.declared.handle.Handle.{Handle}
use Rattle.bitmap_c.proofs.Handles.{R-arg, Z-arg, paired, some_typed, box_Tells, emptied, occupied, R-arg-laws, Z-arg-laws, Z-drop, BoxRow, pair_typed, pointer_typed, opened, testable}
use Rattle.bitmap_c.specs.contracts.handle.Handle.into_session as f
use Rattle.bitmap_c.proofs.handle.Handle.into_session.Statement.{statement}
use Rattle.bitmap_c.proofs.handle.Handle.into_session.Code as code
use Rattle.bitmap_c.proofs.Destruct++none.drop.Code as none
use Rattle.std_alloc.specs.contracts.boxed.Box.from_raw as g
use Rattle.std_alloc.proofs.boxed.Box.from_raw.Met as g_met

abbrev stayed : Stays f.ended.signature.params f.ended.kept
stayed = (stay_dropped (plain (λ _. handle.the_row)) yes, tt)

pub into_session_spec : {M : Type 1} → statement M
unfolding none.code
into_session_spec {M} 𝓤 𝓛 𝓜 𝓡 wired =
    let c = f.clauses 𝓛 𝓜.mem 𝓡.returns in let W = walk_of 𝓛 f.ended stayed c in let 𝓣 = tables 𝓤 𝓛.H 𝓜 𝓡 𝓡.env in
    proved 𝓛 f.ended stayed c 𝓜 𝓡 (Goes-blank 𝓛 0 (plain (λ _. handle.the_row)) yes (λ κs x w. tt), tt)
    f.Key.name code.function (code.unfolded 𝓤 𝓛.H 𝓜 𝓡 wired)
    (λ κs. ((λ d. handle_laws.lowered d ∷ []), tt)) (λ κs. (handle_laws.lowers.val_is, tt)) (λ κs qs bounds a _ are.
    let h : Handle = a.0 in
    let y : W.Ghost = ((κs, qs, bounds, a, (handle_laws.lowered h ∷ [], tt)), tt) in
    qed 𝓛 ((‵ ftrue ⊛ ‵ (handle.the_row.own_val h (handle_laws.lowered h ∷ [])) ⊛ ‵ ftrue) ∷ ‵ ftrue ∷ []) ∵ split ! $ move ! (1 ∷ []) $ split ! $
    opened ! h $ testable ! h.alloc h.session h.value (λ t.
    enter ! _ _ _ _ _ $ alloc_all ! (λ l. pass_all ! refl (pair_typed h.session h.alloc, tt) $
    sets ! (of_opd ! (get_in ! (fld ! refl (stop !)) (sub ! 0 refl (whole !)))) refl (pointer_typed h.session) $
    sets ! (of_opd ! (get_in ! (fld ! refl (stop !)) (sub ! 1 refl (whole !)))) refl (tt, ((tt, tt), tt)) $
    sets ! (bin ! (get ! refl) (lit ! tt) (tests_null h.session t)) refl (tt, tt) $
    first ! $ branches ! (get ! refl)
    (λ empty. emptied ! h.alloc h.session h.value empty (λ none.
    sets ! (agg ! (and_then ! (lit ! tt) (no_more !))) refl (tt, (record { fits = lit< tt }, tt)) $
    returns_within ! (W.post y) refl (look_at ! 0 refl) $ free_all ! refl $ keep ! [] $
    use0 𝓛 (‵ ((type_at f.signature.result κs).own_val None (live 0 vnil ∷ []))) (none_of 𝓛 BoxRow) $
    suffices ! _ (ends_at 𝓛 f.ended stayed c y (live 0 vnil) None (tt, tt) (tt, tt)) $ says ! (sym none) $
    nothing ! $ nothing ! $ join ! $ nothing ! $ done !))
    (λ full. skips ! $ exec ! 𝓣.C 𝓣.Λ (env code.Mir.locals l) code.Mir.t-5 (at_ret (env code.Mir.locals l) (W.post y)) $ occupied ! h.alloc h.session h.value full (λ x some'.
    first ! $ blocks ! $ sets ! (of_opd ! (get ! refl)) refl (pointer_typed h.session) $
    lft_new ! tt (λ α. lft_new ! tt (λ β.
    let G = triple_of 𝓛 (g.signature R-arg Z-arg ghosts dict Z-drop) (g.spec R-arg Z-arg ghosts dict Z-drop 𝓛 𝓜.mem 𝓡.returns) in
    let z : G.Ghost = (((α ∷ [], (β ∷ [], tt)), (full_share, (full_share, tt)), tt, (h.alloc, (h.session, tt)), (global.lowered h.alloc ∷ [], (ptr_val h.session ∷ [], tt))), x) in
    nothing ! $ move ! (1 ∷ 0 ∷ []) $ join ! $ move ! (1 ∷ 0 ∷ []) $ join ! $
    nothing ! $ feq_i ! (List Val) (ptr_val h.session ∷ []) _ refl $ join ! $ move ! (3 ∷ 0 ∷ []) $ join ! $ move ! (1 ∷ 0 ∷ []) $ join ! $ move ! (1 ∷ []) $
    use0 𝓛 (raw (fact 𝓤 ((β ∷ []) ⊑ Z.lives))) (fact_i 𝓤 _ (emp 𝓤) (global.the_within (β ∷ []))) $ join ! $
    use0 𝓛 (raw (fact 𝓤 ((α ∷ []) ⊑ R.lives))) (fact_i 𝓤 _ (emp 𝓤) (session.the_within (α ∷ []))) $ join ! $
    move ! (1 ∷ 0 ∷ []) $ use2 𝓛 (raw (G.pre z)) (id⊢ 𝓤 _) $
    calls_at ! (framed 𝓤 𝓛.H 𝓜 𝓣) G
    (g_met.met 𝓤 𝓛 𝓜 𝓡 (code.calls-std_alloc::boxed::Box::from_raw 𝓡.env wired) R-arg Z-arg R-arg-laws Z-arg-laws ghosts dict Z-drop
    (passed 𝓡.env (code.calls-std_heap::GlobalAllocator::allocate 𝓡.env wired) (code.calls-std_heap::GlobalAllocator::deallocate 𝓡.env wired)
    (code.calls-std_heap::GlobalAllocator::grow 𝓡.env wired) (code.calls-std_heap::GlobalAllocator::shrink 𝓡.env wired) M 𝓤 𝓛 𝓜 𝓡)
    (glues "bitmap_c::Destruct++none::drop" 𝓡.env (code.calls-bitmap_c::Destruct++none::drop 𝓡.env wired) Z-arg Z-arg-laws M 𝓤 𝓛 𝓜 𝓡)) z
    (and_then ! (get ! refl) (and_then ! (get ! refl) (no_more !))) (λ v.
    use1 𝓛 (later (some (λ (r : BoxRow.Denot). ((‵ (flft (α ∷ []) full_share) ⊛ ‵ (flft (β ∷ []) full_share) ⊛ ‵ ftrue) ⊛ ‵ (BoxRow.own_val r (v ∷ []))) ⊛
    some (λ (ws : Lasts (g.ended R-arg Z-arg ghosts dict Z-drop) z.0.0 z.0.3). ‵ (lasts (g.ended R-arg Z-arg ghosts dict Z-drop) z.0.0 z.0.3 ws) ⊛ raw (fact 𝓤 (r.value ≡ x)) ⊛ raw (fact 𝓤 (r.alloc ≡ h.alloc)))))) (id⊢ 𝓤 _) $
    await ! tt $ pick ! (λ r. split ! $ split ! $ drop ! $
    peeks ! BoxRow _ (shows 𝓛 BoxRow) r (v ∷ []) (λ is. let low = box_Tells r (v ∷ []) is in let w : Val = paired r.ptr r.alloc in let out : Val = live 1 (vcons w vnil) in
    rewrite ! 0 (λ (vs : List Val). ‵ (BoxRow.own_val r vs)) low refl $
    lands_as ! (ap only low) refl (pair_typed r.ptr r.alloc) $
    sets_last ! (agg ! (and_then ! (lit ! tt) (and_then ! (get ! refl) (no_more !)))) refl (some_typed r.ptr r.alloc) $
    exec ! 𝓣.C 𝓣.Λ (env code.Mir.locals l) code.Mir.t-6 (at_ret (env code.Mir.locals l) (W.post y)) $
    sets ! (of_opd ! (get ! refl)) refl (some_typed r.ptr r.alloc) $
    returns ! (look_at ! 0 refl) $ free_all ! refl $
    keep ! (1 ∷ 0 ∷ []) $ pick ! (λ ws. split ! $ drop ! $ split ! $ heard ! _ (λ held. drop ! $
    use1 𝓛 (‵ ((type_at f.signature.result κs).own_val (Some r) (out ∷ []))) (Some-of 𝓛 BoxRow r w) $
    suffices ! _ (ends_at 𝓛 f.ended stayed c y out (Some r) (tt, tt) (tt, tt)) $ says ! (ap Some held ∙ sym some') $
    nothing ! $ nothing ! $ join ! $ nothing ! $ done !))))))))))))
