-- `of`: the call gives the session's pointer and allocator, which are the handle's fields.
use Rattle.std.proofs.Common.{◌≡◌, [], ◌∷◌, refl, sym}
use Rattle.std.specs.Prelude.{Some}
use Rattle.std.proofs.raw_atomic.Walks.{proved}
use base.Fml.{ftrue, flft}
use base.Fraction.{full_share}
use base.Logic.{emp, id⊢}
use contract.Monad.{fact, fact_i}
use contract.BorrowLft.{◌⊑◌}
use contract.Running.{tables}
use types.Kit.{‵, raw, ◌⊛◌, some, later, ◌$◌, ◌∵◌, !, qed, done, drop, keep, split, join, move, suffices, use1, use0, use2, await, pick, rewrite}
use types.Run.{enter, stop, fld, of_opd, no_more, and_then, returns}
use types.ByLocal.{alloc_all, pass_all, free_all, look_at, get, get_in, sets, lands_as}
use types.Part.{agg, sub, whole}
use types.Tokens.{lft_new}
use denote.Exit.{yes}
use denote.Param.NoDrop.{glues}
use denote.Signature.{plain}
use denote.RawPtr.{Ptr}
use Rattle.std.specs.declared.alloc.Global.{Global}
use denote.Triple.Clauses.{Lasts, lasts}
use denote.Steps.{nothing, heard}
use denote.Triple.Call.{calls_at}
use denote.Triple.Spec.{triple_of}
use denote.Triple.Table.{framed}
use denote.Triple.Walked.{Stays, walk_of, says, stay_dropped, ends_at}
use Rattle.core.proofs.alloc.Calls.{Goes-blank}
use Rattle.std.specs.contracts.alloc.Global.{the_row as Z}
use Rattle.std.proofs.alloc.Global.TheLaws as global
use Rattle.std.specs.contracts.impls.GlobalAllocator.TheImpl.{ghosts, dict}
use Rattle.std.proofs.impls.GlobalAllocator.TheImpl.Met.{passed}
use Rattle.bitmap_c.specs.contracts.any.AnySession.{the_row as R}
use Rattle.bitmap_c.proofs.any.AnySession.TheLaws as session
use Rattle.bitmap_c.proofs.handle.Handle.TheLaws as handle
use Rattle.bitmap_c.specs.declared.handle.Handle.{Handle}
use Rattle.bitmap_c.proofs.Handles.{R-arg, Z-arg, R-arg-laws, Z-arg-laws, Z-drop, R-drop, R-dropped, BoxRow, box_vals, box_Tells, PairRow, boxed, pair_typed, pointer_typed, pair_opened, filled, made}
use Rattle.bitmap_c.specs.contracts.handle.Handle.of as f
use Rattle.bitmap_c.proofs.handle.Handle.of.Statement.{statement}
use Rattle.bitmap_c.proofs.handle.Handle.of.Code as code
use Rattle.bitmap_c.proofs.Destruct++none.drop.Code as none
use Rattle.std_alloc.specs.contracts.boxed.Box.into_raw_with_allocator as g
use Rattle.std_alloc.proofs.boxed.Box.into_raw_with_allocator.Met as g_met

abbrev stayed : Stays f.ended.signature.params f.ended.kept
stayed = (stay_dropped (plain (λ _. BoxRow)) yes, tt)

pub of_spec : {M : Type 1} → statement M
unfolding none.code
of_spec {M} 𝓤 𝓛 𝓜 𝓡 wired =
    let c = f.clauses 𝓛 𝓜.mem 𝓡.returns in let W = walk_of 𝓛 f.ended stayed c in
    proved 𝓛 f.ended stayed c 𝓜 𝓡 (Goes-blank 𝓛 0 (plain (λ _. BoxRow)) yes (λ κs x w. tt), tt)
    f.Key.name code.function (code.unfolded 𝓤 𝓛.H 𝓜 𝓡 wired)
    (λ κs. (box_vals, tt)) (λ κs. (box_Tells, tt)) (λ κs qs bounds a _ are.
    let y : W.Ghost = ((κs, qs, bounds, a, (box_vals a.0, tt)), tt) in
    qed 𝓛 ((‵ ftrue ⊛ ‵ (BoxRow.own_val a.0 (box_vals a.0)) ⊛ ‵ ftrue) ∷ ‵ ftrue ∷ []) ∵ split ! $ move ! (1 ∷ []) $ split ! $
    enter ! _ _ _ _ _ $ alloc_all ! (λ l. pass_all ! refl (pair_typed a.0.ptr a.0.alloc, tt) $
    sets ! (of_opd ! (get ! refl)) refl (pair_typed a.0.ptr a.0.alloc) $
    lft_new ! tt (λ α. lft_new ! tt (λ β.
    let G = triple_of 𝓛 (g.signature R-arg Z-arg ghosts dict Z-drop R-drop) (g.spec R-arg Z-arg ghosts dict Z-drop R-drop 𝓛 𝓜.mem 𝓡.returns) in
    let z : G.Ghost = (((α ∷ [], (β ∷ [], tt)), (full_share, (full_share, tt)), tt, a, (box_vals a.0, tt)), tt) in
    nothing ! $ move ! (1 ∷ 0 ∷ []) $ join ! $ move ! (1 ∷ 0 ∷ []) $ join ! $ nothing ! $ move ! (2 ∷ 0 ∷ []) $ join ! $ move ! (1 ∷ 0 ∷ []) $ join ! $
    nothing ! $ use0 𝓛 (raw (fact 𝓤 ((β ∷ []) ⊑ Z.lives))) (fact_i 𝓤 _ (emp 𝓤) (global.the_within (β ∷ []))) $ join ! $
    use0 𝓛 (raw (fact 𝓤 ((α ∷ []) ⊑ R.lives))) (fact_i 𝓤 _ (emp 𝓤) (session.the_within (α ∷ []))) $ join ! $
    move ! (1 ∷ 0 ∷ []) $ use2 𝓛 (raw (G.pre z)) (id⊢ 𝓤 _) $
    calls_at ! (framed 𝓤 𝓛.H 𝓜 (tables 𝓤 𝓛.H 𝓜 𝓡 𝓡.env)) G
    (g_met.met 𝓤 𝓛 𝓜 𝓡 (code.calls-std_alloc::boxed::Box::into_raw_with_allocator 𝓡.env wired) R-arg Z-arg R-arg-laws Z-arg-laws ghosts dict Z-drop R-drop
    (passed 𝓡.env (code.calls-std_heap::GlobalAllocator::allocate 𝓡.env wired) (code.calls-std_heap::GlobalAllocator::deallocate 𝓡.env wired)
    (code.calls-std_heap::GlobalAllocator::grow 𝓡.env wired) (code.calls-std_heap::GlobalAllocator::shrink 𝓡.env wired) M 𝓤 𝓛 𝓜 𝓡)
    (glues "bitmap_c::Destruct++none::drop" 𝓡.env (code.calls-bitmap_c::Destruct++none::drop 𝓡.env wired) Z-arg Z-arg-laws M 𝓤 𝓛 𝓜 𝓡)
    (R-dropped 𝓤 𝓛 𝓜 𝓡 (code.calls-bitmap_c::bitmap_c++any++AnySession+Destruct::drop 𝓡.env wired))) z
    (and_then ! (get ! refl) (no_more !)) (λ v.
    use1 𝓛 (later (some (λ (r : Ptr × Global). ((‵ (flft (α ∷ []) full_share) ⊛ ‵ (flft (β ∷ []) full_share) ⊛ ‵ ftrue) ⊛ ‵ (PairRow.own_val r (v ∷ []))) ⊛
    some (λ (ws : Lasts (g.ended R-arg Z-arg ghosts dict Z-drop R-drop) z.0.0 a). ‵ (lasts (g.ended R-arg Z-arg ghosts dict Z-drop R-drop) z.0.0 a ws) ⊛ raw (fact 𝓤 (r.1 ≡ a.0.alloc)) ⊛ ‵ (boxed a.0.alloc r.0 a.0.value))))) (id⊢ 𝓤 _) $
    await ! tt $ pick ! (λ r. split ! $ split ! $ drop ! $ pair_opened ! r v (λ is.
    lands_as ! is refl (pair_typed r.0 r.1) $
    sets ! (of_opd ! (get_in ! (fld ! refl (stop !)) (sub ! 0 refl (whole !)))) refl (pointer_typed r.0) $
    sets ! (of_opd ! (get_in ! (fld ! refl (stop !)) (sub ! 1 refl (whole !)))) refl (tt, ((tt, tt), tt)) $
    sets ! (of_opd ! (get ! refl)) refl (pointer_typed r.0) $
    sets ! (agg ! (and_then ! (get ! refl) (and_then ! (get ! refl) (no_more !)))) refl (pair_typed r.0 r.1) $
    returns ! (look_at ! 0 refl) $ free_all ! refl $
    keep ! (1 ∷ 0 ∷ []) $ pick ! (λ ws. split ! $ drop ! $ split ! $ heard ! _ (λ same.
    rewrite ! 0 (λ (d : Global). ‵ (boxed d r.0 a.0.value)) (sym same) refl $ filled ! r.1 r.0 a.0.value $
    let h : Handle = record { session = r.0; alloc = r.1; value = Some a.0.value } in made ! h $
    suffices ! _ (ends_at 𝓛 f.ended stayed c y (handle.lowered h) h (tt, tt) (tt, tt)) $ says ! refl $
    nothing ! $ nothing ! $ join ! $ nothing ! $ done !)))))))))
