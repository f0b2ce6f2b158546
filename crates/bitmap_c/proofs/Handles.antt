-- What the proofs of `Handle::empty`, `Handle::of` and `Handle::into_session` share: machine values, and steps over what a handle owns.
-- `R` is the type of a session, and `Z` the type of its allocator.
use Rattle.std.proofs.Common.{w8, ◌≡◌, List, [], ◌∷◌, ◌++◌, refl, ap, ◌∙◌}
use Rattle.std.specs.Prelude.{Option, None, Some}
use seplogic.Ra.Ura.{Ura}
use lib.Dec.{T, lit<}
use mathlib.Core.Bool.{true, not, ◌&&◌}
use mir.Syntax.{Dict, ty_ptr, impl, tcons, tnil, dnil, method, no_args}
use prog.Model.{Model}
use prog.Wired.{Wired}
use contract.Running.{Running}
use borrow.Fn.Glue.{glue_by, glue_ps}
use borrow.Fn.Impl.{via_longer, method_Known}
use borrow.Fn.Kinds.{ended_of, r_unit, stays}
use borrow.Fn.Run.{Over}
use borrow.Fn.World.{World}
use denote.Param.Glue.{Met}
use denote.Triple.Carry.{AllWithin}
use denote.Triple.Clauses.{Ended, Lasts, lasts, at_exit}
use denote.Triple.Walked.{Fit}
use Rattle.bitmap_c.proofs.bitmap_c++any++AnySession+Destruct.drop.Kinds as kinds
use Rattle.bitmap_c.proofs.bitmap_c++any++AnySession+Destruct.drop.Met as dropped_met
use Rattle.bitmap_c.proofs.bitmap_c++any++AnySession+Destruct.drop.Reads as reads
use Rattle.bitmap_c.proofs.bitmap_c++any++AnySession+Destruct.drop.Symbol as symbol
use base.Fml.{Fml, ffalse}
use base.Logic.{guard_i, never_e}
use mir.Raw.{raw}
use mir.Val.{Val, Fits, WT, has_ty_of, ptr_same, vnull, of_list, vcons, vnil, vstruct}
use types.Logic.{Logic}
use contract.Monad.{fact, fact_use}
use types.Kit.{Item, Goal, Seq, Step, step, ‵, given, learn, raw as raw_item, use1, ◌$◌, drop, move, fsplit, fjoin, fpick, fpack, feq_i, feq_l, rewrite}
use denote.Laws.{Is, Tells, shows}
use denote.Builtin.{RawPtr}
use denote.Exit.{no}
use denote.Param.{arg, layout, param}
use denote.Param.Laws.{Laws, arg_laws}
use denote.Memory.{lone}
use denote.RattleType.{RattleType, Valss}
use denote.RawPtr.{Ptr, block_ptr, null_ptr, ptr_val, Testable}
use denote.Steps.{nothing, only, heard, peeks}
use denote.Struct.Owning.{shape, to}
use denote.Struct.Struct.{within}
use denote.Struct.Tuple.{Tuple}
use Rattle.std.specs.Box.Ownership.{box_owns}
use Rattle.std.specs.declared.alloc.Global.{Global}
use Rattle.std.specs.contracts.impls.GlobalAllocator.TheImpl.{ghosts}
use Rattle.std.specs.contracts.alloc.Global.{the_row as Z}
use Rattle.std.proofs.GlobalToken.{dealloc_token-Testable}
use Rattle.std.proofs.alloc.Global.TheLaws as global
use Rattle.std_alloc.specs.contracts.boxed.Box as box
use Rattle.std_alloc.proofs.boxed.Box.TheLaws as box_laws
use Rattle.bitmap_c.specs.Handles.{owned}
use Rattle.bitmap_c.specs.contracts.any.AnySession.{the_row as R}
use Rattle.bitmap_c.proofs.any.AnySession.TheLaws as session
use Rattle.bitmap_c.specs.contracts.handle.Handle.{the_row, the_type}
use Rattle.bitmap_c.specs.declared.handle.Handle.{Handle}
use Rattle.bitmap_c.proofs.handle.Handle.TheLaws.{lowered}

-- a session and its allocator, as type arguments of a call
abbrev pub R-arg : RattleType
R-arg = arg (raw (layout R)) no R

abbrev pub Z-arg : RattleType
Z-arg = arg (raw (layout Z)) no Z

abbrev pub R-arg-laws : Laws R-arg
R-arg-laws = arg_laws (raw (layout R)) no R session.the_row_laws refl

abbrev pub Z-arg-laws : Laws Z-arg
Z-arg-laws = arg_laws (raw (layout Z)) no Z global.the_row_laws refl

-- the functions that drop an allocator and a session
abbrev pub Z-drop : Dict
Z-drop = impl ("bitmap_c::Destruct++none::drop" ∷ []) (tcons (layout Z-arg) tnil) dnil

abbrev pub R-drop : Dict
R-drop = impl ("bitmap_c::bitmap_c++any++AnySession+Destruct::drop" ∷ []) tnil dnil

-- a session's drop, at its return
abbrev drops : Ended
drops = ended_of 0 kinds.ps kinds.r

-- a session's drop meets what a generic function asks of it
pub R-dropped : {M : Type 1} (𝓤 : Ura M) (𝓛 : Logic 𝓤) (𝓜 : Model 𝓤 𝓛.H) (𝓡 : Running 𝓤 𝓛.H 𝓜) → Wired 𝓡.env symbol.code → Met 𝓛 𝓜 𝓡 𝓡.env R-arg R-drop
R-dropped {M} 𝓤 𝓛 𝓜 𝓡 wired =
    let W : World = record { M = M; 𝓤 = 𝓤; 𝓛 = 𝓛; 𝓜 = 𝓜; 𝓡 = 𝓡 } in
    glue_by R-arg R-arg-laws W R-drop 𝓡.env
    (λ κs a. Lasts drops tt a) (λ κs a. lasts drops tt a) (λ κs a x ws. Fit drops (stays kinds.ps) tt a ws × reads.Learnt tt a x (at_exit drops tt a ws))
    (λ κs a. AllWithin 1 (κs.0, tt) (R-arg.lives, tt) × Unit {0}) 0 tt (λ κs a h. ((h, tt), tt))
    (via_longer 𝓛 (Over 𝓛 𝓜 𝓡 𝓡.env) 1 (glue_ps R-arg R-arg-laws) r_unit
    (λ κs a. Lasts drops tt a) (λ κs a. lasts drops tt a) (λ κs a x ws. Fit drops (stays kinds.ps) tt a ws × reads.Learnt tt a x (at_exit drops tt a ws))
    (λ κs a. AllWithin 1 (κs.0, tt) (R-arg.lives, tt) × Unit {0}) (method R-drop 0 no_args) 0 tt (λ κs. tt) (λ κs a. reads.Asked tt a) (λ κs a p. (tt, tt))
    (λ κs bd within a vss qs. method_Known 0 kinds.ps kinds.r reads.requires reads.ensures reads.Asked reads.Learnt reads.known W symbol.name (method R-drop 0 no_args)
    (symbol.as_method 𝓡.env wired (method R-drop 0 no_args) refl) (dropped_met.met 𝓤 𝓛 𝓜 𝓡 wired) ((tt, qs, tt, a, vss), tt)))

-- a box, and its machine values
abbrev pub BoxRow : RattleType
BoxRow = box.the_row R Z ghosts

abbrev pub box_vals : BoxRow.Denot → List Val
box_vals d = box_laws.lowered R Z ghosts session.the_row_laws global.the_row_laws global.the_told d ∷ []

pub box_Tells : Tells BoxRow (Is BoxRow) box_vals
box_Tells = (box_laws.lowers R Z ghosts session.the_row_laws global.the_row_laws global.the_told).val_is

-- a pointer and an allocator, as a call returns them
abbrev pub PairRow : RattleType
PairRow = Tuple (RawPtr ∷ param 1 Z-arg ∷ [])

-- the machine value of a pointer and an allocator
abbrev pub paired : Ptr → Global → Val
paired p a = vstruct (vcons (ptr_val p) (vcons (global.lowered a) vnil))

-- ownership of a session in its allocation
abbrev pub boxed : Global → Ptr → R.Denot → Fml
boxed a = box_owns (ghosts.dealloc_token a) R

-- the machine value of a pointer has its type, and so have those of a pointer and an allocator, and of a box in `Some`
pub pointer_typed : (p : Ptr) → T (has_ty_of ty_ptr (ptr_val p)) × WT (ptr_val p)
pointer_typed null_ptr = (tt, record { fits = lit< tt })
pointer_typed (block_ptr b o) = (tt, tt)

pub pair_typed : (p : Ptr) (a : Global) → T (has_ty_of ty_ptr (ptr_val p) && true) × (WT (ptr_val p) × (WT (global.lowered a) × Unit {0}))
pair_typed null_ptr a = (tt, (record { fits = lit< tt }, (((tt, tt), tt), tt)))
pair_typed (block_ptr b o) a = (tt, (tt, (((tt, tt), tt), tt)))

pub some_typed : (p : Ptr) (a : Global) → T ((has_ty_of ty_ptr (ptr_val p) && true) && true) × (Fits w8 1 × ((WT (ptr_val p) × (WT (global.lowered a) × Unit {0})) × Unit {0}))
some_typed null_ptr a = (tt, (record { fits = lit< tt }, ((record { fits = lit< tt }, (((tt, tt), tt), tt)), tt)))
some_typed (block_ptr b o) a = (tt, (record { fits = lit< tt }, ((tt, (((tt, tt), tt), tt)), tt)))

module _ {M : Type 1} {𝓤 : Ura M} {𝓛 : Logic 𝓤} {K : Type 0} {Γ : List (Item 𝓤)} {G : Goal 𝓤 𝓛.H} where
  -- a handle is split into its allocator and what it owns
  pub opened : K → (h : Handle)
      → Step K 𝓛 (‵ (owned R h.alloc h.session h.value) ∷ ‵ (Z.own_val h.alloc (global.lowered h.alloc ∷ [])) ∷ Γ) G (‵ (the_row.own_val h (lowered h ∷ [])) ∷ Γ) G
  opened k h = step (λ s. fsplit k $ fpick k (λ vss. fsplit k $ drop k $ fsplit k $ drop k $ fsplit k $
      peeks k Z _ (shows 𝓛 Z) h.alloc vss.1.0 (λ is. rewrite k 0 (λ (vs : List Val). ‵ (Z.own_val h.alloc vs)) (global.lowers.val_is h.alloc vss.1.0 is) refl $
      move k (1 ∷ []) $ drop k $ move k (1 ∷ []) $ s)))

  -- a handle is made of the two
  pub made : K → (h : Handle)
      → Step K 𝓛 (‵ (the_row.own_val h (lowered h ∷ [])) ∷ Γ) G (‵ (owned R h.alloc h.session h.value) ∷ ‵ (Z.own_val h.alloc (global.lowered h.alloc ∷ [])) ∷ Γ) G
  made k h = step (λ s. nothing k $ move k (2 ∷ 0 ∷ []) $ fjoin k $ feq_i k (List Val) (ptr_val h.session ∷ []) _ refl $ fjoin k $
      feq_i k (List Val) (lowered h ∷ []) _ refl $ fjoin k $
      fpack k (Valss (shape the_type).fields) (within (shape the_type) (to the_type h) (lowered h ∷ [])) (ptr_val h.session ∷ [], (global.lowered h.alloc ∷ [], tt)) $ fjoin k $ s)

  -- a returned pair is split into its machine value and its allocator
  pub pair_opened : K → (r : Ptr × Global) (v : Val)
      → (v ≡ paired r.0 r.1 → Seq K 𝓛 (‵ (Z.own_val r.1 (global.lowered r.1 ∷ [])) ∷ Γ) G)
      → Seq K 𝓛 (‵ (PairRow.own_val r (v ∷ [])) ∷ Γ) G
  pair_opened k r v s = fpick k (λ vss. fsplit k $ feq_l k (λ whole. fsplit k $ feq_l k (λ first. fsplit k $
      peeks k Z _ (shows 𝓛 Z) r.1 vss.1.0 (λ is. let second = global.lowers.val_is r.1 vss.1.0 is in
      rewrite k 0 (λ (vs : List Val). ‵ (Z.own_val r.1 vs)) second refl $ move k (1 ∷ []) $ drop k $
      s (ap only whole ∙ ap (λ (vs : List Val). vstruct (of_list (vs ++ (vss.1.0 ++ [])))) first ∙ ap (λ (vs : List Val). vstruct (of_list (ptr_val r.0 ∷ (vs ++ [])))) second)))))

  -- a session in its allocation is what a full handle owns
  pub filled : K → (a : Global) (p : Ptr) (x : R.Denot) → Step K 𝓛 (‵ (owned R a p (Some x)) ∷ Γ) G (‵ (boxed a p x) ∷ Γ) G
  filled k a null_ptr x = step (λ s. fsplit k $ move k (1 ∷ []) $ drop k $ s)
  filled k a (block_ptr b o) x = step (λ s. s)

  -- a pointer to an owned session may be compared with null
  pub tested : K → (a : Global) (p : Ptr) (x : R.Denot) → (Testable p → Seq K 𝓛 (‵ (boxed a p x) ∷ Γ) G) → Seq K 𝓛 (‵ (boxed a p x) ∷ Γ) G
  tested k a p x s = fsplit k $ move k (1 ∷ []) $
      use1 𝓛 (given (Testable p) (‵ (ghosts.dealloc_token a (raw (lone R.mir)) p))) (fact_use 𝓤 (Testable p) (dealloc_token-Testable 𝓛 a (raw (lone R.mir)) p) (guard_i 𝓤 (Testable p) _)) $
      learn k (λ t. move k (1 ∷ []) $ fjoin k $ s t)

  -- a false assumption shows anything
  pub impossible : K → Seq K 𝓛 (‵ ffalse ∷ Γ) G
  impossible k = use1 𝓛 (raw_item (fact 𝓤 ⊥)) (never_e 𝓤 _) $ heard k ⊥ (λ z. absurd z)

  -- the pointer of a handle may be compared with null
  pub testable : K → (a : Global) (p : Ptr) (y : Option R.Denot) → (Testable p → Seq K 𝓛 (‵ (owned R a p y) ∷ Γ) G) → Seq K 𝓛 (‵ (owned R a p y) ∷ Γ) G
  testable k a null_ptr y s = s (lit< tt)
  testable k a (block_ptr b o) None s = impossible k
  testable k a (block_ptr b o) (Some x) s = tested k a (block_ptr b o) x s

  -- a handle with a null pointer is empty
  pub emptied : K → (a : Global) (p : Ptr) (y : Option R.Denot) → T (ptr_same (ptr_val p) vnull) → (y ≡ None → Seq K 𝓛 Γ G) → Seq K 𝓛 (‵ (owned R a p y) ∷ Γ) G
  emptied k a null_ptr None e s = drop k $ s refl
  emptied k a null_ptr (Some x) e s = impossible k
  emptied k a (block_ptr b o) y e s = absurd e

  -- a handle with any other pointer has a session
  pub occupied : K → (a : Global) (p : Ptr) (y : Option R.Denot) → T (not (ptr_same (ptr_val p) vnull))
      → ((x : R.Denot) → y ≡ Some x → Seq K 𝓛 (‵ (boxed a p x) ∷ Γ) G) → Seq K 𝓛 (‵ (owned R a p y) ∷ Γ) G
  occupied k a null_ptr y e s = absurd e
  occupied k a (block_ptr b o) None e s = impossible k
  occupied k a (block_ptr b o) (Some x) e s = s x refl

  -- a handle with a null pointer is empty, and stays owned
  pub still_empty : K → (a : Global) (p : Ptr) (y : Option R.Denot) → T (ptr_same (ptr_val p) vnull) → (y ≡ None → Seq K 𝓛 (‵ (owned R a p y) ∷ Γ) G) → Seq K 𝓛 (‵ (owned R a p y) ∷ Γ) G
  still_empty k a null_ptr None e s = s refl
  still_empty k a null_ptr (Some x) e s = impossible k
  still_empty k a (block_ptr b o) y e s = absurd e
