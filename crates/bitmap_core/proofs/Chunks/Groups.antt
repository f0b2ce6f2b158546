-- Chunks of which a group is copied, edited and written back.
use Rattle.std.proofs.Common.{◌≡◌, ℕ, ◌+◌, ◌-◌, ◌<◌, ◌≤◌, List, [], ◌++◌, length, get_or, take, drop, subst, sym, ap, ◌∙◌, inl, inr, arith}
use Rattle.std.proofs.lemmas.Bool.{cases_lt}
use Rattle.std.proofs.lemmas.List.{get_or_append_left, get_or-append_right, get_or-take, get_or-drop, length-append, length-take, length-drop}
use borrow.Rule.Slice.PartMut.{put_mid}

module _ (from m : ℕ) (old group : List (List ℕ)) (within : from + m ≤ length old) (size : length group ≡ m) where
  front_size : length (take from old) ≡ from
  front_size = omega (arith, length-take {A = List ℕ} from old)

  -- their number stays
  pub group_count : length (put_mid from m old group) ≡ length old
  group_count =
      let rest : List (List ℕ) = drop m (drop from old) in
      omega (arith, front_size, length-append (take from old) (group ++ rest), length-append group rest, length-drop {A = List ℕ} m (drop from old), length-drop {A = List ℕ} from old)

  group_below : (k : ℕ) → k < from → get_or (put_mid from m old group) k [] ≡ get_or old k []
  group_below k h = get_or_append_left (take from old) _ [] k (omega (arith, front_size)) ∙ get_or-take from old k [] h

  group_here : (j : ℕ) → j < m → get_or (put_mid from m old group) (from + j) [] ≡ get_or group j []
  group_here j h =
      let e : from + j - from ≡ j = omega arith in
      get_or-append_right (take from old) _ from (from + j) [] front_size (omega arith)
      ∙ get_or_append_left group _ [] (from + j - from) (omega arith)
      ∙ ap (λ x. get_or group x []) e

  -- those above the group stay
  pub group_above : (k : ℕ) → from + m ≤ k → get_or (put_mid from m old group) k [] ≡ get_or old k []
  group_above k h =
      let e : from + (m + (k - from - m)) ≡ k = omega arith in
      get_or-append_right (take from old) _ from k [] front_size (omega arith)
      ∙ get_or-append_right group _ m (k - from) [] size (omega arith)
      ∙ get_or-drop m (drop from old) (k - from - m) []
      ∙ get_or-drop from old (m + (k - from - m)) []
      ∙ ap (λ x. get_or old x []) e

  -- what holds of each chunk below the group, and of each one of the group, holds of each chunk up to the group's end
  pub group_done : (P : ℕ → List ℕ → Type 0) → ((k : ℕ) → k < from → P k (get_or old k [])) → ((j : ℕ) → j < m → P (from + j) (get_or group j []))
      → (k : ℕ) → k < from + m → P k (get_or (put_mid from m old group) k [])
  group_done P done own k h = elim (cases_lt k from) [
    | inl s ↦ subst (λ c. P k c) (sym (group_below k s)) (done k s)
    | inr s ↦
        let e : from + (k - from) ≡ k = omega arith in
        subst (λ x. P x (get_or (put_mid from m old group) x [])) e
        (subst (λ c. P (from + (k - from)) c) (sym (group_here (k - from) (omega arith))) (own (k - from) (omega arith)))
  ]
