-- How many digests are beside a range.
use Rattle.std.proofs.Common.{◌≡◌, ℕ, zero, suc, ◌+◌, ◌-◌, ◌*◌, ◌^◌, ◌<◌, ◌≤◌, min, List, length, take, drop, inl, inr, ap, ◌∙◌, arith}
use Rattle.std.proofs.lemmas.List.{length-append, length-take-le, length-drop}
use Rattle.std.proofs.lemmas.Nat.{pow_pos}
use Rattle.authenticated_bitmap.specs.Range.{siblings_below}
use Rattle.authenticated_bitmap.proofs.Tests.{le_or_lt}
use Rattle.authenticated_bitmap.proofs.RangeSteps.{siblings_none, siblings_leaf, range_low, range_split}

module _ (H : List ℕ → List ℕ) where
  many : ℕ → ℕ → ℕ → List (List ℕ) → ℕ
  many k first count digests = length (siblings_below H k first count digests)

  one : (k first count : ℕ) (digests : List (List ℕ)) → count ≡ 0 → many k first count digests ≡ 1
  unfolding many
  one k first count digests z = ap (λ c. length (siblings_below H k first c digests)) z ∙ ap length (siblings_none H k first digests)

  none : (first count : ℕ) (digests : List (List ℕ)) → 0 < count → many zero first count digests ≡ 0
  unfolding many
  none first count digests p = ap length (siblings_leaf H first count digests p)

  low : (k first count : ℕ) (digests : List (List ℕ)) → length digests ≤ 2 ^ k → many (suc k) first count digests ≡ many k first count digests
  unfolding many
  low k first count digests h = ap length (range_low H k first count digests h)

  split : (k first count : ℕ) (digests : List (List ℕ)) → 0 < count → 2 ^ k < length digests
      → many (suc k) first count digests ≡ many k first (min (2 ^ k - first) count) (take (2 ^ k) digests) + many k (first - 2 ^ k) (count - (2 ^ k - first)) (drop (2 ^ k) digests)
  unfolding many
  split k first count digests p h =
      ap length (range_split H k first count digests p h)
      ∙ length-append (siblings_below H k first (min (2 ^ k - first) count) (take (2 ^ k) digests)) (siblings_below H k (first - 2 ^ k) (count - (2 ^ k - first)) (drop (2 ^ k) digests))

  -- beside all leaves
  covered : (k first count : ℕ) (digests : List (List ℕ)) → first ≡ 0 → 0 < count → length digests ≤ count → many k first count digests ≡ 0
  covered zero first count digests z p h = none first count digests p
  covered (suc k) first count digests z p h =
      elim (le_or_lt (length digests) (2 ^ k)) [
        | inl few ↦ low k first count digests few ∙ covered k first count digests z p h
        | inr high ↦ (
            let a = covered k first (min (2 ^ k - first) count) (take (2 ^ k) digests) z (omega (arith, pow_pos k)) (omega (arith, length-take-le (2 ^ k) digests (omega arith))) in
            let b = covered k (first - 2 ^ k) (count - (2 ^ k - first)) (drop (2 ^ k) digests) (omega arith) (omega arith) (omega (arith, length-drop (2 ^ k) digests)) in
            omega (arith, split k first count digests p high, a, b))
      ]

  -- beside the first leaves
  beside_first : (k first count : ℕ) (digests : List (List ℕ)) → first ≡ 0 → 0 < count → many k first count digests ≤ k
  beside_first zero first count digests z p = omega (arith, none first count digests p)
  beside_first (suc k) first count digests z p =
      elim (le_or_lt (length digests) (2 ^ k)) [
        | inl few ↦ omega (arith, low k first count digests few, beside_first k first count digests z p)
        | inr high ↦ (
            let s = split k first count digests p high in
            elim (le_or_lt count (2 ^ k - first)) [
              | inl left ↦ (
                  let a = beside_first k first (min (2 ^ k - first) count) (take (2 ^ k) digests) z (omega arith) in
                  let b = one k (first - 2 ^ k) (count - (2 ^ k - first)) (drop (2 ^ k) digests) (omega arith) in
                  omega (arith, s, a, b))
              | inr both ↦ (
                  let a = covered k first (min (2 ^ k - first) count) (take (2 ^ k) digests) z (omega (arith, pow_pos k)) (omega (arith, length-take-le (2 ^ k) digests (omega arith))) in
                  let b = beside_first k (first - 2 ^ k) (count - (2 ^ k - first)) (drop (2 ^ k) digests) (omega arith) (omega arith) in
                  omega (arith, s, a, b))
            ])
      ]

  -- beside the last leaves
  beside_last : (k first count : ℕ) (digests : List (List ℕ)) → 0 < count → length digests ≤ first + count → many k first count digests ≤ k
  beside_last zero first count digests p h = omega (arith, none first count digests p)
  beside_last (suc k) first count digests p h =
      elim (le_or_lt (length digests) (2 ^ k)) [
        | inl few ↦ omega (arith, low k first count digests few, beside_last k first count digests p h)
        | inr high ↦ (
            let s = split k first count digests p high in
            let lf = length-take-le (2 ^ k) digests (omega arith) in
            let lb = length-drop (2 ^ k) digests in
            elim (le_or_lt (2 ^ k) first) [
              | inl right ↦ (
                  let a = one k first (min (2 ^ k - first) count) (take (2 ^ k) digests) (omega arith) in
                  let b = beside_last k (first - 2 ^ k) (count - (2 ^ k - first)) (drop (2 ^ k) digests) (omega arith) (omega (arith, lb)) in
                  omega (arith, s, a, b))
              | inr both ↦ (
                  let a = beside_last k first (min (2 ^ k - first) count) (take (2 ^ k) digests) (omega arith) (omega (arith, lf)) in
                  let b = covered k (first - 2 ^ k) (count - (2 ^ k - first)) (drop (2 ^ k) digests) (omega arith) (omega arith) (omega (arith, lb)) in
                  omega (arith, s, a, b))
            ])
      ]

  -- beside any leaves
  beside_any : (k first count : ℕ) (digests : List (List ℕ)) → 0 < count → many k first count digests ≤ 2 * k
  beside_any zero first count digests p = omega (arith, none first count digests p)
  beside_any (suc k) first count digests p =
      elim (le_or_lt (length digests) (2 ^ k)) [
        | inl few ↦ omega (arith, low k first count digests few, beside_any k first count digests p)
        | inr high ↦ (
            let s = split k first count digests p high in
            elim (le_or_lt (2 ^ k) first) [
              | inl right ↦ (
                  let a = one k first (min (2 ^ k - first) count) (take (2 ^ k) digests) (omega arith) in
                  let b = beside_any k (first - 2 ^ k) (count - (2 ^ k - first)) (drop (2 ^ k) digests) (omega arith) in
                  omega (arith, s, a, b))
              | inr from ↦ elim (le_or_lt count (2 ^ k - first)) [
                | inl left ↦ (
                    let a = beside_any k first (min (2 ^ k - first) count) (take (2 ^ k) digests) (omega arith) in
                    let b = one k (first - 2 ^ k) (count - (2 ^ k - first)) (drop (2 ^ k) digests) (omega arith) in
                    omega (arith, s, a, b))
                | inr both ↦ (
                    let a = beside_last k first (min (2 ^ k - first) count) (take (2 ^ k) digests) (omega arith) (omega (arith, length-take-le (2 ^ k) digests (omega arith))) in
                    let b = beside_first k (first - 2 ^ k) (count - (2 ^ k - first)) (drop (2 ^ k) digests) (omega arith) (omega arith) in
                    omega (arith, s, a, b))
              ]
            ])
      ]

  pub siblings_few : (k first count : ℕ) (digests : List (List ℕ)) → 0 < count → length (siblings_below H k first count digests) ≤ 2 * k
  unfolding many
  siblings_few k first count digests p = beside_any k first count digests p
