-- The digests of the first leaves are the first of those of all leaves.
use Rattle.std.proofs.Common.{◌≡◌, ℕ, ◌+◌, ◌-◌, ◌≤◌, List, [], ◌++◌, length, take, drop, replicate, inl, inr, sym, ap, ◌∙◌, arith}
use Rattle.std.proofs.lemmas.List.{length-append, length-replicate, length-take-le, take-append-drop, take_all, take_at}
use Rattle.authenticated_bitmap.specs.Stored.{nodes, stored}
use Rattle.authenticated_bitmap.proofs.Places.{stores_subtrees}
use Rattle.authenticated_bitmap.proofs.Tests.{le_or_lt}

-- more leaves have no fewer digests
pub nodes_rise : (few more : ℕ) → nodes few ≤ nodes (few + more)
nodes_rise few more =
    let nothing : List ℕ = [] in
    let same : List ℕ → List ℕ = λ xs. xs in
    let a = replicate few nothing in
    let b = replicate more nothing in
    let all : length (a ++ b) ≡ few + more = omega (arith, length-append a b, length-replicate few nothing, length-replicate more nothing) in
    let grown = (stores_subtrees same).grows a b in
    let old : length (stored same a) ≡ nodes few = (stores_subtrees same).count a ∙ ap (λ n. nodes n) (length-replicate few nothing) in
    let new : length (stored same (a ++ b)) ≡ nodes (few + more) = (stores_subtrees same).count (a ++ b) ∙ ap (λ n. nodes n) all in
    omega (arith, old, new, ap length grown.1, length-append (stored same a) grown.0)

pub stored_take : (H : List ℕ → List ℕ) (digests : List (List ℕ)) (kept : ℕ) → take (nodes kept) (stored H digests) ≡ stored H (take kept digests)
stored_take H digests kept =
    elim (le_or_lt kept (length digests)) [
      | inl some ↦ (
          let first = take kept digests in
          let grown = (stores_subtrees H).grows first (drop kept digests) in
          let is : stored H digests ≡ stored H first ++ grown.0 = sym (ap (λ xs. stored H xs) (take-append-drop kept digests)) ∙ grown.1 in
          let count : length (stored H first) ≡ nodes kept = (stores_subtrees H).count first ∙ ap (λ n. nodes n) (length-take-le kept digests some) in
          ap (take (nodes kept)) is ∙ take_at (stored H first) grown.0 (nodes kept) count)
      | inr none ↦ (
          let e : length digests + (kept - length digests) ≡ kept = omega (arith, none) in
          let rises : nodes (length digests) ≤ nodes kept = omega (arith, nodes_rise (length digests) (kept - length digests), ap (λ n. nodes n) e) in
          take_all (nodes kept) (stored H digests) (omega (arith, rises, (stores_subtrees H).count digests))
          ∙ sym (ap (λ xs. stored H xs) (take_all kept digests (omega (arith, none)))))
    ]
