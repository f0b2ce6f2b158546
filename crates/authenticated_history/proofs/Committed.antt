-- A commit: the digests of the new state are committed under its number, and then the state itself.
use Rattle.std.proofs.Common.{◌≡◌, ℕ, ◌<◌, List, [], ◌∷◌, ◌++◌, sym, ap, subst, ◌∙◌}
use Rattle.std.specs.Prelude.{⊤, Some}
use Rattle.historical_bitmap.specs.Batch.{aborted, begun}
use Rattle.historical_bitmap.specs.Changes.{chunk_total}
use Rattle.historical_bitmap.specs.Pending.{PendingEdits}
use Rattle.historical_bitmap.specs.Prepared.{PreparedView}
use Rattle.historical_bitmap.specs.View.{View, history_of, pending_of}
use Rattle.authenticated_bitmap.specs.LeafDigests.{Authenticates, HasTreeSize, bitmap_of, leaves_in, next_leaves}
use Rattle.authenticated_bitmap.specs.Root.{chunk_digests}
use Rattle.authenticated_bitmap.specs.StoredBitmap.{IsOnBaseOf}
use Rattle.authenticated_bitmap.proofs.StoredLeaves.{chunk_digests_are}
use Rattle.authenticated_history.specs.Versions.{Follows}
use Rattle.authenticated_history.proofs.Versions.{base_back, base_history, count_is, follows_commit}

-- ---- the digests
module _ (digests : View ⊤) (old stored : View PendingEdits) (begun_is : old ≡ begun 32 digests) (base : IsOnBaseOf old stored) where
  pub digests_back : (back : View ⊤) → back ≡ aborted stored → back ≡ digests
  digests_back back is = is ∙ base_back digests old stored (ap (λ v. v.current) begun_is) (ap (λ v. v.commits) begun_is) (ap (λ v. v.last) begun_is) base

  pub digests_more : (next : View ⊤) (given number : ℕ) → given ≡ number → next.current ≡ pending_of 32 stored → history_of 32 next ≡ history_of 32 stored ++ (given, pending_of 32 stored) ∷ []
      → history_of 32 next ≡ history_of 32 digests ++ (number, next.current) ∷ []
  digests_more next given number number_is current history =
      history ∙ ap (λ es. es ++ (given, pending_of 32 stored) ∷ []) (base_history digests old stored (ap (λ v. v.current) begun_is) (ap (λ v. v.commits) begun_is) base)
      ∙ ap (λ k. history_of 32 digests ++ (k, pending_of 32 stored) ∷ []) number_is ∙ ap (λ t. history_of 32 digests ++ (number, t) ∷ []) (sym current)

-- ---- both
module _ (H : List ℕ → List ℕ) (n number count : ℕ) (bits : View PendingEdits) (digests : View ⊤) (p : PreparedView) (p_is : p ≡ record { batch = bits; number = number }) (f : Follows H n bits digests) (size : HasTreeSize count digests.current) where
  batch_is : p.batch ≡ bits
  batch_is = ap (λ q. q.batch) p_is

  number_is : p.number ≡ number
  number_is = ap (λ q. q.number) p_is

  pub count_there : count ≡ chunk_total n p.batch.current
  count_there = count_is H n count bits.current digests.current size f.current ∙ ap (λ b. chunk_total n b.current) (sym batch_is)

  pub authenticated_before : Authenticates H n p.batch.current digests.current
  authenticated_before = subst (λ b. Authenticates H n b.current digests.current) (sym batch_is) f.current

  module _ (new_bits new_digests : View ⊤) (next : count ≡ chunk_total n p.batch.current → Authenticates H n p.batch.current digests.current → Authenticates H n (pending_of n p.batch) new_digests.current) (current : new_bits.current ≡ pending_of n p.batch) (history : history_of n new_bits ≡ history_of n p.batch ++ (p.number, pending_of n p.batch) ∷ []) (in_digests : history_of 32 new_digests ≡ history_of 32 digests ++ (p.number, new_digests.current) ∷ []) where
    pub new_current : new_bits.current ≡ pending_of n bits
    new_current = current ∙ ap (pending_of n) batch_is

    authenticated_new : Authenticates H n new_bits.current new_digests.current
    authenticated_new = subst (λ s. Authenticates H n s new_digests.current) (sym current) (next count_there authenticated_before)

    pub bits_more : history_of n new_bits ≡ history_of n bits ++ (number, new_bits.current) ∷ []
    bits_more =
        history ∙ ap (λ b. history_of n b ++ (p.number, pending_of n b) ∷ []) batch_is ∙ ap (λ k. history_of n bits ++ (k, pending_of n bits) ∷ []) number_is
        ∙ ap (λ s. history_of n bits ++ (number, s) ∷ []) (sym new_current)

    pub stored_more : history_of 32 new_digests ≡ history_of 32 digests ++ (number, new_digests.current) ∷ []
    stored_more = in_digests ∙ ap (λ k. history_of 32 digests ++ (k, new_digests.current) ∷ []) number_is

    pub both_follow : new_bits.last ≡ Some p.number → new_digests.last ≡ Some p.number → Follows H n new_bits new_digests
    both_follow last_bits last_digests =
        follows_commit H n number bits digests new_bits new_digests f authenticated_new bits_more stored_more (last_bits ∙ ap Some number_is) (last_digests ∙ ap Some number_is)

    -- the digest of each chunk
    pub leaves_next : 0 < n → (count ≡ chunk_total n p.batch.current → Authenticates H n p.batch.current digests.current → leaves_in (chunk_total n (pending_of n p.batch)) new_digests.current ≡ next_leaves H n (leaves_in count digests.current) (pending_of n p.batch))
        → chunk_digests H (bitmap_of n new_bits.current new_digests.current) ≡ next_leaves H n (chunk_digests H (bitmap_of n bits.current digests.current)) (pending_of n bits)
    leaves_next pos leaves =
        chunk_digests_are H n new_bits.current new_digests.current pos authenticated_new ∙ ap (λ s. leaves_in (chunk_total n s) new_digests.current) current ∙ leaves count_there authenticated_before
        ∙ ap (λ b. next_leaves H n (leaves_in count digests.current) (pending_of n b)) batch_is
        ∙ ap (λ xs. next_leaves H n xs (pending_of n bits)) (ap (λ k. leaves_in k digests.current) (count_is H n count bits.current digests.current size f.current) ∙ sym (chunk_digests_are H n bits.current digests.current pos f.current))
