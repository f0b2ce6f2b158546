-- A chunk of the current bitmap, or a range of chunks, is verified by the values that the calls return.
use Rattle.std.proofs.Common.{◌≡◌, ℕ, List, sym, ap, subst, ◌∙◌}
use Rattle.std.specs.Prelude.{⊤}
use Rattle.bitmap_core.specs.PrunedBits.{PrunedBits, bit_len, chunk}
use Rattle.authenticated_bitmap.specs.Range.{RangeLeadsTo}
use Rattle.authenticated_bitmap.specs.Root.{LeadsTo, root_of}
use Rattle.authenticated_history.specs.Versions.{Authenticated, current_of}

-- what leads to the root of a bitmap does so for the values that calls return
pub leads_too : {D : Type 0} (H G : List ℕ → List ℕ) (n i len pruned : ℕ) (v : Authenticated D ⊤) (s : PrunedBits) (root bytes : List ℕ) (path items : List (List ℕ)) → G ≡ H → s ≡ v.bits.current → root ≡ root_of H (current_of n v) → len ≡ bit_len n s → pruned ≡ s.pruned
    → bytes ≡ chunk n s i → path ≡ items → LeadsTo H (root_of H (current_of n v)) (current_of n v).shape i (chunk n v.bits.current i) items → LeadsTo G root (record { width = n; len = len; pruned = pruned }) i bytes path
leads_too H G n i len pruned v s root bytes path items G_is s_is root_is len_is pruned_is bytes_is path_is leads =
    subst (λ F. LeadsTo F root (record { width = n; len = len; pruned = pruned }) i bytes path) (sym G_is)
    (subst (λ r. LeadsTo H r (record { width = n; len = len; pruned = pruned }) i bytes path) (sym root_is)
    (subst (λ l. LeadsTo H (root_of H (current_of n v)) (record { width = n; len = l; pruned = pruned }) i bytes path) (sym (len_is ∙ ap (bit_len n) s_is))
    (subst (λ p. LeadsTo H (root_of H (current_of n v)) (record { width = n; len = bit_len n v.bits.current; pruned = p }) i bytes path) (sym (pruned_is ∙ ap (λ q. q.pruned) s_is))
    (subst (λ b. LeadsTo H (root_of H (current_of n v)) (current_of n v).shape i b path) (sym (bytes_is ∙ ap (λ q. chunk n q i) s_is))
    (subst (λ p. LeadsTo H (root_of H (current_of n v)) (current_of n v).shape i (chunk n v.bits.current i) p) (sym path_is) leads)))))

-- the same of a range of chunks
pub range_leads_too : {D : Type 0} (H G : List ℕ → List ℕ) (n first len pruned : ℕ) (v : Authenticated D ⊤) (s : PrunedBits) (root : List ℕ) (chunks expected siblings items : List (List ℕ)) → G ≡ H → s ≡ v.bits.current → root ≡ root_of H (current_of n v) → len ≡ bit_len n s → pruned ≡ s.pruned
    → chunks ≡ expected → siblings ≡ items → RangeLeadsTo H (root_of H (current_of n v)) (current_of n v).shape first expected items → RangeLeadsTo G root (record { width = n; len = len; pruned = pruned }) first chunks siblings
range_leads_too H G n first len pruned v s root chunks expected siblings items G_is s_is root_is len_is pruned_is chunks_are siblings_are leads =
    subst (λ F. RangeLeadsTo F root (record { width = n; len = len; pruned = pruned }) first chunks siblings) (sym G_is)
    (subst (λ r. RangeLeadsTo H r (record { width = n; len = len; pruned = pruned }) first chunks siblings) (sym root_is)
    (subst (λ l. RangeLeadsTo H (root_of H (current_of n v)) (record { width = n; len = l; pruned = pruned }) first chunks siblings) (sym (len_is ∙ ap (bit_len n) s_is))
    (subst (λ p. RangeLeadsTo H (root_of H (current_of n v)) (record { width = n; len = bit_len n v.bits.current; pruned = p }) first chunks siblings) (sym (pruned_is ∙ ap (λ q. q.pruned) s_is))
    (subst (λ cs. RangeLeadsTo H (root_of H (current_of n v)) (current_of n v).shape first cs siblings) (sym chunks_are)
    (subst (λ xs. RangeLeadsTo H (root_of H (current_of n v)) (current_of n v).shape first expected xs) (sym siblings_are) leads)))))
