use Rattle.std.proofs.Common.{◌≡◌, ℕ, ◌-◌, ◌*◌, ◌/◌, refl, ap, ◌∙◌, arith}
use mathlib.Core.Logic.{inl, inr}
use Rattle.std.proofs.lemmas.Bool.{cases_lt}
use Rattle.std.specs.Prelude.{max}
use Rattle.bitmap_core.specs.PrunedBits.{bit_len}
use Rattle.historical_bitmap.proofs.Pending.NextMarked.{next_pruned, next_edited_is, next_edited_first, next_cut}
use Rattle.historical_bitmap.proofs.bitmap.historical.pending.Dirty.next_marked.Goals as goal

pub returns-then-from-pruned_chunks : goal.returns-then-from-pruned_chunks
returns-then-from-pruned_chunks g c = next_pruned g.row.N c.args.current.now c.args.self.now c.args.from c.requires.low (omega (arith, c.if-from-pruned_chunks.true, c.pruned_chunks.ensures.value))

pub returns-else-len-total : goal.returns-else-len-total
returns-else-len-total g c = next_edited_is g.row.N c.args.current.now c.args.self.now c.len-total.ensures.width.positive c.args.from (omega (arith, c.if-from-pruned_chunks.false, c.pruned_chunks.ensures.value)) c.next_edited-edited.result c.next_edited-edited.ensures (λ j f s. absurd (omega (arith, s, c.if-len-total.false, c.len.ensures.value, c.len-total.ensures.value)))

pub returns-else-at-chunk_index : goal.returns-else-at-chunk_index
returns-else-at-chunk_index g c =
    let at : c.max-at.result ≡ max c.args.from (c.args.self.now.len / (8 * g.row.N)) = c.max-at.ensures ∙ rw (c.chunk_index.ensures, c.len-then-len-total.ensures.value) refl in
    let last : c.chunk_index-then-len-total.result ≡ (bit_len g.row.N c.args.current.now - 1) / (8 * g.row.N) = c.chunk_index-then-len-total.ensures ∙ ap (λ (x : ℕ). (x - 1) / (8 * g.row.N)) c.len-total.ensures.value in
    next_edited_is g.row.N c.args.current.now c.args.self.now c.len-total.ensures.width.positive c.args.from (omega (arith, c.if-from-pruned_chunks.false, c.pruned_chunks.ensures.value)) c.next_edited-edited.result c.next_edited-edited.ensures (λ j f s.
    elim (cases_lt j (c.args.self.now.len / (8 * g.row.N))) [ inl x ↦ inl x | inr x ↦ inr (omega (arith, x, f, at, last, c.if-at-chunk_index.false)) ])

pub returns-in-Some : goal.returns-in-Some
returns-in-Some g c =
    let at : c.max-at.result ≡ max c.args.from (c.args.self.now.len / (8 * g.row.N)) = c.max-at.ensures ∙ rw (c.chunk_index.ensures, c.len-then-len-total.ensures.value) refl in
    next_edited_first g.row.N c.args.current.now c.args.self.now c.len-total.ensures.width.positive c.args.from (omega (arith, c.if-from-pruned_chunks.false, c.pruned_chunks.ensures.value)) c.in-Some.index c.in-Some.ensures (omega (arith, at, c.if-index-at.true))

pub returns-in_default : goal.returns-in_default
returns-in_default g c =
    let at : c.max-at.result ≡ max c.args.from (c.args.self.now.len / (8 * g.row.N)) = c.max-at.ensures ∙ rw (c.chunk_index.ensures, c.len-then-len-total.ensures.value) refl in
    let last : c.chunk_index-then-len-total.result ≡ (bit_len g.row.N c.args.current.now - 1) / (8 * g.row.N) = c.chunk_index-then-len-total.ensures ∙ ap (λ (x : ℕ). (x - 1) / (8 * g.row.N)) c.len-total.ensures.value in
    rw at (next_cut g.row.N c.args.current.now c.args.self.now c.len-total.ensures.width.positive c.args.from (omega (arith, c.if-from-pruned_chunks.false, c.pruned_chunks.ensures.value)) (omega (arith, c.if-len-total.true, c.len.ensures.value, c.len-total.ensures.value)) (omega (arith, at, last, c.if-at-chunk_index.true)) (λ j f s. c.in-Some.ensures.2 j f (omega (arith, s, at, c.if-index-at.false))))

pub returns-in_default-2 : goal.returns-in_default-2
returns-in_default-2 g c =
    let at : c.max-at.result ≡ max c.args.from (c.args.self.now.len / (8 * g.row.N)) = c.max-at.ensures ∙ rw (c.chunk_index.ensures, c.len-then-len-total.ensures.value) refl in
    let last : c.chunk_index-then-len-total.result ≡ (bit_len g.row.N c.args.current.now - 1) / (8 * g.row.N) = c.chunk_index-then-len-total.ensures ∙ ap (λ (x : ℕ). (x - 1) / (8 * g.row.N)) c.len-total.ensures.value in
    rw at (next_cut g.row.N c.args.current.now c.args.self.now c.len-total.ensures.width.positive c.args.from (omega (arith, c.if-from-pruned_chunks.false, c.pruned_chunks.ensures.value)) (omega (arith, c.if-len-total.true, c.len.ensures.value, c.len-total.ensures.value)) (omega (arith, at, last, c.if-at-chunk_index.true)) (λ j f s. c.in_default.ensures j f))
