use Rattle.std.proofs.Common.{◌≡◌, ℕ, ◌*◌, ◌/◌, ◌<◌, refl, ap, ◌∙◌, subst, arith}
use Rattle.std.proofs.Math.Nat.{mul-div-le}
use Rattle.std.proofs.lemmas.Bool.{false≢true}
use Rattle.std.specs.Int.{div_ceil}
use Rattle.std.specs.Prelude.{nat_eq}
use Rattle.std.specs.Map.{lookup}
use Rattle.bitmap_core.specs.PrunedBits.{chunk, truncated}
use Rattle.bitmap_core.proofs.Pruned.Positions.{ceil_above_index, index_below_ceil}
use Rattle.historical_bitmap.specs.Lengths.{OpensChunks}
use Rattle.historical_bitmap.proofs.Pending.Lengthened.{each_edited, first_above, none_past_first, zeros_appended}
use Rattle.historical_bitmap.proofs.bitmap.historical.pending.Dirty.extend_to.Goals as goal

pub open_to-requires : goal.open_to-requires
open_to-requires g c =
    let pos = c.len-len.ensures.width.positive in
    let first : c.chunk_index-first.result ≡ c.args.self.now.len / (8 * g.row.N) = c.chunk_index-first.ensures ∙ ap (λ (k : ℕ). k / (8 * g.row.N)) c.len-len.ensures.value in
    let start : 8 * g.row.N * (c.args.self.now.len / (8 * g.row.N)) < c.args.total = omega (arith, mul-div-le c.args.self.now.len (8 * g.row.N), c.requires.more) in (
      omega (arith, c.len-len.ensures.width.fits),
      (
        omega (arith, c.len-len.ensures.width.fits),
        (
          c.len-len.ensures.width,
          (
            omega (arith, first, c.chunk_count-past.ensures, ceil_above_index g.row.N c.args.total (c.args.self.now.len / (8 * g.row.N)) pos start),
            (
              omega (arith, first, first_above g.row.N c.args.current.now c.args.self.now pos c.requires.edits_fit),
              (
                λ q h. let below : 8 * g.row.N * q < c.args.total = index_below_ceil g.row.N c.args.total q pos (rw c.chunk_count-past.ensures at h) in omega (arith, below, c.ranges.total.fits),
                λ q h. ap (λ es. lookup (nat_eq q) es) c.settle.ensures.value ∙ ap (λ l. lookup (nat_eq q) l.edited) c.self.view_is ∙ none_past_first g.row.N c.args.current.now c.args.self.now pos c.requires.edits_fit q (rw first at h),
              ),
            ),
          ),
        ),
      ),
    )

pub returns-in_err-open_to-clause-edited : goal.returns-in_err-open_to-clause-edited
returns-in_err-open_to-clause-edited g c =
    let pos = c.len-len.ensures.width.positive in
    let first : c.chunk_index-first.result ≡ c.args.self.now.len / (8 * g.row.N) = c.chunk_index-first.ensures ∙ ap (λ (k : ℕ). k / (8 * g.row.N)) c.len-len.ensures.value in
    λ all. absurd (false≢true (c.in_err-open_to.ensures.edited (λ q low high. rw (c.settle.ensures.value ∙ ap (λ l. l.edited) c.self.view_is) (each_edited g.row.N c.args.self.now c.args.total pos c.requires.more all q (rw first at low) (rw c.chunk_count-past.ensures at high)))))

pub returns-clause-ok : goal.returns-clause-ok
returns-clause-ok g c =
    let v = c.self.view_is in
    let first : c.chunk_index-first.result ≡ c.args.self.now.len / (8 * g.row.N) = c.chunk_index-first.ensures ∙ ap (λ (k : ℕ). k / (8 * g.row.N)) c.len-len.ensures.value in
    let opened : OpensChunks (chunk g.row.N (truncated g.row.N c.args.current.now c.args.self.now.len)) c.args.self.now.edited c.open_to.new.chunks (c.args.self.now.len / (8 * g.row.N)) (div_ceil c.args.total (8 * g.row.N)) =
    subst (λ es. OpensChunks (chunk g.row.N (truncated g.row.N c.args.current.now c.args.self.now.len)) es c.open_to.new.chunks (c.args.self.now.len / (8 * g.row.N)) (div_ceil c.args.total (8 * g.row.N))) (c.settle.ensures.value ∙ ap (λ l. l.edited) v) (rw (first, c.chunk_count-past.ensures, c.len-len.ensures.value) at c.in_ok-open_to.ensures.ok) in
    rw c.settle.ensures.chunk (zeros_appended g.row.N c.args.current.now c.args.self.now _ c.args.total c.len-len.ensures.width.positive c.requires.edits_fit c.requires.more refl (ap (λ l. l.pruned) v) (ap (λ l. l.captured) v) opened)
