use Rattle.std.proofs.Common.{◌∙◌, ◌+◌, ◌-◌, ◌*◌, ℕ, length, ap, sym, arith}
use Rattle.bitmap_core.specs.Encoding.{pruned_encoding}
use Rattle.bitmap_core.specs.PrunedBits.{PrunedBits}
use Rattle.historical_bitmap.specs.View.{history_of}
use Rattle.commit_log.proofs.Histories.{first_kept}
use Rattle.commit_log.proofs.Sizes.{current_sized, first_sized}
use Rattle.commit_log.proofs.size.state_size.Goals as goal

pub returns-in_default : goal.returns-in_default
returns-in_default g c =
    let n = g.row.N in
    let s = c.args.bitmap.now in
    current_sized n s.current s.last (history_of n s) c.encode_size.result (sym c.commits-numbers.ensures.items ∙ c.in_default.ensures.steps.0) (c.encode_size.ensures ∙ ap (λ (b : PrunedBits). length (pruned_encoding n b)) c.current.ensures)

pub unwrap-first-requires : goal.unwrap-first-requires
unwrap-first-requires g c = first_kept (history_of g.row.N c.args.bitmap.now) c.in-Some.number c.next.new.self c.at.result (sym c.commits-numbers.ensures.items ∙ c.in-Some.ensures.steps) c.at.ensures.value

pub returns : goal.returns
returns g c =
    let n = g.row.N in
    let s = c.args.bitmap.now in
    first_sized n s.current s.last (history_of n s) c.in-Some.number (c.len.result - c.pruned_bits.result) (16 + n * c.chunk_count.result) c.next.new.self c.unwrap-first.result (sym c.commits-numbers.ensures.items ∙ c.in-Some.ensures.steps) (sym c.unwrap-first.ensures ∙ c.at.ensures.value) (omega (arith, c.len.ensures.value, c.pruned_bits.ensures)) (ap (λ (k : ℕ). 16 + n * k) c.chunk_count.ensures)
