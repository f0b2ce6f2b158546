use Rattle.std.proofs.Common.{◌-◌, ◌*◌, ℕ, ap, ◌∙◌}
use Rattle.std.specs.List.{list_any, range_with_len}
use Rattle.bitmap_bytes.specs.Chunk.{chunk_bit}
use Rattle.commit_log.proofs.Checks.{zero_decided}
use Rattle.commit_log.proofs.check.is_zero_from.Goals as goal

pub returns : goal.returns
returns g c =
    let n = g.row.N in
    let i = c.args.chunk in
    let len = c.args.len in
    zero_decided n i len c.args.bytes.now c.requires.width.positive c.requires.begins c.is_set_from.result
    (c.is_set_from.ensures ∙ ap (λ (w : ℕ). list_any (chunk_bit n c.args.bytes.now) (range_with_len (len - w * i) (8 * n - (len - w * i)))) c.chunk_width.ensures)
