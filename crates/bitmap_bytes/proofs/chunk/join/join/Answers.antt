use Rattle.std.proofs.Common.{◌∙◌, ◌-◌, ◌/◌, ◌%◌, ◌++◌, ap, set, refl}
use Rattle.std.specs.Int.{bit_at}
use Rattle.bitmap_bytes.proofs.Bytes.Shifted.{opened_kept, opened_joined}
use Rattle.bitmap_bytes.proofs.chunk.join.join.Goals as goal

pub returns-clause-kept : goal.returns-clause-kept
returns-clause-kept g c =
    let positive = c.requires.width.positive in
    opened_kept _ _ _
    (set _ (c.args.len / 8 % g.row.N) c.opened_byte.result) c.fill_from.new.chunk c.opened_byte.result positive c.told-chunk refl
    (rw c.byte_index-byte.ensures.value at c.opened_byte.ensures.low) (rw c.byte_index-byte.ensures.value at c.fill_from.ensures.kept)

pub returns-clause-joined : goal.returns-clause-joined
returns-clause-joined g c =
    let positive = c.requires.width.positive in
    opened_joined _ _ (c.args.front.now ++ c.args.back.now) c.args.chunk.now
    (set _ (c.args.len / 8 % g.row.N) c.opened_byte.result) c.fill_from.new.chunk c.opened_byte.result positive c.told-chunk refl
    (λ t h w.
    c.opened_byte.ensures.high t h w
    ∙ ap
    (λ x. bit_at x (t - c.args.len % 8)) c.byte_at.ensures) (rw c.byte_index-byte.ensures.value at c.fill_from.ensures.kept) (rw c.byte_index-byte.ensures.value at c.fill_from.ensures.filled)
