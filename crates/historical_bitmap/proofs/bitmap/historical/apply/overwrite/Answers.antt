use Rattle.std.proofs.Common.{◌≡◌, ◌*◌, ◌/◌, ap, arith, ◌∙◌}
use Rattle.std.proofs.Math.Nat.{mul-div_cancel_left}
use Rattle.bitmap_core.specs.PrunedBits.{bit_len, pruned_to}
use Rattle.historical_bitmap.specs.Pending.{edits_of, uncaptured}
use Rattle.historical_bitmap.specs.Undo.{put_back}
use Rattle.historical_bitmap.proofs.Pending.Applied.{applied_long, cut_len}
use Rattle.historical_bitmap.proofs.Records.UndoneInSteps.{put_len}
use Rattle.historical_bitmap.proofs.bitmap.historical.apply.overwrite.Goals as goal

pub prune_to_bit-requires : goal.prune_to_bit-requires
prune_to_bit-requires g c =
    let edits = edits_of c.args.edited in
    let cut : bit_len g.row.N c.truncate.new.self ≡ c.args.len =
    ap (bit_len g.row.N) c.truncate.ensures ∙ cut_len g.row.N c.args.current.now (uncaptured c.args.len c.args.pruned c.args.edited) c.requires in
    let len : bit_len g.row.N c.write_all.new.current ≡ c.args.len = ap (bit_len g.row.N) c.write_all.ensures.value ∙ (put_len g.row.N c.truncate.new.self edits ∙ cut) in
    let from : c.chunk_width.result * c.args.pruned ≡ 8 * g.row.N * c.args.pruned = ap (λ w. w * c.args.pruned) c.chunk_width.ensures in
    (omega arith, omega (arith, len, from, c.requires.prefix))

pub returns : goal.returns
returns g c =
    let edits_fit = uncaptured c.args.len c.args.pruned c.args.edited in
    let edits = edits_of c.args.edited in
    let index : c.chunk_width.result * c.args.pruned / (8 * g.row.N) ≡ c.args.pruned =
    ap (λ w. w * c.args.pruned / (8 * g.row.N)) c.chunk_width.ensures ∙ mul-div_cancel_left c.args.pruned (omega (arith, c.len.ensures.width.positive)) in
    let written = c.write_all.ensures.value ∙ ap (λ b. put_back g.row.N b edits) c.truncate.ensures in
    c.prune_to_bit.ensures
    ∙ (ap (pruned_to g.row.N c.write_all.new.current) index
    ∙ (ap (λ b. pruned_to g.row.N b c.args.pruned) written
    ∙ applied_long g.row.N c.args.current.now edits_fit c.requires c.len.ensures.width.positive c.write_all.ensures.sorted))
