use Rattle.std.proofs.Common.{◌≡◌, ◌+◌, Some, None, sym, subst, arith}
use Rattle.chunk_map.specs.Entries.{Puts}
use Rattle.historical_bitmap.proofs.Lists.Maps.{on_err, taken_again}
use Rattle.historical_bitmap.proofs.bitmap.historical.edited.EditedChunks.write_two.Goals as goal

pub returns-then-is_err-clause-err : goal.returns-then-is_err-clause-err
returns-then-is_err-clause-err g c =
    let same : c.write-2.new.self ≡ c.write.new.self = on_err c.write-2.result _ (sym c.if-is_err.ensures.value) c.write-2.ensures.err in
    let taken = subst (λ es. Puts es c.remove.new.self (c.args.index + 1) None) same c.remove.ensures.removed in
    taken_again c.args.self.now c.write.new.self c.remove.new.self (c.args.index + 1) (Some c.args.second) c.in_ok-write.ensures.was_sorted c.remove.ensures.sorted (c.requires.last (c.args.index + 1) (omega arith)) c.in_ok-write.ensures.ok taken
