use Rattle.std.proofs.Common.{take, drop}
use Rattle.std.specs.List.{flat_map}
use Rattle.std.specs.Fmt.{HasWritten, HasWrittenStyled, IsPlainFormatter, IsFlush}
use Rattle.bitmap_core.specs.Text.{digit}
use Rattle.bitmap_core.proofs.bitmap.debug.write_bits.Given as goal

abbrev pub invariant-loop-i : goal.invariant-loop-i
invariant-loop-i g l = record {
  plain : IsPlainFormatter l.initial.f → HasWritten g.W.Write.write_str_gives l.initial.f (flat_map digit (drop l.start (take l.i l.bitmap))) l.f;
  styled : IsFlush l.initial.f → HasWrittenStyled g.W.Write.write_str_gives l.initial.f (flat_map digit (drop l.start (take l.i l.bitmap))) l.f;
}
