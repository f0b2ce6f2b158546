use Rattle.std.proofs.Common.{drop}
use Rattle.historical_bitmap.proofs.History.Rewound.{WritesOn}
use Rattle.historical_bitmap.proofs.bitmap.historical.rewind.write_back.Given as goal

abbrev pub invariant-loop-place : goal.invariant-loop-place
invariant-loop-place g l = WritesOn g.row.N l.fn.current l.fn.chunks.entries (drop l.place l.fn.chunks.indices) l.current
