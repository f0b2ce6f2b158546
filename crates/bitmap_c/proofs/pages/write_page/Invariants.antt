use Rattle.std.proofs.Common.{◌≡◌, ◌++◌, length, take, drop}
use Rattle.bitmap_c.proofs.pages.write_page.Given as goal

abbrev pub invariant-loop-count : goal.invariant-loop-count
invariant-loop-count g l = record {
  so_far : g.S.Numbers.left l.initial.numbers ≡ take l.count l.out ++ g.S.Numbers.left l.numbers;
  rest : drop l.count l.out ≡ drop l.count l.initial.out;
  size : length l.out ≡ length l.initial.out;
}
