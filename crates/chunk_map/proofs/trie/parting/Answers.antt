use Rattle.std.proofs.Common.{arith}
use Rattle.chunk_map.proofs.Digits.{apart_next, further_digit}
use Rattle.chunk_map.proofs.trie.parting.Goals as goal

pub loop-shift-preserved : goal.loop-shift-preserved
loop-shift-preserved c = record {
  fits = record {
    most = further_digit c.args.a c.args.b c.loop-shift.shift c.ranges.a.fits c.ranges.b.fits c.loop-shift.invariant.fits.most c.loop-shift.invariant.fits.digit c.loop-shift-test.true;
    digit = omega arith;
  };
  from = omega arith;
  apart = apart_next c.args.a c.args.b c.loop-shift.shift c.loop-shift-test.true;
}
