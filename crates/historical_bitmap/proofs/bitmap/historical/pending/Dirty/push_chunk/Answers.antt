use Rattle.std.proofs.Common.{arith}
use Rattle.historical_bitmap.proofs.Pending.Writes.{run_of_chunk}
use Rattle.historical_bitmap.proofs.bitmap.historical.pending.Dirty.push_chunk.Goals as goal

pub append-requires : goal.append-requires
append-requires g c = (omega arith, (omega arith, (c.requires.edits_fit, (omega (arith, c.told-chunk, c.len.ensures.width.positive), (omega (arith, c.told-chunk), omega (arith, c.told-chunk, c.requires.fits))))))

pub returns-clause-ok : goal.returns-clause-ok
returns-clause-ok g c = rw (run_of_chunk g.row.N c.args.chunk.now c.told-chunk) at c.append.ensures.ok
