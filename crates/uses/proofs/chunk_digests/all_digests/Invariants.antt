use Rattle.std.specs.List.{range_with_len}
use Rattle.std.specs.Prelude.{◌≡◌, map}
use Rattle.uses.specs.Digests.{digest_at}
use Rattle.uses.proofs.chunk_digests.all_digests.Given as goal

abbrev pub invariant-loop-chunk : goal.invariant-loop-chunk
invariant-loop-chunk g l = l.digests.items ≡ map (digest_at g.row.N (g.D.Digest.of l.digest) l.version) (range_with_len 0 l.chunk)
