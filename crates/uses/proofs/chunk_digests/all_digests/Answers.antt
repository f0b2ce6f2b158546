use Rattle.uses.proofs.Digests.{appended}
use Rattle.uses.proofs.chunk_digests.all_digests.Goals as goal

pub loop-chunk-preserved : goal.loop-chunk-preserved
loop-chunk-preserved g c = appended g.row.N (g.D.Digest.of c.args.digest.now) c.in-Some.version c.loop-chunk.digests.items c.push.new.self.items c.loop-chunk.chunk c.digest_of_chunk.result c.in_ok-push.ensures.items c.loop-chunk.invariant c.digest_of_chunk.ensures
