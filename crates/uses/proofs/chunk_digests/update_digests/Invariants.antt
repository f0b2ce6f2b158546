use Rattle.std.specs.Prelude.{◌≡◌, length}
use Rattle.historical_bitmap.specs.Changes.{chunk_total}
use Rattle.uses.proofs.Digests.{IsDoneBut}
use Rattle.uses.proofs.chunk_digests.update_digests.Given as goal

abbrev pub invariant-loop-chunk : goal.invariant-loop-chunk
invariant-loop-chunk g l = record {
  can_next : (goal.iterator-loop-chunk g).can_next l.chunk-iterator;
  is_finite : (goal.iterator-loop-chunk g).is_finite l.chunk-iterator;
  size : length l.digests.items ≡ chunk_total g.row.N l.version;
  done : IsDoneBut g.row.N (g.D.Digest.of l.digest) l.version l.chunk-iterator l.digests.items;
}
