use Rattle.bitmap_core.proofs.Chunks.Equal.{bytes_decided}
use Rattle.bitmap_core.proofs.bitmap.deque.every.slices_equal.Goals as goal

pub returns : goal.returns
returns g c =
    bytes_decided _ _ _ _ _ _ c.requires c.all_known.ensures c.all_known-2.ensures c.as_flattened.ensures.value c.as_flattened-2.ensures.value c.bytes_equal.ensures
