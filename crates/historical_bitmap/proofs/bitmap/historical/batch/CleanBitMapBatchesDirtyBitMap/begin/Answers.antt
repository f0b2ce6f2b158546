use Rattle.historical_bitmap.proofs.bitmap.historical.batch.CleanBitMapBatchesDirtyBitMap.begin.Goals as goal

pub returns : goal.returns
returns g c = record {
  value = c.into_dirty.ensures.value;
  pending = c.into_dirty.ensures.pending;
  marks = c.into_dirty.ensures.marks;
}
