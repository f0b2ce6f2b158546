use Rattle.std.proofs.Common.{◌≡◌, ℕ, ◌*◌, ◌/◌, ◌%◌, List, refl, subst, ◌∙◌}
use Rattle.std.specs.Prelude.{OnOk}
use Rattle.bitmap_core.specs.PrunedBits.{chunk, truncated}
use Rattle.historical_bitmap.specs.CachedWord.{with_cached}
use Rattle.historical_bitmap.specs.Pending.{SetsIn}
use Rattle.historical_bitmap.proofs.EditedChunks.OpenedChunk.{first_zeros}
use Rattle.historical_bitmap.proofs.bitmap.historical.cached_word.push_other.Goals as goal
use Rattle.historical_bitmap.proofs.bitmap.historical.cached_word.push_other.Goals.{then-can_begin+else-bit-chunk_width-eq0+else-push_next, else-can_begin}

pub returns-then-bit-chunk_width-eq0-clause-ok : goal.returns-then-bit-chunk_width-eq0-clause-ok
returns-then-bit-chunk_width-eq0-clause-ok g c =
    let whole : c.args.bit % (8 * g.row.N) ≡ 0 = rw c.chunk_width.ensures at c.if-bit-chunk_width-eq0.true in
    let index : ℕ = c.args.bit / (8 * g.row.N) in
    let set = rw c.chunk_index-index.ensures at c.push_first.ensures.ok in
    subst (λ first. OnOk c.push_first.result ((bytes : List ℕ) × SetsIn g.row.N first (with_cached g.row.N c.args.chunks.now c.args.cache.now) (with_cached g.row.N c.push_first.new.chunks c.push_first.new.cache) index c.args.bit c.args.value bytes)) (first_zeros g.row.N c.args.current.now c.args.bit index c.requires.width.positive refl c.requires.from whole) set

pub returns-then-push_next-clause-ok : goal.returns-then-push_next-clause-ok
returns-then-push_next-clause-ok g c = rw c.chunk_index-index.ensures at c.push_next.ensures.written c.if-push_next.true (chunk g.row.N (truncated g.row.N c.args.current.now c.args.bit) (c.args.bit / (8 * g.row.N)))

pub returns-clause-ok : goal.returns-clause-ok
returns-clause-ok g c =
    let same : with_cached g.row.N c.if-can_begin.chunks c.if-can_begin.cache ≡ with_cached g.row.N c.args.chunks.now c.args.cache.now = elim c.if-can_begin.branch [
      | then-can_begin+else-bit-chunk_width-eq0+else-push_next w ↦ rw (w.chunks-is, w.cache-is) (w.push_next.ensures.other w.if-push_next.false)
      | else-can_begin w ↦ rw (w.chunks-is, w.cache-is) refl
    ] in
    rw (c.chunk_index-index.ensures, same) at c.push_inside.ensures.ok
