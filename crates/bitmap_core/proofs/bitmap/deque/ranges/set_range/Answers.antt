use Rattle.std.proofs.Common.{◌%◌, ◌-◌, ◌+◌, ap}
use Rattle.bitmap_core.proofs.Chunks.Ranges.{put_in_one, put_in_more}
use Rattle.bitmap_core.proofs.bitmap.deque.ranges.set_range.Goals as goal

pub returns-then-first-last : goal.returns-then-first-last
returns-then-first-last g c =
    let w = c.chunk_width-width.ensures in
    let s = c.set_in_chunk.ensures in
    put_in_one g.row.N _ _ c.args.from c.args.to _ _ _ _ c.args.value c.requires.width.positive c.if-from-to.false c.chunk_index-first.ensures c.chunk_index-last.ensures
    (ap (λ k. c.args.from % k) w) (ap (λ k. (c.args.to - 1) % k + 1) w) c.if-first-last.true
    (record { inside = s.inside; outside = s.outside; others = s.others; count = s.count })

pub returns : goal.returns
returns g c =
    let w = c.chunk_width-width.ensures in
    let s = c.set_in_chunk-2.ensures in
    let t = c.set_in_chunk-3.ensures in
    let f = c.fill_chunks.ensures in
    put_in_more g.row.N _ _ _ _ c.args.from c.args.to _ _ _ _ _ c.args.value c.requires.width.positive c.if-from-to.false c.chunk_index-first.ensures c.chunk_index-last.ensures
    (ap (λ k. c.args.from % k) w) w (ap (λ k. (c.args.to - 1) % k + 1) w) c.if-first-last.false
    (record { inside = s.inside; outside = s.outside; others = s.others; count = s.count })
    (record { inside = t.inside; outside = t.outside; others = t.others; count = t.count })
    f.inside f.outside f.count
