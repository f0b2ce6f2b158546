use Rattle.std.proofs.Common.{◌≡◌, [], arith}
use Rattle.historical_bitmap.proofs.EditedChunks.ManyChunks.{none_set, one_set, some_left}
use Rattle.historical_bitmap.proofs.bitmap.historical.ranges.fill.Goals as goal

pub loop-index-init : goal.loop-index-init
loop-index-init g c = none_set g.row.N (λ q. []) c.args.chunks.now c.args.chunks.now c.args.chunks.now c.args.first c.args.first c.args.from c.args.to c.args.value

pub fill_chunk-requires : goal.fill_chunk-requires
fill_chunk-requires g c =
    let at = c.loop-index.index in
    (omega (arith, c.requires.width.fits), (c.requires.width, (c.requires.fits at c.loop-index-test.true, some_left g.row.N (λ q. []) c.args.chunks.now c.loop-index.chunks c.args.first at c.args.from c.args.to c.args.value (c.requires.edited at c.loop-index.auto.index c.loop-index-test.true) c.loop-index.invariant)))

pub loop-index-preserved : goal.loop-index-preserved
loop-index-preserved g c =
    let at = c.loop-index.index in
    let set = c.fill_chunk.ensures in
    one_set g.row.N (λ q. []) c.args.chunks.now c.loop-index.chunks c.fill_chunk.new.chunks c.args.first at c.args.from c.args.to c.args.value c.loop-index.auto.index
    (some_left g.row.N (λ q. []) c.args.chunks.now c.loop-index.chunks c.args.first at c.args.from c.args.to c.args.value (c.requires.edited at c.loop-index.auto.index c.loop-index-test.true) c.loop-index.invariant) set.0 set.1 set.2 c.loop-index.invariant

pub returns : goal.returns
returns g c =
    let all : c.loop-index.index ≡ c.args.past = omega (arith, c.loop-index.auto.index-end c.requires.order, c.loop-index-test.false) in
    rw all at c.loop-index.invariant
