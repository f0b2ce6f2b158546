use Rattle.std.proofs.Common.{◌+◌, ◌∷◌, drop, ap, arith, sym, ◌∙◌}
use Rattle.std.proofs.lemmas.List.{drop_all, drop_more}
use Rattle.std.specs.Map.{lookup}
use Rattle.std.specs.Prelude.{nat_eq}
use Rattle.historical_bitmap.proofs.History.Rewound.{all_put, chunk_put, found_retained, none_put}
use Rattle.historical_bitmap.proofs.bitmap.historical.rewind.write_back.Goals as goal

pub loop-place-init : goal.loop-place-init
loop-place-init g c = none_put g.row.N c.args.current.now c.args.chunks.now.entries c.args.chunks.now.indices c.order.ensures.members

pub write_chunk-requires : goal.write_chunk-requires
write_chunk-requires g c = (
  omega arith,
  (
    omega (arith, c.requires.width.fits),
    found_retained g.row.N c.args.current.now c.args.chunks.now.entries c.index_at.result c.chunk_at.result.now (ap (λ i. lookup (nat_eq i) c.args.chunks.now.entries) c.index_at.ensures ∙ c.chunk_at.ensures)
        (drop c.loop-place.place c.args.chunks.now.indices) c.loop-place.current c.requires.retained c.loop-place.invariant,
  ),
)

pub loop-place-preserved : goal.loop-place-preserved
loop-place-preserved g c =
    let indices = c.args.chunks.now.indices in
    let place = c.loop-place.place in
    let steps = drop_more indices place 0 (omega (arith, c.loop-place-test.true, c.len-place-end.ensures.indices)) ∙ ap (λ i. i ∷ drop (place + 1) indices) (sym c.index_at.ensures) in
    chunk_put g.row.N c.args.current.now c.args.chunks.now.entries c.index_at.result c.chunk_at.result.now (ap (λ i. lookup (nat_eq i) c.args.chunks.now.entries) c.index_at.ensures ∙ c.chunk_at.ensures)
    (drop place indices) (drop (place + 1) indices) c.loop-place.current c.write_chunk.new.current steps c.write_chunk.ensures c.loop-place.invariant

pub returns : goal.returns
returns g c =
    all_put g.row.N c.args.current.now c.args.chunks.now.entries (drop c.loop-place.place c.args.chunks.now.indices) c.loop-place.current
    (drop_all c.loop-place.place c.args.chunks.now.indices (omega (arith, c.loop-place-test.false, c.len-place-end.ensures.indices))) c.loop-place.invariant
