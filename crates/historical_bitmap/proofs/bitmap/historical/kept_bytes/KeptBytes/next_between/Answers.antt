use Rattle.std.proofs.Common.{arith, sym, ◌∙◌}
use Rattle.historical_bitmap.proofs.Index.Rows.{between_end, between_here, between_later, between_past}
use Rattle.historical_bitmap.proofs.bitmap.historical.kept_bytes.KeptBytes.next_between.Goals as goal

pub returns-then-chunk-end : goal.returns-then-chunk-end
returns-then-chunk-end g c =
    between_past c.args.from c.args.to c.args.first c.loop-place.at c.self.inside.chunks c.self.inside.rows.items c.args.self.now c.self.view_is c.loop-place.invariant.1
    c.in-Some.place c.key_at-chunk.result c.in-Some.ensures c.key_at-chunk.ensures c.args.end (omega (arith, c.if-chunk-end.true))

pub returns-then-has_between : goal.returns-then-has_between
returns-then-has_between g c =
    between_here c.args.from c.args.to c.args.first c.loop-place.at c.self.inside.chunks c.self.inside.rows.items c.args.self.now c.self.view_is c.loop-place.invariant.1
    c.in-Some.place c.key_at-chunk.result c.in-Some.ensures c.key_at-chunk.ensures c.self.invariant.apart c.self.invariant.sizes c.index.result.now c.index.ensures
    c.args.end c.loop-place.invariant.0 (omega (arith, c.if-chunk-end.false)) (sym c.has_between.ensures ∙ c.if-has_between.true)

pub loop-place-preserved : goal.loop-place-preserved
loop-place-preserved g c = (
  omega (arith, c.loop-place.invariant.0, c.in-Some.ensures.from_on, c.key_at-chunk.ensures),
  between_later c.args.from c.args.to c.args.first c.loop-place.at c.self.inside.chunks c.self.inside.rows.items c.args.self.now c.self.view_is c.loop-place.invariant.1
      c.in-Some.place c.key_at-chunk.result c.in-Some.ensures c.key_at-chunk.ensures c.self.invariant.apart c.self.invariant.sizes c.index.result.now c.index.ensures
      (sym c.has_between.ensures ∙ c.if-has_between.false),
)

pub returns : goal.returns
returns g c =
    between_end c.args.from c.args.to c.args.first c.loop-place.at c.self.inside.chunks c.self.inside.rows.items c.args.self.now c.self.view_is c.loop-place.invariant.1
    c.args.end c.in_default.ensures
