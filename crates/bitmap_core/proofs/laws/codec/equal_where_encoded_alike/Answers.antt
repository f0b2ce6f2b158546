use Rattle.std.proofs.Common.{ap, sym, ◌∙◌}
use Rattle.std.specs.Cmp.{booleans_Decides}
use Rattle.std.specs.Cmp.Lexicographic.{pointwise_decides}
use Rattle.bitmap_core.specs.Encoding.{encoding}
use Rattle.bitmap_core.proofs.Codec.Encodings.{same_where_encoded}
use Rattle.bitmap_core.proofs.laws.codec.equal_where_encoded_alike.Goals as goal

pub returns-clause-lists : goal.returns-clause-lists
returns-clause-lists g c =
    let d = pointwise_decides booleans_Decides c.args.a.now c.args.b.now in
    (λ t. d.0 (sym c.eq.ensures ∙ t), λ q. c.eq.ensures ∙ d.1 q)

pub returns-clause-bytes : goal.returns-clause-bytes
returns-clause-bytes g c =
    let d = pointwise_decides booleans_Decides c.args.a.now c.args.b.now in (
      λ t. ap (encoding g.row.N) (d.0 (sym c.eq.ensures ∙ t)),
      λ q. c.eq.ensures
          ∙ d.1 (same_where_encoded g.row.N c.args.a.now c.args.b.now c.len.ensures.width.positive c.len.ensures.bound c.len-2.ensures.bound q),
    )
