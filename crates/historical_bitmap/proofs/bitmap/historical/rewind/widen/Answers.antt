use Rattle.std.proofs.Common.{◌≡◌, ap, arith, ◌∙◌}
use Rattle.bitmap_core.specs.PrunedBits.{extended, unpruned}
use Rattle.historical_bitmap.proofs.History.Rewound.{extent_restored, whole_fits}
use Rattle.historical_bitmap.proofs.bitmap.historical.rewind.widen.Goals as goal

pub truncate-requires : goal.truncate-requires
truncate-requires g c =
    let made : c.unprune.new.self ≡ unpruned g.row.N (extended g.row.N c.args.current.now c.args.len) c.args.prefix.now =
    c.in-Ok.ensures.ok ∙ ap (λ b. unpruned g.row.N b c.args.prefix.now) c.in_ok-before.ensures.ok in
    (omega arith, rw made (c.requires.within, whole_fits g.row.N c.args.current.now c.args.prefix.now c.args.len c.requires.width.positive c.requires.pruned c.requires.within))

pub returns-clause-ok : goal.returns-clause-ok
returns-clause-ok g c =
    let made : c.unprune.new.self ≡ unpruned g.row.N (extended g.row.N c.args.current.now c.args.len) c.args.prefix.now =
    c.in-Ok.ensures.ok ∙ ap (λ b. unpruned g.row.N b c.args.prefix.now) c.in_ok-before.ensures.ok in
    rw (c.truncate.ensures, made) (extent_restored g.row.N c.args.current.now c.args.prefix.now c.args.len c.requires.width.positive c.requires.pruned c.requires.within)
