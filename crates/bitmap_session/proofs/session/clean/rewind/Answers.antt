use Rattle.std.proofs.Common.{refl}
use Rattle.bitmap_session.proofs.Steps.{not_rewound, rewound_to}
use Rattle.bitmap_session.proofs.session.clean.rewind.Goals as goal

pub returns-in-Ok : goal.returns-in-Ok
returns-in-Ok g c =
    let done = c.in-Ok.ensures in
    rewound_to g.row.N c.args.number c.args.bitmap c.in-Ok.bitmap done.current done.history done.costs done.last

pub returns-in-Err : goal.returns-in-Err
returns-in-Err g c =
    rw (c.from.ensures, c.in-Err.ensures.refused, c.in-Err.ensures.unchanged) (not_rewound g.row.N c.args.number c.args.bitmap _ refl)
