use Rattle.std.proofs.Common.{ap, arith, sym, ◌∙◌}
use Rattle.std.specs.Prelude.{option_copied}
use Rattle.historical_bitmap.proofs.History.InPlace.{current_has, current_shows, kept_shows}
use Rattle.historical_bitmap.proofs.History.KeptCommits.{can_undo_past}
use Rattle.historical_bitmap.proofs.bitmap.historical.at.BitMap+N+Clean.kept_or_current.Goals as goal

pub get_chunk-requires : goal.get_chunk-requires
get_chunk-requires g c =
    let all = can_undo_past g.row.N c.args.number c.self.inside.commits c.self.inside.current c.self.invariant.1.rise c.self.invariant.1.undo in
    let none = sym (rw (← c.self.view_is) at c.requires.kept) ∙ ap option_copied c.in-None.is in
    (omega arith, (omega arith, current_has g.row.N c.args.number c.self.inside.commits c.self.inside.current c.args.chunk c.len.ensures.width.positive all none (rw (← c.self.view_is) at c.requires.retained)))

pub returns-in-Some : goal.returns-in-Some
returns-in-Some g c =
    let all = can_undo_past g.row.N c.args.number c.self.inside.commits c.self.inside.current c.self.invariant.1.rise c.self.invariant.1.undo in
    let found = sym (rw (← c.self.view_is) at c.requires.kept) ∙ ap option_copied c.in-Some.is in
    let has = rw (← c.self.view_is) at c.requires.retained in
    rw (← c.self.view_is) (kept_shows g.row.N c.args.number c.self.inside.commits c.self.inside.current c.args.chunk c.len.ensures.width.positive all c.in-Some.bytes.now found has.0)

pub returns-in-None : goal.returns-in-None
returns-in-None g c =
    let all = can_undo_past g.row.N c.args.number c.self.inside.commits c.self.inside.current c.self.invariant.1.rise c.self.invariant.1.undo in
    let none = sym (rw (← c.self.view_is) at c.requires.kept) ∙ ap option_copied c.in-None.is in
    let has = rw (← c.self.view_is) at c.requires.retained in
    rw (← c.self.view_is, c.get_chunk.ensures) (current_shows g.row.N c.args.number c.self.inside.commits c.self.inside.current c.args.chunk c.len.ensures.width.positive all none has.0)
