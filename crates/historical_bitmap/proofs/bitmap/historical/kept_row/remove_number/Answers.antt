use Rattle.std.proofs.Common.{◌≡◌, ◌-◌, arith, None, subst, ◌∙◌}
use Rattle.std.proofs.lemmas.Bool.{ne_eqb}
use Rattle.std.specs.List.{remove}
use Rattle.chunk_map.specs.Entries.{Puts}
use Rattle.historical_bitmap.proofs.History.Positions.{last_up_to, none_up_to}
use Rattle.historical_bitmap.proofs.Index.Rows.{none_removed, removed_at, rise_removed}
use Rattle.historical_bitmap.proofs.bitmap.historical.kept_row.remove_number.Goals as goal

pub returns-then-past-eq0-clause-puts : goal.returns-then-past-eq0-clause-puts
returns-then-past-eq0-clause-puts g c =
    none_removed c.args.bytes.now.items c.args.number (none_up_to c.args.bytes.now.items c.search_past-past.result c.args.number c.search_past-past.ensures.earlier c.search_past-past.ensures.later c.if-past-eq0.true)

pub returns-then-kept-number-clause-rise : goal.returns-then-kept-number-clause-rise
returns-then-kept-number-clause-rise g c =
    let old = c.args.bytes.now.items in
    let place = c.search_past-past.result - 1 in
    let gone : c.remove.new.self.items ≡ remove old place = rw (c.remove.ensures.succeeds c.index-kept.result.now (omega arith)) at c.remove.ensures.items in
    rw gone (rise_removed old place c.requires.rise)

pub returns-then-kept-number-clause-puts : goal.returns-then-kept-number-clause-puts
returns-then-kept-number-clause-puts g c =
    let old = c.args.bytes.now.items in
    let place = c.search_past-past.result - 1 in
    let kept = c.index-kept.result.now in
    let gone : c.remove.new.self.items ≡ remove old place = rw (c.remove.ensures.succeeds kept (omega arith)) at c.remove.ensures.items in
    rw gone (subst (λ n. Puts old (remove old place) n None) c.if-kept-number.true (removed_at old place kept (omega arith) c.index-kept.ensures c.requires.rise))

pub returns-else-kept-number-clause-puts : goal.returns-else-kept-number-clause-puts
returns-else-kept-number-clause-puts g c =
    let old = c.args.bytes.now.items in
    let past = c.search_past-past.result in
    let kept = c.index-kept.result.now in
    none_removed old c.args.number
    (last_up_to old past c.args.number c.search_past-past.ensures.earlier c.search_past-past.ensures.later (past - 1) kept (omega (arith, c.if-past-eq0.false)) c.search_past-past.ensures.within c.index-kept.ensures c.requires.rise
    ∙ ne_eqb kept.0 c.args.number (omega (arith, c.if-kept-number.false)))
