use Rattle.std.proofs.Common.{◌≡◌, ap, ◌∙◌}
use Rattle.std.specs.Prelude.{nat_eq}
use Rattle.std.specs.Set.{is_member}
use Rattle.historical_bitmap.specs.Changes.{changed, patched}
use Rattle.historical_bitmap.specs.View.{history_of}
use Rattle.historical_bitmap.proofs.Changes.Patched.{changed_exactly, changed_is, changed_rises, patched_changed}
use Rattle.historical_bitmap.proofs.laws.changes.changes_make_the_newer_state.Goals as goal
use Rattle.historical_bitmap.proofs.laws.changes.changes_make_the_newer_state.Given.{Over}
use Rattle.historical_bitmap.proofs.laws.changes.changes_make_the_newer_state.Goals.{In_ok-changes}

are : (g : Over) (c : In_ok-changes g) → c.in_ok-changes.changes ≡ changed g.row.N c.in_ok-older.older c.in_ok-newer.newer
are g c =
    changed_is g.row.N (history_of g.row.N c.args.bitmap.now) c.args.from c.args.to c.in_ok-older.older c.in_ok-newer.newer c.in_ok-changes.changes
    c.in_ok-changes.ensures.value c.in_ok-older.ensures.value c.in_ok-newer.ensures.value

pub returns-clause-exactly : goal.returns-clause-exactly
returns-clause-exactly g c = λ i. ap (λ xs. is_member nat_eq xs i) (are g c) ∙ changed_exactly g.row.N c.in_ok-older.older c.in_ok-newer.newer i c.len.ensures.width.positive

pub returns-clause-ascending : goal.returns-clause-ascending
returns-clause-ascending g c = rw (are g c) (changed_rises g.row.N c.in_ok-older.older c.in_ok-newer.newer)

pub returns-clause-patched : goal.returns-clause-patched
returns-clause-patched g c =
    ap (λ xs. patched g.row.N c.in_ok-older.older c.in_ok-newer.newer xs) (are g c) ∙ patched_changed g.row.N c.in_ok-older.older c.in_ok-newer.newer c.len.ensures.width.positive
