use Rattle.std.proofs.Common.{ap, ◌∙◌}
use Rattle.std.specs.Prelude.{nat_eq}
use Rattle.std.specs.Set.{is_member}
use Rattle.historical_bitmap.specs.Changes.{patched}
use Rattle.historical_bitmap.specs.View.{pending_of}
use Rattle.historical_bitmap.proofs.Changes.Patched.{changed_exactly, changed_rises, patched_changed}
use Rattle.historical_bitmap.proofs.laws.changes.changes_make_the_pending_bitmap.Goals as goal

pub returns-clause-exactly : goal.returns-clause-exactly
returns-clause-exactly g c =
    λ i. ap (λ xs. is_member nat_eq xs i) c.changed_chunks.ensures.value ∙ changed_exactly g.row.N c.args.batch.now.current (pending_of g.row.N c.args.batch.now) i c.len.ensures.width.positive

pub returns-clause-ascending : goal.returns-clause-ascending
returns-clause-ascending g c = rw c.changed_chunks.ensures.value (changed_rises g.row.N c.args.batch.now.current (pending_of g.row.N c.args.batch.now))

pub returns-clause-patched : goal.returns-clause-patched
returns-clause-patched g c =
    ap (λ xs. patched g.row.N c.args.batch.now.current (pending_of g.row.N c.args.batch.now) xs) c.changed_chunks.ensures.value
    ∙ patched_changed g.row.N c.args.batch.now.current (pending_of g.row.N c.args.batch.now) c.len.ensures.width.positive
