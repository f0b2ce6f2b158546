use Rattle.std.proofs.Common.{◌≡◌, ℕ, false, true, List, [], arith, drop, subst, sym, ◌∙◌}
use Rattle.historical_bitmap.specs.History.{first_kept, past_number}
use Rattle.historical_bitmap.specs.Record.{ReverseRecord}
use Rattle.historical_bitmap.specs.Rewind.{Gathers}
use Rattle.historical_bitmap.proofs.History.Gathered.{gathers_none}
use Rattle.historical_bitmap.proofs.History.InPlace.{entries_rise}
use Rattle.historical_bitmap.proofs.History.KeptCommits.{can_undo_past, found_under}
use Rattle.historical_bitmap.proofs.bitmap.historical.gathered.BitMap+N+Clean.gathered.Goals as goal

pub gather-requires : goal.gather-requires
gather-requires g c =
    let all = can_undo_past g.row.N c.args.number c.self.inside.commits c.self.inside.current c.self.invariant.1.rise c.self.invariant.1.undo in (
      omega arith,
      (
        omega (arith, c.len.ensures.width.fits),
        (c.len.ensures.width, rw c.past-past.ensures.later (entries_rise g.row.N (past_number c.args.number c.self.inside.commits) c.self.inside.current all)),
      ),
    )

pub returns-in_err-indices-clause-none : goal.returns-in_err-indices-clause-none
returns-in_err-indices-clause-none g c = λ none.
    let nothing = c.past-past.ensures.later ∙ (rw (← c.self.view_is) at none) in
    let no : false ≡ true = c.in_err-indices.ensures.none (gathers_none (drop c.past-past.result c.self.inside.commits) c.extent_before-len.result.1 c.chunk_count.result c.in_ok-changed.changed.entries nothing c.in_ok-changed.ensures.ok) in
    absurd (cc)

pub invariant_of-result : goal.invariant_of-result
invariant_of-result g c =
    let later : drop c.past-past.result c.args.self.now.commits ≡ past_number c.args.number c.args.self.now.commits = rw (← c.self.view_is) c.past-past.ensures.later in
    record {
      extent = c.extent_before-len.ensures c.args.number later;
      bytes = subst (λ (end : ℕ). Gathers (first_kept (past_number c.args.number c.args.self.now.commits)) c.extent_before-len.result.1 end [] c.in_ok-changed.changed.entries) c.chunk_count.ensures
          (rw (← c.self.view_is) (subst (λ (commits : List (ℕ × ReverseRecord)). Gathers (first_kept commits) c.extent_before-len.result.1 c.chunk_count.result [] c.in_ok-changed.changed.entries)
          c.past-past.ensures.later c.in_ok-changed.ensures.ok));
      indices_are = c.in_ok-indices.ensures.ok;
      ascend = rw c.in_ok-indices.ensures.ok c.order.ensures.sorted;
    }

pub returns-clause-value : goal.returns-clause-value
returns-clause-value g c =
    let there = rw (← c.self.view_is) at (sym c.if-not-commit_exists.ensures.value) in
    rw (← c.self.view_is) (sym (found_under g.row.N c.args.number c.self.inside.commits c.self.inside.current c.self.invariant.1.rise there))
