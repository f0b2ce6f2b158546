use Rattle.std.proofs.Common.{ℕ, ◌*◌, List, [], arith, subst}
use Rattle.std.specs.Int.{div_ceil}
use Rattle.historical_bitmap.specs.History.{first_kept, past_number}
use Rattle.historical_bitmap.specs.Record.{ReverseRecord}
use Rattle.historical_bitmap.specs.Rewind.{Gathers, HasExtent}
use Rattle.historical_bitmap.proofs.History.InPlace.{entries_rise}
use Rattle.historical_bitmap.proofs.History.Rewound.{gathered_retained, pruned_below, rewound_is}
use Rattle.historical_bitmap.proofs.bitmap.historical.rewind.rewind.Goals as goal

pub gather-requires : goal.gather-requires
gather-requires g c = (
  omega arith,
  (
    omega (arith, c.requires.extent.width.fits),
    (c.requires.extent.width, rw c.past-past.ensures.later (entries_rise g.row.N (past_number c.args.number c.args.commits.now) c.args.current.now c.requires.undo)),
  ),
)

pub restore_extent-requires : goal.restore_extent-requires
restore_extent-requires g c = (
  omega arith,
  (
    c.requires.extent.width,
    (
      pruned_below g.row.N c.args.number c.args.commits.now c.args.current.now c.args.len c.args.pruned c.requires.undo c.requires.extent,
      c.requires.extent.within,
    ),
  ),
)

pub write_back-requires : goal.write_back-requires
write_back-requires g c =
    let sized : HasExtent g.row.N c.args.current.now c.args.pruned c.args.len c.restore_extent.new.current = c.in_ok-restore_extent.ensures.ok in
    let gathers : Gathers (first_kept (past_number c.args.number c.args.commits.now)) c.args.pruned (div_ceil c.args.len (8 * g.row.N)) [] c.in_ok-chunks.chunks.entries =
    subst (λ (end : ℕ). Gathers (first_kept (past_number c.args.number c.args.commits.now)) c.args.pruned end [] c.in_ok-chunks.chunks.entries) c.chunk_count.ensures
    (subst (λ (later : List (ℕ × ReverseRecord)). Gathers (first_kept later) c.args.pruned c.chunk_count.result [] c.in_ok-chunks.chunks.entries) c.past-past.ensures.later c.in_ok-chunks.ensures.ok) in (
      omega arith,
      (
        omega (arith, c.requires.extent.width.fits),
        (
          c.requires.extent.width,
          gathered_retained g.row.N c.args.number c.args.commits.now c.args.current.now c.args.len c.args.pruned c.requires.undo c.requires.extent c.in_ok-chunks.chunks.entries c.restore_extent.new.current gathers sized,
        ),
      ),
    )

pub returns-clause-ok : goal.returns-clause-ok
returns-clause-ok g c =
    let sized : HasExtent g.row.N c.args.current.now c.args.pruned c.args.len c.restore_extent.new.current = c.in_ok-restore_extent.ensures.ok in
    let gathers : Gathers (first_kept (past_number c.args.number c.args.commits.now)) c.args.pruned (div_ceil c.args.len (8 * g.row.N)) [] c.in_ok-chunks.chunks.entries =
    subst (λ (end : ℕ). Gathers (first_kept (past_number c.args.number c.args.commits.now)) c.args.pruned end [] c.in_ok-chunks.chunks.entries) c.chunk_count.ensures
    (subst (λ (later : List (ℕ × ReverseRecord)). Gathers (first_kept later) c.args.pruned c.chunk_count.result [] c.in_ok-chunks.chunks.entries) c.past-past.ensures.later c.in_ok-chunks.ensures.ok) in
    rewound_is g.row.N c.args.number c.args.commits.now c.args.current.now c.args.len c.args.pruned c.requires.undo c.requires.extent c.in_ok-chunks.chunks.entries c.restore_extent.new.current gathers sized
    c.write_back.new.current c.write_back.ensures
