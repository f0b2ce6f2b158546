use Rattle.std.proofs.Common.{ap, arith, ◌∙◌}
use Rattle.std.specs.List.{filter}
use Rattle.std.specs.Map.{keys_of}
use Rattle.bitmap_core.specs.PrunedBits.{truncated}
use Rattle.bitmap_core.proofs.Pruned.Edits.{len_truncated}
use Rattle.historical_bitmap.specs.Changes.{differs, listed}
use Rattle.historical_bitmap.specs.History.{before_latest}
use Rattle.historical_bitmap.specs.Pending.{pending_bits}
use Rattle.historical_bitmap.specs.Record.{ReverseRecord}
use Rattle.historical_bitmap.proofs.Changes.Prepared.{entries_changed, entries_indices}
use Rattle.historical_bitmap.proofs.Pending.Prepared.{found_diff}
use Rattle.historical_bitmap.proofs.bitmap.historical.prepared.PreparedBitMap.changed_chunks.Goals as goal

pub new-requires : goal.new-requires
new-requires g c =
    let i = c.self.invariant in
    let old = truncated g.row.N c.self.inside.current c.self.inside.old_len in
    let found = found_diff g.row.N old (before_latest c.self.inside.commits) c.self.inside.commits c.self.inside.edits c.self.inside.number c.self.inside.current i.is_extended.width.positive i.is_extended.edits_fit i.prepared
    c.len-3.result (c.commit.result.0, c.commit.result.1.now) c.len-3.ensures c.commit.ensures in
    let entries = c.chunk_diffs.ensures ∙ ap (λ (r : ReverseRecord). r.entries) found in
    let cut = len_truncated g.row.N c.self.inside.current c.self.inside.old_len i.is_extended.low i.is_extended.high in (
      omega arith,
      (
        omega arith,
        (
          omega arith,
          (
            omega arith,
            (
              i.is_extended,
              rw entries
                  (entries_indices g.row.N old c.self.inside.edits i.prepared.diff i.is_extended.width.positive i.is_extended.edits_fit i.prepared.reverses (omega (arith, cut, i.is_extended.high, c.len.ensures.bound)) c.len-2.ensures.bound),
            ),
          ),
        ),
      ),
    )

pub returns : goal.returns
returns g c =
    let i = c.self.invariant in
    let old = truncated g.row.N c.self.inside.current c.self.inside.old_len in
    let new = pending_bits g.row.N old c.self.inside.edits in
    let found = found_diff g.row.N old (before_latest c.self.inside.commits) c.self.inside.commits c.self.inside.edits c.self.inside.number c.self.inside.current i.is_extended.width.positive i.is_extended.edits_fit i.prepared
    c.len-3.result (c.commit.result.0, c.commit.result.1.now) c.len-3.ensures c.commit.ensures in
    let entries = c.chunk_diffs.ensures ∙ ap (λ (r : ReverseRecord). r.entries) found in
    rw (← c.self.view_is) (c.new.ensures ∙ ap (listed g.row.N new) (ap (λ es. filter (differs g.row.N old new) (keys_of es)) entries
    ∙ entries_changed g.row.N old c.self.inside.edits i.prepared.diff i.is_extended.width.positive i.is_extended.edits_fit i.prepared.reverses))
