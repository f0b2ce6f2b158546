use Rattle.std.proofs.Common.{ap, sym, ◌∙◌, ◌*◌}
use Rattle.std.specs.Int.{div_ceil}
use Rattle.historical_bitmap.specs.View.{pending_of}
use Rattle.authenticated_bitmap.specs.Stored.{nodes}
use Rattle.authenticated_bitmap.proofs.Following.{code_cut, code_follows}
use Rattle.authenticated_bitmap.proofs.follow.update_digests.Goals as goal

pub append_zeros-requires-clause-size : goal.append_zeros-requires-clause-size
append_zeros-requires-clause-size g c =
    let edit = c.truncate_leaves_in_batch.ensures in
    record { pruned = edit.pruned; len = edit.count ∙ ap (λ k. 256 * nodes k) (sym c.min-kept.ensures) }

pub returns-clause-next : goal.returns-clause-next
returns-clause-next g c count_is a =
    let H = g.D.Digest.digest_of c.args.hash.now in
    let n = g.row.N in
    let batch = c.args.prepared.now.batch in
    let edit = c.truncate_leaves_in_batch.ensures in
    let cut = pending_of 32 c.truncate_leaves_in_batch.new.stored in
    let after_is = c.chunk_count-after.ensures ∙ ap (λ len. div_ceil len (8 * n)) c.pending_len.ensures in
    let made = code_cut H n c.requires.width.positive batch.current (pending_of n batch) (pending_of 32 c.args.stored.now) a c.args.count c.chunk_count-after.result c.pending_pruned_chunks-pruned.result
    count_is after_is c.pending_pruned_chunks-pruned.ensures c.min-kept.result cut c.min-kept.ensures edit.pruned edit.count (edit.value H) in
    let middle = c.in_ok-kept.ensures.tree made.tree in
    (code_follows H n c.requires.width.positive batch.current (pending_of n batch) (pending_of 32 c.args.stored.now) a c.args.count c.chunk_count-after.result c.pending_pruned_chunks-pruned.result
    count_is after_is c.pending_pruned_chunks-pruned.ensures c.min-kept.result c.in_ok-kept.kept c.in_ok-put_changed.field-0 cut (pending_of 32 c.append_zeros.new.stored) (pending_of 32 c.put_changed.new.stored)
    c.min-kept.ensures made.are (c.in_ok-kept.ensures.leaves made.tree) (c.in_ok-put_changed.ensures.leaves middle) (c.in_ok-put_changed.ensures.tree middle)).authenticates

pub returns-clause-leaves : goal.returns-clause-leaves
returns-clause-leaves g c count_is a =
    let H = g.D.Digest.digest_of c.args.hash.now in
    let n = g.row.N in
    let batch = c.args.prepared.now.batch in
    let edit = c.truncate_leaves_in_batch.ensures in
    let cut = pending_of 32 c.truncate_leaves_in_batch.new.stored in
    let after_is = c.chunk_count-after.ensures ∙ ap (λ len. div_ceil len (8 * n)) c.pending_len.ensures in
    let made = code_cut H n c.requires.width.positive batch.current (pending_of n batch) (pending_of 32 c.args.stored.now) a c.args.count c.chunk_count-after.result c.pending_pruned_chunks-pruned.result
    count_is after_is c.pending_pruned_chunks-pruned.ensures c.min-kept.result cut c.min-kept.ensures edit.pruned edit.count (edit.value H) in
    let middle = c.in_ok-kept.ensures.tree made.tree in
    (code_follows H n c.requires.width.positive batch.current (pending_of n batch) (pending_of 32 c.args.stored.now) a c.args.count c.chunk_count-after.result c.pending_pruned_chunks-pruned.result
    count_is after_is c.pending_pruned_chunks-pruned.ensures c.min-kept.result c.in_ok-kept.kept c.in_ok-put_changed.field-0 cut (pending_of 32 c.append_zeros.new.stored) (pending_of 32 c.put_changed.new.stored)
    c.min-kept.ensures made.are (c.in_ok-kept.ensures.leaves made.tree) (c.in_ok-put_changed.ensures.leaves middle) (c.in_ok-put_changed.ensures.tree middle)).are
