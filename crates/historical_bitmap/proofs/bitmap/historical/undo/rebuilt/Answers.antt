use Rattle.std.proofs.Common.{◌≡◌, ℕ, ◌*◌, ◌≤◌, [], length, ap, arith, subst, sym, ◌∙◌}
use Rattle.std.specs.Int.{div_ceil}
use Rattle.bitmap_core.specs.PrunedBits.{PrunedBits, bit_len, truncated, unpruned}
use Rattle.historical_bitmap.specs.Undo.{pruned_chunk_bytes}
use Rattle.historical_bitmap.proofs.Records.UndoneInSteps.{alone, alone_count, alone_is, alone_long, alone_pruned, empty}
use Rattle.historical_bitmap.proofs.bitmap.historical.undo.rebuilt.Goals as goal

pub unprune-requires : goal.unprune-requires
unprune-requires g c =
    let pos = c.len-len.ensures.width.positive in
    let same : c.chunk_count-end.result ≡ div_ceil c.args.diff.now.len (8 * g.row.N) = c.chunk_count-end.ensures ∙ ap (λ (l : ℕ). div_ceil l (8 * g.row.N)) c.len-len.ensures.value in
    let chunks : c.deref.result.now ≡ pruned_chunk_bytes c.args.diff.now (div_ceil c.args.diff.now.len (8 * g.row.N)) =
    c.deref.ensures.value ∙ (c.in_ok-chunks.ensures ∙ ap (pruned_chunk_bytes c.args.diff.now) same) in
    let begun : c.unwrap-older.result ≡ record { pruned = c.chunk_count-end.result; bits = [] } = rw c.unwrap-older.ensures at c.new_with_pruned_chunks.ensures.ok in
    (omega arith, (omega (arith, c.len-len.ensures.width.fits), omega (arith, ap length chunks, alone_count g.row.N c.args.diff.now pos c.requires.fits c.requires.kept, ap (λ (b : PrunedBits). b.pruned) begun, same)))

pub truncate-requires : goal.truncate-requires
truncate-requires g c =
    let pos = c.len-len.ensures.width.positive in
    let same : c.chunk_count-end.result ≡ div_ceil c.args.diff.now.len (8 * g.row.N) = c.chunk_count-end.ensures ∙ ap (λ (l : ℕ). div_ceil l (8 * g.row.N)) c.len-len.ensures.value in
    let chunks : c.deref.result.now ≡ pruned_chunk_bytes c.args.diff.now (div_ceil c.args.diff.now.len (8 * g.row.N)) =
    c.deref.ensures.value ∙ (c.in_ok-chunks.ensures ∙ ap (pruned_chunk_bytes c.args.diff.now) same) in
    let begun : c.unwrap-older.result ≡ record { pruned = c.chunk_count-end.result; bits = [] } = rw c.unwrap-older.ensures at c.new_with_pruned_chunks.ensures.ok in
    let older = alone g.row.N c.args.diff.now pos c.requires.fits c.requires.kept in
    let made : c.unprune.new.self ≡ older =
    c.in_ok-unprune.ensures.ok
    ∙ (ap (λ b. unpruned g.row.N b c.deref.result.now) (begun ∙ ap (λ (p : ℕ). let v : PrunedBits = record { pruned = p; bits = [] } in v) same)
    ∙ ap (unpruned g.row.N (empty g.row.N c.args.diff.now pos c.requires.fits c.requires.kept)) chunks) in
    let front : c.unprune.new.self.pruned ≡ c.args.diff.now.pruned = ap (λ (b : PrunedBits). b.pruned) made ∙ alone_pruned g.row.N c.args.diff.now pos c.requires.fits c.requires.kept in
    let fits : 8 * g.row.N * c.args.diff.now.pruned ≤ c.len-len.result = omega (arith, c.requires.fits, c.len-len.ensures.value) in
    let long : c.len-len.result ≤ bit_len g.row.N older = omega (arith, alone_long g.row.N c.args.diff.now pos c.requires.fits c.requires.kept, c.len-len.ensures.value) in
    (omega arith, (subst (λ (p : ℕ). 8 * g.row.N * p ≤ c.len-len.result) (sym front) fits, subst (λ b. c.len-len.result ≤ bit_len g.row.N b) (sym made) long))

pub returns : goal.returns
returns g c =
    let pos = c.len-len.ensures.width.positive in
    let same : c.chunk_count-end.result ≡ div_ceil c.args.diff.now.len (8 * g.row.N) = c.chunk_count-end.ensures ∙ ap (λ (l : ℕ). div_ceil l (8 * g.row.N)) c.len-len.ensures.value in
    let chunks : c.deref.result.now ≡ pruned_chunk_bytes c.args.diff.now (div_ceil c.args.diff.now.len (8 * g.row.N)) =
    c.deref.ensures.value ∙ (c.in_ok-chunks.ensures ∙ ap (pruned_chunk_bytes c.args.diff.now) same) in
    let begun : c.unwrap-older.result ≡ record { pruned = c.chunk_count-end.result; bits = [] } = rw c.unwrap-older.ensures at c.new_with_pruned_chunks.ensures.ok in
    let older = alone g.row.N c.args.diff.now pos c.requires.fits c.requires.kept in
    let made : c.unprune.new.self ≡ older =
    c.in_ok-unprune.ensures.ok
    ∙ (ap (λ b. unpruned g.row.N b c.deref.result.now) (begun ∙ ap (λ (p : ℕ). let v : PrunedBits = record { pruned = p; bits = [] } in v) same)
    ∙ ap (unpruned g.row.N (empty g.row.N c.args.diff.now pos c.requires.fits c.requires.kept)) chunks) in
    λ newer.
    c.truncate.ensures
    ∙ (ap (λ b. truncated g.row.N b c.len-len.result) made
    ∙ (ap (truncated g.row.N older) c.len-len.ensures.value
    ∙ alone_is g.row.N c.args.diff.now pos c.requires.fits c.requires.kept newer))
