use Rattle.std.proofs.Common.{◌≡◌, ◌-◌, ◌*◌, ◌∙◌, length, arith}
use Rattle.std.specs.Int.{div_ceil}
use Rattle.std.proofs.lemmas.Result.{on_ok_weaker}
use Rattle.bitmap_bytes.proofs.Chunks.Places.{none_missing}
use Rattle.bitmap_bytes.proofs.Chunks.Lists.{IsChunkCount-appended}
use Rattle.bitmap_core.proofs.bitmap.deque.growth.extend_zeros.Goals as goal

pub returns-clause-space : goal.returns-clause-space
returns-clause-space g c =
    let m : c.chunk_count.result - c.len.result ≡ div_ceil c.args.longer (8 * g.row.N) - length c.args.chunks.now.items =
    omega (arith, c.args.chunks.now.ok.0) in
    on_ok_weaker _ (IsChunkCount-appended _ _ _ _ _ _ _ c.requires.width.positive c.requires.count c.requires.order m) c.append_copies.ensures.ok

pub returns-clause-has_capacity : goal.returns-clause-has_capacity
returns-clause-has_capacity g c =
    let m : c.chunk_count.result - c.len.result ≡ div_ceil c.args.longer (8 * g.row.N) - length c.args.chunks.now.items =
    omega (arith, c.args.chunks.now.ok.0) in
    λ h. c.append_copies.ensures.none (m ∙ none_missing _ _ _ c.requires.width.positive h)
