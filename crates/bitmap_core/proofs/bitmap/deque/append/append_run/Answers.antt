use Rattle.std.proofs.Common.{◌≡◌, ◌≤◌, ◌-◌, ◌*◌, ◌∙◌, length, ap, arith}
use Rattle.std.specs.Int.{div_ceil}
use Rattle.bitmap_bytes.specs.Bits.{chunks_bit}
use Rattle.bitmap_bytes.proofs.Chunks.Places.{more_ceil, none_missing, index_below, IsChunkCount-ceil}
use Rattle.bitmap_core.proofs.bitmap.deque.append.append_run.Goals as goal

pub overflow_sub-count : goal.overflow_sub-count
overflow_sub-count g c =
    let f : length c.args.chunks.now.items ≤ div_ceil c.args.total (8 * g.row.N) =
    more_ceil g.row.N _ _ _ c.requires.width.positive c.requires.count c.requires.order in
    rw c.chunk_count-count.ensures (omega (arith, c.args.chunks.now.ok.0))

pub push_whole-requires : goal.push_whole-requires
push_whole-requires g c =
    let f : length c.args.chunks.now.items ≤ div_ceil c.args.total (8 * g.row.N) =
    more_ceil g.row.N _ _ _ c.requires.width.positive c.requires.count c.requires.order in
    let l : length c.fill_open.new.chunks.items ≡ length c.args.chunks.now.items = c.fill_open.ensures.count ∙ ap length c.reserve.ensures.items in
    let e = c.chunk_count-count.ensures in (
      omega (arith, c.requires.width.fits),
      (
        c.requires.width,
        (
          rw l c.requires.count.0,
          (rw l f, rw (c.fill_open.ensures.capacity, ← e) (omega (arith, c.args.chunks.now.ok.0, c.in_ok-reserve.ensures.ok, c.reserve.ensures.len))),
        ),
      ),
    )

pub returns-clause-count : goal.returns-clause-count
returns-clause-count g c = rw c.push_whole.ensures.count (IsChunkCount-ceil g.row.N c.args.total c.requires.width.positive)

pub returns-clause-kept : goal.returns-clause-kept
returns-clause-kept g c = λ i h.
    let l : length c.fill_open.new.chunks.items ≡ length c.args.chunks.now.items = c.fill_open.ensures.count ∙ ap length c.reserve.ensures.items in
    c.push_whole.ensures.kept i (rw l (index_below g.row.N _ c.args.len i c.requires.width.positive h c.requires.count))
    ∙ c.fill_open.ensures.kept i h
    ∙ ap (λ x. chunks_bit g.row.N x i) c.reserve.ensures.items

pub returns-in_err-reserve-clause-has_capacity : goal.returns-in_err-reserve-clause-has_capacity
returns-in_err-reserve-clause-has_capacity g c = λ h.
    let m : c.chunk_count-count.result - c.len.result ≡ div_ceil c.args.total (8 * g.row.N) - length c.args.chunks.now.items =
    rw c.chunk_count-count.ensures (omega (arith, c.args.chunks.now.ok.0)) in
    let z = m ∙ none_missing g.row.N (length c.args.chunks.now.items) c.args.total c.requires.width.positive h in
    absurd (omega (arith, c.in_err-reserve.ensures.full, c.args.chunks.now.ok, z))
