use Rattle.std.proofs.Common.{◌≡◌, ◌*◌, ℕ, List, ap, sym, arith, ◌∙◌}
use Rattle.std.specs.Int.{div_ceil}
use Rattle.std.specs.Prelude.{Some}
use Rattle.bitmap_core.specs.PrunedBits.{bit_len}
use Rattle.commit_log.specs.Entries.{all_chunks}
use Rattle.commit_log.proofs.Checks.{equal, not_equal, scan_begun, scan_fails, scan_more, next_is, high_is, never_decided}
use Rattle.commit_log.proofs.check.lists_changes.Goals as goal

pub loop-index-init : goal.loop-index-init
loop-index-init g c = scan_begun g.row.N c.args.current.now c.args.change.now.pruned c.args.change.now.len c.len.ensures.width.positive c.requires.extent.rises (all_chunks g.row.N c.args.change.now.chunks.now)

pub returns-then-index-from : goal.returns-then-index-from
returns-then-index-from g c =
    let n = g.row.N in
    scan_fails n c.args.current.now c.args.change.now.pruned c.args.change.now.len c.len.ensures.width.positive c.requires.extent.rises c.loop-index.from (all_chunks n c.args.change.now.chunks.now) (all_chunks n c.loop-index.rest.now) (all_chunks n c.in-Some.after.now) (c.in-Some.index, c.in-Some.bytes.now)
    c.loop-index.invariant c.in-Some.ensures.some (λ x. omega (arith, x.order, c.if-index-from.true))

pub returns-then-index-last : goal.returns-then-index-last
returns-then-index-last g c =
    let n = g.row.N in
    let old_total : c.chunk_count-old_total.result ≡ div_ceil (bit_len n c.args.current.now) (8 * n) = c.chunk_count-old_total.ensures ∙ ap (λ (x : ℕ). div_ceil x (8 * n)) c.len.ensures.value in
    scan_fails n c.args.current.now c.args.change.now.pruned c.args.change.now.len c.len.ensures.width.positive c.requires.extent.rises c.loop-index.from (all_chunks n c.args.change.now.chunks.now) (all_chunks n c.loop-index.rest.now) (all_chunks n c.in-Some.after.now) (c.in-Some.index, c.in-Some.bytes.now)
    c.loop-index.invariant c.in-Some.ensures.some (λ x. omega (arith, x.skipped, c.if-index-last.true, c.max-last.ensures, old_total))

pub returns-then-index-total : goal.returns-then-index-total
returns-then-index-total g c =
    let n = g.row.N in
    let pos = c.len.ensures.width.positive in
    scan_fails n c.args.current.now c.args.change.now.pruned c.args.change.now.len pos c.requires.extent.rises c.loop-index.from (all_chunks n c.args.change.now.chunks.now) (all_chunks n c.loop-index.rest.now) (all_chunks n c.in-Some.after.now) (c.in-Some.index, c.in-Some.bytes.now)
    c.loop-index.invariant c.in-Some.ensures.some (λ x. omega (arith, c.if-index-total.true, high_is n c.args.current.now c.args.change.now.pruned c.args.change.now.len pos c.requires.extent.rises c.loop-index.from c.chunk_count-total.result (c.in-Some.index, c.in-Some.bytes.now) c.chunk_count-total.ensures x))

pub returns-then-not-is_zero_from : goal.returns-then-not-is_zero_from
returns-then-not-is_zero_from g c =
    let n = g.row.N in
    scan_fails n c.args.current.now c.args.change.now.pruned c.args.change.now.len c.len.ensures.width.positive c.requires.extent.rises c.loop-index.from (all_chunks n c.args.change.now.chunks.now) (all_chunks n c.loop-index.rest.now) (all_chunks n c.in-Some.after.now) (c.in-Some.index, c.in-Some.bytes.now)
    c.loop-index.invariant c.in-Some.ensures.some (λ x. never_decided c.is_zero_from.result c.is_zero_from.ensures c.if-not-is_zero_from.true x.listed.zeros)

pub returns-then-eq : goal.returns-then-eq
returns-then-eq g c =
    let n = g.row.N in
    scan_fails n c.args.current.now c.args.change.now.pruned c.args.change.now.len c.len.ensures.width.positive c.requires.extent.rises c.loop-index.from (all_chunks n c.args.change.now.chunks.now) (all_chunks n c.loop-index.rest.now) (all_chunks n c.in-Some.after.now) (c.in-Some.index, c.in-Some.bytes.now)
    c.loop-index.invariant c.in-Some.ensures.some (λ x. x.listed.differs (sym c.bytes_of.ensures ∙ equal c.eq.result c.bytes_of.result (Some c.in-Some.bytes.now) c.eq.ensures c.if-eq.true))

pub loop-index-preserved : goal.loop-index-preserved
loop-index-preserved g c =
    let n = g.row.N in
    let old_total : c.chunk_count-old_total.result ≡ div_ceil (bit_len n c.args.current.now) (8 * n) = c.chunk_count-old_total.ensures ∙ ap (λ (x : ℕ). div_ceil x (8 * n)) c.len.ensures.value in
    let e : ℕ × List ℕ = (c.in-Some.index, c.in-Some.bytes.now) in
    let next = next_is n c.args.current.now c.args.change.now.pruned c.args.change.now.len c.len.ensures.width.positive c.requires.extent.rises c.loop-index.from c.chunk_count-old_total.result c.chunk_count-total.result e old_total c.chunk_count-total.ensures c.loop-index.invariant.low
    c.if-index-from.false (omega (arith, c.if-index-last.false, c.max-last.ensures)) c.if-index-total.false c.known.ensures (c.is_zero_from.ensures.0 c.if-not-is_zero_from.false) (λ q. not_equal c.eq.result c.bytes_of.result (Some c.in-Some.bytes.now) c.eq.ensures c.if-eq.false (c.bytes_of.ensures ∙ q)) in
    scan_more n c.args.current.now c.args.change.now.pruned c.args.change.now.len c.len.ensures.width.positive c.requires.extent.rises c.loop-index.from (all_chunks n c.args.change.now.chunks.now) (all_chunks n c.loop-index.rest.now) (all_chunks n c.in-Some.after.now) e
    c.loop-index.invariant c.in-Some.ensures.some next
