use Rattle.std.proofs.Common.{◌≡◌, ◌≢◌, ◌+◌, ◌-◌, ◌*◌, ◌/◌, ◌%◌, length, take, drop, Err, sym, ap, ◌∙◌, arith}
use Rattle.std.specs.Simd.{first_chunks}
use Rattle.std.proofs.lemmas.Grind.{common_steps}
use Rattle.std.proofs.lemmas.List.{length-take, length-drop, take_rest}
use Rattle.authenticated_bitmap.specs.Encoding.{number_at}
use Rattle.authenticated_bitmap.specs.declared.encoding.DecodeError.TheVariants.{Width, TooManyDigests}
use Rattle.authenticated_bitmap.proofs.RangeEncodings.{range_read_as, range_short, range_width, range_many, range_length, cut_front, exact, inexact_count, inexact_rest}
use Rattle.authenticated_bitmap.proofs.range_encoding.RangeProof.read.Goals as goal
use Rattle.authenticated_bitmap.proofs.range_encoding.RangeProof.read.Goals.{then-chunks-count-via-then-chunks-count, then-chunks-count-via-else-chunks-count+then-not-is_empty}

pub returns-then-bytes-lt48 : goal.returns-then-bytes-lt48
returns-then-bytes-lt48 g c = range_short g.row.N c.args.bytes.now c.if-bytes-lt48.true

pub returns-then-width : goal.returns-then-width
returns-then-width g c =
    range_width g.row.N c.args.bytes.now c.if-bytes-lt48.false (λ e. c.if-width.true (c.number_at-width.ensures ∙ e)) ∙ ap (λ x. Err (Width x)) (sym c.number_at-width.ensures)

pub returns-then-digests-gt128 : goal.returns-then-digests-gt128
returns-then-digests-gt128 g c =
    range_many g.row.N c.args.bytes.now c.if-bytes-lt48.false (sym c.number_at-width.ensures ∙ c.if-width.false) (omega (arith, c.number_at-digests.ensures, c.if-digests-gt128.true))
    ∙ ap (λ x. Err (TooManyDigests x)) (sym c.number_at-digests.ensures)

pub returns-then-rest-size : goal.returns-then-rest-size
returns-then-rest-size g c =
    let bytes = c.args.bytes.now in
    range_length g.row.N bytes c.if-bytes-lt48.false (sym c.number_at-width.ensures ∙ c.if-width.false) (omega (arith, c.number_at-digests.ensures, c.if-digests-gt128.false))
    (λ e. absurd (omega (arith, e, c.if-rest-size.true, c.number_at-digests.ensures, length-take (length bytes - 48) (drop 48 bytes), length-drop 48 bytes)))

pub returns-then-chunks-count : goal.returns-then-chunks-count
returns-then-chunks-count g c =
    let n = g.row.N in
    let bytes = c.args.bytes.now in
    let size = length c.split_at.result.0.now in
    let rest : length (take (length bytes - 48) (drop 48 bytes)) ≡ length bytes - 48 = omega (arith, length-take (length bytes - 48) (drop 48 bytes), length-drop 48 bytes) in
    let sizes : length bytes ≡ 48 + number_at 32 bytes * n + 32 * number_at 40 bytes → size ≡ number_at 32 bytes * n =
    λ e. omega (arith, e, rest, c.split_at.ensures.front_len, c.number_at-digests.ensures, c.if-rest-size.false) in
    let chunks : length c.as_chunks.result.0.now ≡ size / n = c.as_chunks.ensures.front_len in
    let left : length c.as_chunks.result.1.now ≡ size % n = c.as_chunks.ensures.back_len in
    range_length n bytes c.if-bytes-lt48.false (sym c.number_at-width.ensures ∙ c.if-width.false) (omega (arith, c.number_at-digests.ensures, c.if-digests-gt128.false))
    (λ e. elim c.then-chunks-count.branch [
      | then-chunks-count-via-then-chunks-count w ↦ inexact_count n size (number_at 32 bytes) c.requires.some (λ q. w.if-chunks-count.true (chunks ∙ q ∙ sym c.number_at-count.ensures)) (sizes e)
      | then-chunks-count-via-else-chunks-count+then-not-is_empty w ↦ (
          let some : length c.as_chunks.result.1.now ≢ 0 = grind (arith, common_steps) in
          inexact_rest n size (number_at 32 bytes) c.requires.some (λ q. some (left ∙ q)) (sizes e))
    ])

pub returns : goal.returns
returns g c =
    let n = g.row.N in
    let bytes = c.args.bytes.now in
    let front = c.split_at.result.0.now in
    let back = c.split_at.result.1.now in
    let rest : take (length bytes - 48) (drop 48 bytes) ≡ drop 48 bytes = take_rest bytes 48 in
    let lr : length (take (length bytes - 48) (drop 48 bytes)) ≡ length bytes - 48 = omega (arith, length-take (length bytes - 48) (drop 48 bytes), length-drop 48 bytes) in
    let digests : c.number_at-digests.result ≡ number_at 40 bytes = c.number_at-digests.ensures in
    let none : length c.as_chunks.result.1.now ≡ 0 = grind (arith, common_steps) in
    let count : length front / n ≡ number_at 32 bytes = sym c.as_chunks.ensures.front_len ∙ c.if-chunks-count.false ∙ c.number_at-count.ensures in
    let size : length front ≡ number_at 32 bytes * n = exact n (length front) (number_at 32 bytes) c.requires.some count (sym c.as_chunks.ensures.back_len ∙ none) in
    let mid : length (take (length bytes - 48) (drop 48 bytes)) - 32 * c.number_at-digests.result ≡ number_at 32 bytes * n = sym c.split_at.ensures.front_len ∙ size in
    let len : length bytes ≡ 48 + number_at 32 bytes * n + 32 * number_at 40 bytes = omega (arith, mid, lr, digests, c.if-rest-size.false, c.if-bytes-lt48.false) in
    let lb : length back / 32 ≡ number_at 40 bytes = omega (arith, c.split_at.ensures.back_len, mid, lr, len) in
    let is_front : front ≡ take (number_at 32 bytes * n) (drop 48 bytes) = c.split_at.ensures.front ∙ ap (λ m. take m (take (length bytes - 48) (drop 48 bytes))) mid ∙ ap (take (number_at 32 bytes * n)) rest in
    let is_back : back ≡ drop (number_at 32 bytes * n) (drop 48 bytes) = c.split_at.ensures.back ∙ ap (λ m. drop m (take (length bytes - 48) (drop 48 bytes))) mid ∙ ap (drop (number_at 32 bytes * n)) rest in
    let chunks : c.as_chunks.result.0.now ≡ first_chunks n (number_at 32 bytes) (drop 48 bytes) =
    c.as_chunks.ensures.front ∙ ap (λ k. first_chunks n k front) count ∙ ap (first_chunks n (number_at 32 bytes)) is_front ∙ cut_front n (number_at 32 bytes) (number_at 32 bytes * n) (drop 48 bytes) (omega arith) in
    let siblings : c.as_chunks-2.result.0.now ≡ first_chunks 32 (number_at 40 bytes) (drop (number_at 32 bytes * n) (drop 48 bytes)) =
    c.as_chunks-2.ensures.front ∙ ap (λ k. first_chunks 32 k back) lb ∙ ap (first_chunks 32 (number_at 40 bytes)) is_back in
    range_read_as n bytes c.number_at.result c.number_at-2.result c.number_at-3.result c.as_chunks.result.0.now c.as_chunks-2.result.0.now c.if-bytes-lt48.false
    (sym c.number_at-width.ensures ∙ c.if-width.false) (omega (arith, digests, c.if-digests-gt128.false)) len c.number_at.ensures c.number_at-2.ensures c.number_at-3.ensures chunks siblings
