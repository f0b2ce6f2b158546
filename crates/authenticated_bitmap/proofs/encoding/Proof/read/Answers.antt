use Rattle.std.proofs.Common.{◌≡◌, ◌+◌, ◌-◌, ◌*◌, ◌/◌, length, take, drop, Err, sym, ap, ◌∙◌, arith}
use Rattle.std.specs.Simd.{first_chunks}
use Rattle.std.proofs.lemmas.List.{length-take, length-drop, take_rest}
use Rattle.authenticated_bitmap.specs.Encoding.{number_at}
use Rattle.authenticated_bitmap.specs.declared.encoding.DecodeError.TheVariants.{Width, TooManyDigests}
use Rattle.authenticated_bitmap.proofs.Encodings.{read_as, refused_short, refused_width, refused_many, refused_length}
use Rattle.authenticated_bitmap.proofs.encoding.Proof.read.Goals as goal

pub returns-then-bytes-lt40 : goal.returns-then-bytes-lt40
returns-then-bytes-lt40 g c = refused_short g.row.N c.args.bytes.now c.if-bytes-lt40.true

pub returns-then-width : goal.returns-then-width
returns-then-width g c =
    refused_width g.row.N c.args.bytes.now c.if-bytes-lt40.false (λ e. c.if-width.true (c.number_at-width.ensures ∙ e)) ∙ ap (λ x. Err (Width x)) (sym c.number_at-width.ensures)

pub returns-then-count-gt64 : goal.returns-then-count-gt64
returns-then-count-gt64 g c =
    refused_many g.row.N c.args.bytes.now c.if-bytes-lt40.false (sym c.number_at-width.ensures ∙ c.if-width.false) (omega (arith, c.number_at-count.ensures, c.if-count-gt64.true))
    ∙ ap (λ x. Err (TooManyDigests x)) (sym c.number_at-count.ensures)

pub returns-in-None : goal.returns-in-None
returns-in-None g c =
    let bytes = c.args.bytes.now in
    refused_length g.row.N bytes c.if-bytes-lt40.false (sym c.number_at-width.ensures ∙ c.if-width.false) (omega (arith, c.number_at-count.ensures, c.if-count-gt64.false))
    (λ e. absurd (omega (arith, e, c.in-None.ensures.cases, length-take (length bytes - 40) (drop 40 bytes), length-drop 40 bytes)))

pub returns-then-digests-count : goal.returns-then-digests-count
returns-then-digests-count g c =
    let bytes = c.args.bytes.now in
    let parts = c.in-Some.ensures.cases in
    refused_length g.row.N bytes c.if-bytes-lt40.false (sym c.number_at-width.ensures ∙ c.if-width.false) (omega (arith, c.number_at-count.ensures, c.if-count-gt64.false))
    (λ e. absurd (omega (arith, e, parts.2, c.number_at-count.ensures, c.if-digests-count.true, length-take (length bytes - 40) (drop 40 bytes), length-drop 40 bytes)))

pub returns-else-digests-count : goal.returns-else-digests-count
returns-else-digests-count g c =
    let n = g.row.N in
    let bytes = c.args.bytes.now in
    let parts = c.in-Some.ensures.cases in
    let digests = c.in-Some.digests.now in
    let count : number_at 32 bytes ≡ c.number_at-count.result = sym c.number_at-count.ensures in
    let size : length digests ≡ 32 * number_at 32 bytes = omega (arith, count, c.if-digests-count.false) in
    let len : length bytes ≡ 40 + n + 32 * number_at 32 bytes =
    omega (arith, size, parts.2, c.if-bytes-lt40.false, length-take (length bytes - 40) (drop 40 bytes), length-drop 40 bytes) in
    let many : length digests / 32 ≡ number_at 32 bytes = omega (arith, size) in
    let rest = take_rest bytes 40 in
    read_as n bytes c.number_at.result c.number_at-in-Some.result c.number_at-in-Some-2.result c.in-Some.chunk.now c.as_chunks.result.0.now c.if-bytes-lt40.false
    (sym c.number_at-width.ensures ∙ c.if-width.false) (omega (arith, count, c.if-count-gt64.false)) len c.number_at.ensures c.number_at-in-Some.ensures c.number_at-in-Some-2.ensures
    (parts.0 ∙ ap (take n) rest)
    (c.as_chunks.ensures.front ∙ ap (λ k. first_chunks 32 k digests) many ∙ ap (first_chunks 32 (number_at 32 bytes)) (parts.1 ∙ ap (drop n) rest))
