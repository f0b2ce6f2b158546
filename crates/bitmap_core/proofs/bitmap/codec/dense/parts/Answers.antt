use Rattle.std.proofs.Common.{◌≡◌, ◌≤◌, ◌*◌, ◌∙◌, ◌^◌, ◌<◌, length, drop, take, true, false, arith, rules, sym}
use Rattle.bitmap_bytes.specs.Bits.{chunk_count}
use Rattle.bitmap_core.specs.Decoding.{number, admits}
use Rattle.bitmap_bytes.proofs.Chunks.Places.{IsChunkCount-ceil}
use Rattle.bitmap_bytes.proofs.Chunks.OfBytes.{length-first_chunks}
use Rattle.bitmap_core.proofs.Codec.DecodeErrors.{sound-none, count-le}
use Rattle.bitmap_core.proofs.Codec.Parts.{bytes-lt, read_past, read_whole, read_rest, read_chunks, trailing_error}
use Rattle.bitmap_core.proofs.bitmap.codec.dense.parts.Goals as goal

pub overflow_mul-count : goal.overflow_mul-count
overflow_mul-count g c =
    let positive = c.requires.width.positive in
    rw c.chunk_count-count.ensures
    (omega (arith, bytes-lt g.row.N c.from_be_bytes-len.result positive c.requires.width.fits c.from_be_bytes-len.type_inv))

pub is_set_past-requires : goal.is_set_past-requires
is_set_past-requires g c = (
  omega (arith, c.requires.width.fits),
  (
    c.requires.width,
    rw (
      c.chunks_of-chunks.ensures,
      length-first_chunks,
      c.chunk_count-count.ensures,
    ) (IsChunkCount-ceil g.row.N c.from_be_bytes-len.result c.requires.width.positive),
  ),
)

pub returns-then-is_set_past-clause-refused : goal.returns-then-is_set_past-clause-refused
returns-then-is_set_past-clause-refused g c =
    let positive = c.requires.width.positive in
    let long : 8 ≤ length c.args.text.now = search rules in
    let len : c.from_be_bytes-len.result ≡ number c.args.text.now = search rules in
    let ok : admits c.args.range.now (number c.args.text.now) ≡ true = search rules in
    let count : c.chunk_count-count.result ≡ chunk_count g.row.N (number c.args.text.now) = search rules in
    let body : c.in_ok-front.body.now ≡ drop 8 c.args.text.now = search rules in
    let whole : g.row.N * c.chunk_count-count.result ≤ length c.in_ok-front.body.now = search rules in
    let bytes : c.in_ok-bytes.bytes.now ≡ take (g.row.N * c.chunk_count-count.result) c.in_ok-front.body.now = search rules in
    let few : chunk_count g.row.N (number c.args.text.now) < 2 ^ 64 =
    omega (arith, len, c.from_be_bytes-len.type_inv, count-le g.row.N (number c.args.text.now) positive) in
    trailing_error g.row.N _ c.args.text.now long ok few (read_whole g.row.N c.args.text.now _ _ count body long whole)
    (read_past g.row.N c.args.text.now _ _ true positive len
    (read_chunks g.row.N c.args.text.now _ _ count body _ _ bytes c.chunks_of-chunks.ensures)
    (sym c.if-is_set_past.true ∙ c.is_set_past.ensures))

pub returns-clause-accepted : goal.returns-clause-accepted
returns-clause-accepted g c =
    let positive = c.requires.width.positive in
    let long : 8 ≤ length c.args.text.now = search rules in
    let len : c.from_be_bytes-len.result ≡ number c.args.text.now = search rules in
    let ok : admits c.args.range.now (number c.args.text.now) ≡ true = search rules in
    let count : c.chunk_count-count.result ≡ chunk_count g.row.N (number c.args.text.now) = search rules in
    let body : c.in_ok-front.body.now ≡ drop 8 c.args.text.now = search rules in
    let whole : g.row.N * c.chunk_count-count.result ≤ length c.in_ok-front.body.now = search rules in
    let bytes : c.in_ok-bytes.bytes.now ≡ take (g.row.N * c.chunk_count-count.result) c.in_ok-front.body.now = search rules in
    sound-none g.row.N _ c.args.text.now (record {
      long = long;
      admitted = ok;
      count = omega (arith, len, c.from_be_bytes-len.type_inv, count-le g.row.N (number c.args.text.now) positive);
      whole = read_whole g.row.N c.args.text.now _ _ count body long whole;
      clear =
          read_past g.row.N c.args.text.now _ _ false positive len
          (read_chunks g.row.N c.args.text.now _ _ count body _ _ bytes c.chunks_of-chunks.ensures)
          (sym c.if-is_set_past.false ∙ c.is_set_past.ensures);
    })

pub returns-clause-rest : goal.returns-clause-rest
returns-clause-rest g c =
    let count : c.chunk_count-count.result ≡ chunk_count g.row.N (number c.args.text.now) = search rules in
    let body : c.in_ok-front.body.now ≡ drop 8 c.args.text.now = search rules in
    let rest : c.in_ok-bytes.rest.now ≡ drop (g.row.N * c.chunk_count-count.result) c.in_ok-front.body.now = search rules in
    read_rest g.row.N c.args.text.now _ _ count body _ rest
