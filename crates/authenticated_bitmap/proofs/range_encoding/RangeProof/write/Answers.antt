use Rattle.authenticated_bitmap.specs.RangeEncoding.{ChunkRangeProof}
use Rattle.authenticated_bitmap.proofs.RangeEncodings.{range_write_as}
use Rattle.authenticated_bitmap.proofs.range_encoding.RangeProof.write.Goals as goal

pub returns : goal.returns
returns g c =
    let self = c.args.self.now in
    let p : ChunkRangeProof = record { shape = record { width = g.row.N; len = self.len; pruned = self.pruned }; first = self.first; chunks = self.chunks.now; siblings = self.siblings.now } in
    range_write_as p c.header_bytes.result c.to_be_bytes.result c.to_be_bytes-2.result c.to_be_bytes-3.result c.as_flattened.result.now c.as_flattened-2.result.now c.new-bytes.result.items
    c.extend_from_slice.new.self.items c.extend_from_slice-2.new.self.items c.extend_from_slice-3.new.self.items c.extend_from_slice-4.new.self.items c.extend_from_slice-5.new.self.items c.extend_from_slice-6.new.self.items
    c.new-bytes.ensures.items c.in_ok-extend_from_slice.ensures.items c.in_ok-extend_from_slice-2.ensures.items c.in_ok-extend_from_slice-3.ensures.items c.in_ok-extend_from_slice-4.ensures.items c.in_ok-extend_from_slice-5.ensures.items c.in_ok-extend_from_slice-6.ensures.items
    c.header_bytes.ensures c.to_be_bytes.ensures c.to_be_bytes-2.ensures c.to_be_bytes-3.ensures c.as_flattened.ensures.value c.as_flattened-2.ensures.value
