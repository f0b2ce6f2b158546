use Rattle.std.proofs.Common.{◌≡◌, ap, arith, ◌∙◌}
use Rattle.bitmap_core.specs.PrunedBits.{bit_len}
use Rattle.bitmap_core.proofs.Pruned.Positions.{index_below_ceil}
use Rattle.authenticated_history.proofs.Verified.{leads_too}
use Rattle.authenticated_history.proofs.laws.proofs_verify.Goals as goal

pub get_chunk-chunk-requires : goal.get_chunk-chunk-requires
get_chunk-chunk-requires g c =
    let v = c.args.bitmap.now in
    let s_is : c.current-bits.result.now ≡ v.bits.current = c.current-bits.ensures ∙ ap (λ b. b.current) c.bits.ensures in
    (omega arith, (omega (arith, c.len-len.ensures.width.fits), rw s_is (c.requires.retained, index_below_ceil g.row.N (bit_len g.row.N v.bits.current) c.args.index c.len-len.ensures.width.positive c.requires.within)))

pub returns : goal.returns
returns g c =
    let v = c.args.bitmap.now in
    let s_is : c.current-bits.result.now ≡ v.bits.current = c.current-bits.ensures ∙ ap (λ b. b.current) c.bits.ensures in
    c.verify_chunk.ensures.value.1
    (leads_too (g.D.Digest.digest_of v.hash) (g.D.Digest.digest_of c.hash.result.now) g.row.N c.args.index c.len-len.result c.pruned_chunks-pruned.result v c.current-bits.result.now c.root-root.result c.get_chunk-chunk.result.now
    c.as_slice.result.now c.in_ok-path.path.items (ap g.D.Digest.digest_of c.hash.ensures) s_is c.root-root.ensures.value c.len-len.ensures.value c.pruned_chunks-pruned.ensures c.get_chunk-chunk.ensures c.as_slice.ensures.value
    (c.in_ok-path.ensures.shows c.requires.retained))
