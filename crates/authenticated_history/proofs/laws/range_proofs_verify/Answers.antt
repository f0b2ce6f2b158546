use Rattle.std.proofs.Common.{◌≡◌, ap, length, map, ◌∙◌}
use Rattle.std.specs.List.{range_with_len}
use Rattle.bitmap_core.specs.PrunedBits.{chunk}
use Rattle.authenticated_history.proofs.Verified.{range_leads_too}
use Rattle.authenticated_history.proofs.laws.range_proofs_verify.Goals as goal

pub returns : goal.returns
returns g c =
    let v = c.args.bitmap.now in
    let s_is : c.current-bits.result.now ≡ v.bits.current = c.current-bits.ensures ∙ ap (λ b. b.current) c.bits.ensures in
    c.verify_range.ensures.value.1
    (range_leads_too (g.D.Digest.digest_of v.hash) (g.D.Digest.digest_of c.hash.result.now) g.row.N c.args.first c.len-len.result c.pruned_chunks-pruned.result v c.current-bits.result.now c.root-root.result c.args.chunks.now
    (map (chunk g.row.N v.bits.current) (range_with_len c.args.first (length c.args.chunks.now))) c.as_slice.result.now c.in_ok-siblings.siblings.items (ap g.D.Digest.digest_of c.hash.ensures) s_is c.root-root.ensures.value c.len-len.ensures.value
    c.pruned_chunks-pruned.ensures c.requires.bytes c.as_slice.ensures.value (c.in_ok-siblings.ensures.shows c.requires.retained))
