use Rattle.std.proofs.Common.{◌≡◌, ◌<◌, ◌≤◌, ◌+◌, ◌^◌, ◌∙◌, Some, length, sym, ap, subst, arith}
use Rattle.std.specs.Cmp.Lexicographic.{bytes_decides}
use Rattle.std.specs.Option.{option_map}
use Rattle.authenticated_bitmap.specs.Tree.{leaf_hashes}
use Rattle.authenticated_bitmap.specs.Root.{Shape, root_over, chunk_count, Fits}
use Rattle.authenticated_bitmap.specs.Range.{tree_from_range}
use Rattle.authenticated_bitmap.proofs.RangeRoots.{binds_range}
use Rattle.authenticated_bitmap.proofs.range.verify_range.Goals as goal

pub returns-in-Some-clause-binds : goal.returns-in-Some-clause-binds
returns-in-Some-clause-binds g c agrees =
    let H = g.D.Digest.digest_of c.args.hash.now in
    let s : Shape = record { width = g.row.N; len = c.args.len; pruned = c.args.pruned } in
    let range = leaf_hashes H c.args.chunks.now in
    let n : c.div_ceil-n.result ≡ chunk_count s = c.div_ceil-n.ensures in
    let some : 0 < length c.args.chunks.now = omega arith in
    let same : c.root_digest.result ≡ c.args.root.now = (bytes_decides c.root_digest.result c.args.root.now).0 (sym c.eq.ensures ∙ agrees) in
    let leads : option_map (root_over H s) (tree_from_range H c.args.first c.div_ceil-n.result range c.args.siblings.now) ≡ Some c.args.root.now =
    ap (option_map (root_over H s)) (sym c.in-Some.ensures.value) ∙ ap Some (sym c.root_digest.ensures ∙ same) in
    let width : g.row.N < 2 ^ 64 = omega (arith, c.requires.fits) in
    let fits : Fits s = record { width = width; len = omega (arith, c.ranges.len.fits); pruned = omega (arith, c.ranges.pruned.fits) } in
    let within : c.args.first + length c.args.chunks.now ≤ chunk_count s = omega arith in
    binds_range H (g.met.D.Digest.is_hash c.args.hash.now) c.args.root.now s c.args.first c.args.chunks.now c.args.siblings.now fits c.in-Some.ensures.bytes c.in-Some.ensures.digests
    (some, within, subst (λ m. option_map (root_over H s) (tree_from_range H c.args.first m range c.args.siblings.now) ≡ Some c.args.root.now) n leads)
