use Rattle.std.proofs.Common.{◌≡◌, ◌<◌, ◌^◌, ◌∙◌, Some, sym, ap, subst, arith}
use Rattle.std.specs.Cmp.Lexicographic.{bytes_decides}
use Rattle.std.specs.Option.{option_map}
use Rattle.authenticated_bitmap.specs.Tree.{leaf_hash, root_from_path}
use Rattle.authenticated_bitmap.specs.Root.{Shape, root_over, chunk_count, Fits}
use Rattle.authenticated_bitmap.proofs.Roots.{binds_chunk}
use Rattle.authenticated_bitmap.proofs.root.verify_chunk.Goals as goal

pub returns-in-Some-clause-binds : goal.returns-in-Some-clause-binds
returns-in-Some-clause-binds g c agrees =
    let H = g.D.Digest.digest_of c.args.hash.now in
    let s : Shape = record { width = g.row.N; len = c.args.len; pruned = c.args.pruned } in
    let n : c.div_ceil-n.result ≡ chunk_count s = c.div_ceil-n.ensures in
    let same : c.root_digest.result ≡ c.args.root.now = (bytes_decides c.root_digest.result c.args.root.now).0 (sym c.eq.ensures ∙ agrees) in
    let was : root_from_path H c.args.i c.div_ceil-n.result (leaf_hash H c.args.chunk.now) c.args.path.now ≡ Some c.in-Some.tree =
    ap (λ d. root_from_path H c.args.i c.div_ceil-n.result d c.args.path.now) (sym c.leaf_digest.ensures.value) ∙ sym c.in-Some.ensures.value in
    let leads : option_map (root_over H s) (root_from_path H c.args.i c.div_ceil-n.result (leaf_hash H c.args.chunk.now) c.args.path.now) ≡ Some c.args.root.now =
    ap (option_map (root_over H s)) was ∙ ap Some (sym c.root_digest.ensures ∙ same) in
    let width : g.row.N < 2 ^ 64 = omega (arith, c.requires.fits) in
    let fits : Fits s = record { width = width; len = omega (arith, c.ranges.len.fits); pruned = omega (arith, c.ranges.pruned.fits) } in
    binds_chunk H (g.met.D.Digest.is_hash c.args.hash.now) c.args.root.now s c.args.i c.args.chunk.now c.args.path.now fits c.leaf_digest.ensures.bytes c.in-Some.ensures.bytes
    (omega (arith, n, c.if-i-n.false), subst (λ m. option_map (root_over H s) (root_from_path H c.args.i m (leaf_hash H c.args.chunk.now) c.args.path.now) ≡ Some c.args.root.now) n leads)
