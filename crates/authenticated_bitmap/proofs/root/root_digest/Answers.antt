use Rattle.std.proofs.Common.{◌∷◌, ◌++◌, ap, ◌∙◌}
use Rattle.authenticated_bitmap.specs.Root.{root_input}
use Rattle.authenticated_bitmap.proofs.root.root_digest.Goals as goal

pub returns : goal.returns
unfolding root_input
returns g c = c.digest.ensures ∙ ap (λ h. g.D.Digest.digest_of c.args.hash.now (2 ∷ h ++ c.args.tree.now)) c.header_bytes.ensures
