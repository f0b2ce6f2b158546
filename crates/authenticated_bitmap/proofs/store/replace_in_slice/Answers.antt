use Rattle.std.proofs.Common.{◌≤◌, ◌^◌, [], length, set, refl, sym, arith, ◌∙◌}
use Rattle.std.proofs.lemmas.List.{append-nil, length-set}
use Rattle.authenticated_bitmap.specs.Stored.{stored_below}
use Rattle.authenticated_bitmap.proofs.Complete.{below_power}
use Rattle.authenticated_bitmap.proofs.Nodes.{stored_at_height}
use Rattle.authenticated_bitmap.proofs.Replaced.{surely}
use Rattle.authenticated_bitmap.proofs.store.replace_in_slice.Goals as goal

pub returns-clause-value : goal.returns-clause-value
returns-clause-value g c digests l s =
    let H = g.D.Digest.digest_of c.args.hash.now in
    let new = set digests c.args.i c.args.digest.now in
    let fits : length digests ≤ 2 ^ 61 = omega (arith, l, c.requires.few) in
    let new_fits : length new ≤ 2 ^ 61 = omega (arith, fits, length-set digests c.args.i c.args.digest.now) in
    surely c.replace_below.result (c.replace_below.ensures.sure tt)
    (c.replace_below.ensures.value [] digests [] refl l
    (s ∙ stored_at_height H (length digests) 61 digests (below_power (length digests)) fits ∙ sym (append-nil (stored_below H 61 digests))))
    ∙ append-nil (stored_below H 61 new) ∙ stored_at_height H 61 (length new) new new_fits (below_power (length new))
