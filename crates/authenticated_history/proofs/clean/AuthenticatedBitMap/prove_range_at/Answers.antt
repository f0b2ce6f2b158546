use Rattle.std.proofs.Common.{◌≡◌, ◌*◌, ap, arith, refl, sym, ◌∙◌}
use Rattle.std.specs.Int.{div_ceil}
use Rattle.historical_bitmap.specs.Changes.{chunk_total}
use Rattle.authenticated_history.proofs.RangeReads.{range_there, version_shows_range}
use Rattle.authenticated_history.proofs.StoredReads.{authenticated_there}
use Rattle.authenticated_history.proofs.clean.AuthenticatedBitMap.prove_range_at.Goals as goal

pub returns-clause-shows : goal.returns-clause-shows
returns-clause-shows g c =
    let n = g.row.N in
    let s = c.in-Some.bits in
    let t = c.in-Some-at.digests in
    let total : c.chunk_count.result ≡ chunk_total n s = c.chunk_count.ensures ∙ ap (λ l. div_ceil l (8 * n)) c.len-len.ensures.value in
    let there = range_there c.args.first c.args.count c.chunk_count.result c.if-not-has_range.ensures in
    let a = authenticated_there (g.D.Digest.digest_of c.self.inside.hash) n c.args.number (record { hash = c.self.inside.hash; bits = c.self.inside.bits; digests = c.self.inside.digests }) s t c.self.invariant c.in-Some.ensures.width c.len-len.ensures.lawful c.in-Some.ensures.value c.in-Some-at.ensures.value in
    rw (← c.self.view_is)
    (version_shows_range (g.D.Digest.digest_of c.self.inside.hash) n c.args.number (record { hash = c.self.inside.hash; bits = c.self.inside.bits; digests = c.self.inside.digests }) s t c.self.invariant c.in-Some.ensures.width c.len-len.ensures.lawful c.in-Some.ensures.value c.in-Some-at.ensures.value c.args.first c.args.count c.in_ok-siblings.siblings.items
    there.0 (omega (arith, total, there.1)) (c.in_ok-siblings.ensures s t (sym c.len-len.ensures.value) refl a))
