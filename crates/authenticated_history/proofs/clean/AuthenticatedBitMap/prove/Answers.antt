use Rattle.std.proofs.Common.{ap, sym}
use Rattle.bitmap_core.specs.Meaning.{pruned_meaning}
use Rattle.authenticated_history.proofs.StoredReads.{path_shows}
use Rattle.authenticated_history.proofs.clean.AuthenticatedBitMap.prove.Goals as goal

pub returns-clause-path : goal.returns-clause-path
returns-clause-path g c =
    rw (← c.self.view_is) (c.path_from.ensures c.self.inside.bits.current c.self.inside.digests.current (sym c.len.ensures.value) (ap (pruned_meaning 32) c.current.ensures) c.self.invariant.current)

pub returns-clause-shows : goal.returns-clause-shows
returns-clause-shows g c =
    let below = rw (← c.self.view_is) at c.requires in
    let is = c.path_from.ensures c.self.inside.bits.current c.self.inside.digests.current (sym c.len.ensures.value) (ap (pruned_meaning 32) c.current.ensures) c.self.invariant.current in
    rw (← c.self.view_is)
    (λ low. path_shows (λ path. path.items) c.path_from.result (g.D.Digest.digest_of c.self.inside.hash) g.row.N c.self.inside.bits.current c.self.inside.digests.current c.len.ensures.width c.len.ensures.bound c.self.invariant.current c.args.chunk is low below)
