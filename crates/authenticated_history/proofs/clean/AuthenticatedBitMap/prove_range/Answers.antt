use Rattle.std.proofs.Common.{ap, sym}
use Rattle.bitmap_core.specs.Meaning.{pruned_meaning}
use Rattle.authenticated_history.proofs.RangeReads.{range_shows}
use Rattle.authenticated_history.proofs.clean.AuthenticatedBitMap.prove_range.Goals as goal

pub returns-clause-siblings : goal.returns-clause-siblings
returns-clause-siblings g c =
    rw (← c.self.view_is) (c.siblings_from.ensures c.self.inside.bits.current c.self.inside.digests.current (sym c.len.ensures.value) (ap (pruned_meaning 32) c.current.ensures) c.self.invariant.current)

pub returns-clause-shows : goal.returns-clause-shows
returns-clause-shows g c =
    let within = rw (← c.self.view_is) at c.requires.within in
    let is = c.siblings_from.ensures c.self.inside.bits.current c.self.inside.digests.current (sym c.len.ensures.value) (ap (pruned_meaning 32) c.current.ensures) c.self.invariant.current in
    rw (← c.self.view_is)
    (λ low. range_shows (λ siblings. siblings.items) c.siblings_from.result (g.D.Digest.digest_of c.self.inside.hash) g.row.N c.self.inside.bits.current c.self.inside.digests.current c.len.ensures.width c.len.ensures.bound c.self.invariant.current c.args.first c.args.count is low c.requires.some within)
