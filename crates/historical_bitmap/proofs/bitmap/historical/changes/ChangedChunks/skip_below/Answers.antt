use Rattle.historical_bitmap.proofs.Changes.Next.{none_skipped, skipped_to}
use Rattle.historical_bitmap.proofs.bitmap.historical.changes.ChangedChunks.skip_below.Goals as goal

pub returns-then-self-chunk : goal.returns-then-self-chunk
returns-then-self-chunk g c =
    rw (← c.self.view_is)
    (skipped_to g.row.N c.self.inside.states.old c.self.inside.states.new c.self.inside.next c.self.inside.states.end c.args.chunk c.if-self-chunk.true)

pub returns-else-self-chunk : goal.returns-else-self-chunk
returns-else-self-chunk g c =
    rw (← c.self.view_is)
    (none_skipped g.row.N c.self.inside.states.old c.self.inside.states.new c.self.inside.next c.self.inside.states.end c.args.chunk c.if-self-chunk.false)
