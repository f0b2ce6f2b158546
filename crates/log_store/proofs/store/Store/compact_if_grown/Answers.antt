use Rattle.std.proofs.Common.{ap, arith, ◌≤◌, ◌*◌, length, subst, sym}
use Rattle.commit_log.specs.History.{history_base, history_bytes, history_entries}
use Rattle.commit_log.specs.Kept.{kept_of}
use Rattle.commit_log.proofs.LogBytes.{place_counts}
use Rattle.log_store.proofs.store.Store.compact_if_grown.Goals as goal

pub returns-clause-bounded : goal.returns-clause-bounded
returns-clause-bounded g c =
    let n = g.row.N in
    let s = kept_of n c.args.self.now.bitmap in
    let new = c.compact.new.self in
    subst (λ b. new.log.place.at ≤ 2 * length (history_bytes n (kept_of n b))) (sym c.compact.ensures.unchanged)
    (omega (arith, ap (λ p. p.at) c.in_ok-compact.ensures.place, place_counts n (history_base s) (history_entries n s)))
