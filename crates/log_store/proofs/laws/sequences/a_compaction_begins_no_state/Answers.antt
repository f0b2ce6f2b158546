use Rattle.std.proofs.Common.{length, subst, sym}
use Rattle.commit_log.specs.Kept.{kept_of}
use Rattle.log_store.specs.Sequences.{IsSequence}
use Rattle.log_store.proofs.Sequenced.{after_compaction, compacts, refused}
use Rattle.log_store.proofs.laws.sequences.a_compaction_begins_no_state.Goals as goal

pub returns : goal.returns
returns g c device states calls =
    let n = g.row.N in
    let laws = c.a_compacted_log_makes_each_state.ensures in
    let pos = c.requires.positive in
    let old = c.args.store.now in
    let new = c.compact.new.self in
    let state = kept_of n old.bitmap in
    let done = c.compact.ensures in
    let goes_on = compacts n g.D.Device device states state old.log new.log (λ s ends. laws.made n s pos ends) (λ s has. laws.is_log n s pos has)
    (λ h. after_compaction n g.D.Device c.compact.result state old.log new.log h (done.compacted h.base h.entries (length h.entries) h.stored) done.log) (λ h. done.any_moment h.base h.entries (length h.entries) h.stored)
    (λ read_only. refused n g.D.Device c.compact.result old.log new.log (done.read_only read_only) done.log) calls in
    subst (λ b. IsSequence n g.D.Device device states (kept_of n b) new.log) (sym done.unchanged) goes_on
