use Rattle.std.proofs.Common.{◌∙◌}
use Rattle.commit_log.specs.Kept.{kept_of}
use Rattle.log_store.proofs.Compactions.{compacted, compacting, not_compacted}
use Rattle.log_store.proofs.store.Store.compact.Goals as goal

pub returns-then-self-clause-any_moment : goal.returns-then-self-clause-any_moment
returns-then-self-clause-any_moment g c base begun kept h =
    let n = g.row.N in
    not_compacted n g.D.Device base begun kept (kept_of n c.args.self.now.bitmap) (kept_of n c.args.self.now.bitmap) c.args.self.now.log (λ f works left. g.met.D.Device.only_now c.args.self.now.log.device f works left) h

pub returns-in_default-clause-any_moment : goal.returns-in_default-clause-any_moment
returns-in_default-clause-any_moment g c base begun kept h =
    let n = g.row.N in
    not_compacted n g.D.Device base begun kept (kept_of n c.args.self.now.bitmap) (kept_of n c.args.self.now.bitmap) c.args.self.now.log (λ f works left. g.met.D.Device.only_now c.args.self.now.log.device f works left) h

pub returns-in-Err-clause-any_moment : goal.returns-in-Err-clause-any_moment
returns-in-Err-clause-any_moment g c base begun kept h =
    let n = g.row.N in
    let old = c.args.self.now.log in
    let w = (h.written c.if-self.false).1 in
    compacting n g.D.Device base begun kept (kept_of n c.args.self.now.bitmap) (kept_of n c.args.self.now.bitmap) old c.replace_synced.new.device c.deref.result.now c.in-Ok.ensures.log c.in-Ok.ensures.ends h w.bytes (c.deref.ensures.value ∙ c.in-Ok.ensures.bytes) (c.replace_synced.ensures.any_moment w.rest)

pub returns-clause-any_moment : goal.returns-clause-any_moment
returns-clause-any_moment g c base begun kept h =
    let n = g.row.N in
    let old = c.args.self.now.log in
    let w = (h.written c.if-self.false).1 in
    compacting n g.D.Device base begun kept (kept_of n c.args.self.now.bitmap) (kept_of n c.args.self.now.bitmap) old c.replace_synced.new.device c.deref.result.now c.in-Ok.ensures.log c.in-Ok.ensures.ends h w.bytes (c.deref.ensures.value ∙ c.in-Ok.ensures.bytes) (c.replace_synced.ensures.any_moment w.rest)

pub returns-clause-compacted : goal.returns-clause-compacted
returns-clause-compacted g c base begun kept h =
    let n = g.row.N in
    let s = kept_of n c.args.self.now.bitmap in
    let w = (h.written c.if-self.false).1 in
    let laws = c.a_compacted_log_makes_each_state.ensures in
    let pos = c.len.ensures.width.positive in
    let done = c.in_default-replace_synced.ensures.written w.rest in
    compacted n g.D.Device s _ (laws.is_log n s pos c.in-Ok.ensures.log) (laws.made n s pos c.in-Ok.ensures.ends) done.0 (done.1 ∙ c.deref.ensures.value ∙ c.in-Ok.ensures.bytes) c.in-Ok.ensures.place
