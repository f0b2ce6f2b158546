use Rattle.std.proofs.Common.{None, ◌∙◌}
use Rattle.log_store.proofs.Past.{elapses_to, sync_keeps}
use Rattle.log_store.proofs.memory.MemoryDeviceDevice.sync.Goals as goal

pub returns-clause-crash : goal.returns-clause-crash
returns-clause-crash c behaves bytes left = sync_keeps c.args.self.now.before c.args.self.now.bytes.items bytes left

pub returns-clause-time : goal.returns-clause-time
returns-clause-time c behaves =
    let kept = c.in_ok-keep.ensures.ok in
    elapses_to c.args.self.now.past.items c.keep.new.past.items kept.0 c.args.self.now.bytes.items c.args.self.now.bytes.items c.args.self.now.before None (kept.1 ∙ c.deref.ensures.value) kept.2 kept.3
