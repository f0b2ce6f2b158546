use Rattle.std.proofs.Common.{take}
use Rattle.log_store.proofs.Past.{same_tears}
use Rattle.log_store.proofs.memory.MemoryDeviceDevice.cut_to.Goals as goal

pub returns-in_err-next-clause-crash : goal.returns-in_err-next-clause-crash
returns-in_err-next-clause-crash c behaves only le bytes left =
    same_tears c.args.self.now.before c.args.self.now.bytes.items (take c.args.len c.args.self.now.bytes.items) bytes only left
