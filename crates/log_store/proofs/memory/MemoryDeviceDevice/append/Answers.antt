use Rattle.std.proofs.Common.{◌++◌}
use Rattle.log_store.proofs.Past.{same_tears}
use Rattle.log_store.proofs.memory.MemoryDeviceDevice.append.Goals as goal

pub returns-in_err-next-clause-crash : goal.returns-in_err-next-clause-crash
returns-in_err-next-clause-crash c behaves only bytes left =
    same_tears c.args.self.now.before c.args.self.now.bytes.items (c.args.self.now.bytes.items ++ c.args.bytes.now) bytes only left

pub returns-in_err-extend_from_slice-clause-crash : goal.returns-in_err-extend_from_slice-clause-crash
returns-in_err-extend_from_slice-clause-crash c behaves only bytes left =
    same_tears c.args.self.now.before c.args.self.now.bytes.items (c.args.self.now.bytes.items ++ c.args.bytes.now) bytes only left
