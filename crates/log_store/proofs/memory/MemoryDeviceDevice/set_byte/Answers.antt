use Rattle.log_store.specs.Device.{with_byte}
use Rattle.log_store.proofs.Past.{same_tears}
use Rattle.log_store.proofs.memory.MemoryDeviceDevice.set_byte.Goals as goal

pub returns-in_err-next-clause-crash : goal.returns-in_err-next-clause-crash
returns-in_err-next-clause-crash c behaves only lt bytes left =
    same_tears c.args.self.now.before c.args.self.now.bytes.items (with_byte c.args.at c.args.byte c.args.self.now.bytes.items) bytes only left
