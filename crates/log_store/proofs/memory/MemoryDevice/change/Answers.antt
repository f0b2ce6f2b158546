use Rattle.std.proofs.Common.{◌≡◌, ◌∙◌, Some, ℕ, Vec, subst}
use Rattle.std.specs.Option.{unwrap_or}
use Rattle.std.specs.declared.alloc.Global.{Global}
use Rattle.log_store.specs.Device.{MayTear}
use Rattle.log_store.specs.Past.{kept_before}
use Rattle.log_store.proofs.Past.{change_tears, elapses_to, same_tears}
use Rattle.log_store.proofs.memory.MemoryDevice.change.Goals as goal

pub returns-in_err-keep-clause-crash : goal.returns-in_err-keep-clause-crash
returns-in_err-keep-clause-crash c only bytes left =
    same_tears c.args.self.now.before c.args.self.now.bytes.items c.args.next.items bytes only left

pub returns-clause-crash : goal.returns-clause-crash
returns-clause-crash c only bytes left =
    let old = c.args.self.now.bytes.items in
    let is : kept_before c.first_kept.result ≡ Some (unwrap_or (kept_before c.args.self.now.before) old) =
    c.first_kept.ensures ∙ (λ i. Some (unwrap_or (kept_before (c.take.ensures.value i)) (c.replace-bytes.ensures.value i).items)) in
    subst (λ (v : Vec ℕ Global). MayTear old v.items bytes) c.replace-bytes.ensures.after (change_tears c.args.self.now.before c.first_kept.result old c.replace-bytes.new.dest.items bytes is only left)

pub returns-clause-time : goal.returns-clause-time
returns-clause-time c =
    let kept = c.in_ok-keep.ensures.ok in
    elapses_to c.args.self.now.past.items c.keep.new.past.items kept.0 c.args.self.now.bytes.items c.replace-bytes.new.dest.items c.args.self.now.before c.first_kept.result (kept.1 ∙ c.deref.ensures.value) kept.2 kept.3
