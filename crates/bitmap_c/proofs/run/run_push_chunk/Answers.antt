use Rattle.std.proofs.Common.{◌≡◌, ℕ, List, length, subst}
use Rattle.std.proofs.lemmas.Bool.{eq-eqb}
use Rattle.bitmap_session.specs.declared.command.Command.{Command}
use Rattle.bitmap_session.specs.declared.command.Command.TheVariants.{PushChunk}
use Rattle.bitmap_session.specs.Abstraction.{value_of}
use Rattle.bitmap_session.specs.Machine.{Machine}
use Rattle.bitmap_session.specs.Replies.{ReplyValue}
use Rattle.bitmap_c.specs.Calls.{Serves, ServesChunk}
use Rattle.bitmap_c.specs.Reports.{ReportsEdit}
use Rattle.bitmap_c.proofs.run.run_push_chunk.Goals as goal

-- with a buffer of the size of a chunk, the session makes the step of the command
of_size : (N size : ℕ) (old : Machine) (command : Command N) (Says : ReplyValue → Type 0) (Wrong : Type 0) (new : Machine)
    → size ≡ N → Serves N old command Says new → ServesChunk N size old command Says Wrong new
unfolding ServesChunk
of_size N size old command Says Wrong new same served = rw (eq-eqb size N same) served

pub returns : goal.returns
unfolding Serves ReportsEdit
returns g c =
    let served : Serves g.row.N c.args.session.now (PushChunk c.copy_from_slice.new.self) (ReportsEdit c.edit_reply_status.result) c.push_chunk.new.self =
    (value_of c.push_chunk.result, c.push_chunk.ensures, c.edit_reply_status.ensures) in
    of_size g.row.N (length c.args.bytes.now) c.args.session.now (PushChunk c.args.bytes.now) _ _ c.push_chunk.new.self c.if-bytes.false
    (subst (λ (bytes : List ℕ). Serves g.row.N c.args.session.now (PushChunk bytes) (ReportsEdit c.edit_reply_status.result) c.push_chunk.new.self)
    c.copy_from_slice.ensures.after served)
