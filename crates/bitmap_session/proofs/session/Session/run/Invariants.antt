use Rattle.std.proofs.Common.{◌≡◌, ◌+◌, ◌-◌, ◌≤◌, List, ◌++◌, length, take, map}
use Rattle.std.specs.Prelude.{vec_len, vec_capacity}
use Rattle.bitmap_session.specs.declared.reply.Reply.{Reply}
use Rattle.bitmap_session.specs.Machine.{RunsOn}
use Rattle.bitmap_session.specs.Abstraction.{value_of}
use Rattle.bitmap_session.proofs.session.Session.run.Given as goal

abbrev pub invariant-loop-command : goal.invariant-loop-command
invariant-loop-command g l = record {
  run : (new : List (Reply g.row.N))
      × (l.replies.items ≡ l.fn.replies.items ++ new)
      × RunsOn g.row.N l.fn.self (take l.command-index l.commands) (map value_of new) l.self;
  space : vec_len l.replies + (length l.commands - l.command-index) ≤ vec_capacity l.replies;
}
