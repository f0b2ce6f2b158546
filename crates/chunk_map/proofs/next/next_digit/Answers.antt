use Rattle.std.proofs.Common.{arith}
use Rattle.chunk_map.proofs.Marks.{first_marked_is}
use Rattle.chunk_map.proofs.next.next_digit.Goals as goal

pub returns-clause-within : goal.returns-clause-within
returns-clause-within c = (first_marked_is _ _ _ c.requires.used c.requires.from (omega arith)).0

pub returns-clause-some : goal.returns-clause-some
returns-clause-some c = (first_marked_is _ _ _ c.requires.used c.requires.from (omega arith)).1

pub returns-clause-least : goal.returns-clause-least
returns-clause-least c = (first_marked_is _ _ _ c.requires.used c.requires.from (omega arith)).2
