use Rattle.std.proofs.Common.{arith}
use Rattle.historical_bitmap.proofs.EditedChunks.CachedWord.{joined_here, joined_others}
use Rattle.historical_bitmap.proofs.bitmap.historical.cached_word.with_byte.Goals as goal

pub returns-clause-here : goal.returns-clause-here
returns-clause-here c = λ t h u. joined_here c.args.word c.args.at c.args.byte c.requires (omega arith) t h u

pub returns-clause-others : goal.returns-clause-others
returns-clause-others c = λ t u side. joined_others c.args.word c.args.at c.args.byte c.requires (omega arith) t u side
