use Rattle.std.proofs.Common.{◌∙◌, sym, arith}
use Rattle.bitmap_bytes.proofs.Counting.Blocks.{zero_rest, other_blocks}
use Rattle.bitmap_bytes.proofs.chunk.words.is_end_zero.Goals as goal

pub returns-then-are_blocks_zero : goal.returns-then-are_blocks_zero
returns-then-are_blocks_zero c = c.are_bytes_zero.ensures ∙ zero_rest 8 _ _ _ (omega arith) c.as_chunks.ensures.front c.as_chunks.ensures.back c.as_chunks.ensures.front_len c.as_chunks.ensures.back_len (sym c.are_blocks_zero.ensures ∙ c.if-are_blocks_zero.true)

pub returns-else-are_blocks_zero : goal.returns-else-are_blocks_zero
returns-else-are_blocks_zero c = c.if-are_blocks_zero.false ∙ sym (other_blocks 8 _ _ _ (omega arith) c.as_chunks.ensures.front c.as_chunks.ensures.back c.as_chunks.ensures.front_len c.as_chunks.ensures.back_len (sym c.are_blocks_zero.ensures ∙ c.if-are_blocks_zero.false))
