use Rattle.std.proofs.Common.{arith}
use Rattle.bitmap_bytes.proofs.Counting.Blocks.{count-blocks_and_rest}
use Rattle.bitmap_bytes.proofs.chunk.words.count_ones.Goals as goal

pub word_ones-requires : goal.word_ones-requires
word_ones-requires c = omega (arith, count-blocks_and_rest 8 _ _ _ (omega arith) c.as_chunks.ensures.front c.as_chunks.ensures.back c.as_chunks.ensures.front_len c.as_chunks.ensures.back_len)

pub byte_ones-requires : goal.byte_ones-requires
byte_ones-requires c = omega (arith, count-blocks_and_rest 8 _ _ _ (omega arith) c.as_chunks.ensures.front c.as_chunks.ensures.back c.as_chunks.ensures.front_len c.as_chunks.ensures.back_len)

pub overflow_add-result : goal.overflow_add-result
overflow_add-result c = omega (arith, c.word_ones.ensures, c.byte_ones.ensures, count-blocks_and_rest 8 _ _ _ (omega arith) c.as_chunks.ensures.front c.as_chunks.ensures.back c.as_chunks.ensures.front_len c.as_chunks.ensures.back_len)

pub returns : goal.returns
returns c = omega (arith, c.word_ones.ensures, c.byte_ones.ensures, count-blocks_and_rest 8 _ _ _ (omega arith) c.as_chunks.ensures.front c.as_chunks.ensures.back c.as_chunks.ensures.front_len c.as_chunks.ensures.back_len)
