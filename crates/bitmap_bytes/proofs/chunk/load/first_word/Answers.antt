use Rattle.std.proofs.Common.{get_or, ◌∙◌, ap}
use Rattle.std.proofs.lemmas.List.{get_or-take}
use Rattle.bitmap_bytes.proofs.Words.OfBytes.{word_bits}
use Rattle.bitmap_bytes.proofs.chunk.load.first_word.Goals as goal

pub returns-in-Some : goal.returns-in-Some
returns-in-Some c t h =
    rw c.from_le_bytes.ensures
    (word_bits _ c.in-Some.word.now (λ k. (c.type_inv.bytes k).fits) (λ k s. ap (λ l. get_or l k 0) c.in-Some.ensures.cases.same ∙ get_or-take 8 c.args.bytes.now k 0 s) t h)
