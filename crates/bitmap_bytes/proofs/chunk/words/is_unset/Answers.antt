use Rattle.std.proofs.Common.{◌∙◌, sym}
use Rattle.std.proofs.lemmas.Bool.{false≢true}
use Rattle.bitmap_bytes.proofs.Counting.ByteRanges.{none_in_byte, none_between, some_first, some_last}
use Rattle.bitmap_bytes.proofs.chunk.words.is_unset.Goals as goal
use Rattle.bitmap_bytes.proofs.chunk.words.is_unset.Goals.{then-is_byte_unset, else-is_byte_unset}

pub returns-then-first-last : goal.returns-then-first-last
returns-then-first-last c =
    c.is_byte_unset.ensures ∙ none_in_byte c.args.bytes.now c.args.from c.args.to c.if-from-to.false c.requires c.if-first-last.true

pub returns-then-is_byte_unset-2 : goal.returns-then-is_byte_unset-2
returns-then-is_byte_unset-2 c =
    elim c.if-is_byte_unset.branch [
      | then-is_byte_unset w ↦
          c.is_zero.ensures
          ∙ none_between _ _ _ c.if-from-to.false c.requires c.if-first-last.false
          (sym c.is_byte_unset-2.ensures ∙ w.if-is_byte_unset.true)
          (sym w.is_byte_unset-then-is_byte_unset.ensures ∙ sym w.value-is ∙ c.if-is_byte_unset-2.true)
      | else-is_byte_unset w ↦ absurd (false≢true (sym w.if-is_byte_unset.false ∙ sym w.value-is ∙ c.if-is_byte_unset-2.true))
    ]

pub returns-else-is_byte_unset-2 : goal.returns-else-is_byte_unset-2
returns-else-is_byte_unset-2 c =
    c.if-is_byte_unset-2.false ∙ sym (elim c.if-is_byte_unset.branch [
      | then-is_byte_unset w ↦
          some_last _ _ _ c.if-from-to.false c.requires c.if-first-last.false
          (sym w.is_byte_unset-then-is_byte_unset.ensures ∙ sym w.value-is ∙ c.if-is_byte_unset-2.false)
      | else-is_byte_unset w ↦
          some_first _ _ _ c.if-from-to.false c.requires c.if-first-last.false (sym c.is_byte_unset-2.ensures ∙ w.if-is_byte_unset.false)
    ])
