use Rattle.std.proofs.Common.{◌≡◌, ℕ, ◌<◌, get_or, sym, ◌∙◌, inl, inr, arith}
use Rattle.std.proofs.lemmas.List.{get_or_past}
use Rattle.std.proofs.lemmas.Bool.{cases_lt}
use Rattle.bitmap_bytes.proofs.Words.OfBytes.{word_bits}
use Rattle.bitmap_bytes.proofs.chunk.load.short_word.Goals as goal
use Rattle.bitmap_bytes.proofs.chunk.load.short_word.Goals.{After-from_le_bytes}

same : (c : After-from_le_bytes) (k : ℕ) → k < 8 → get_or c.loop-i.word k 0 ≡ get_or c.args.bytes.now k 0
same c k h = elim (cases_lt k c.loop-i.i) [
  | inl s ↦ c.loop-i.invariant.0 k s
  | inr s ↦ c.loop-i.invariant.1 k s ∙ sym (get_or_past c.args.bytes.now k 0 (omega arith))
]

pub returns : goal.returns
returns c t h = rw c.from_le_bytes.ensures (word_bits c.args.bytes.now c.loop-i.word (λ k. (c.type_inv.bytes k).fits) (same c) t h)
