use Rattle.std.proofs.Common.{◌≡◌, ℕ, ◌+◌, ◌-◌, ◌*◌, ◌/◌, ◌%◌, arith, ap, ◌∙◌, inl, inr}
use Rattle.std.proofs.lemmas.Bool.{cases_lt}
use Rattle.std.proofs.lemmas.Nat.{mod_below}
use Rattle.bitmap_bytes.specs.Chunk.{chunk_bit}
use Rattle.bitmap_bytes.proofs.Words.Starts.{start_aligned, start_bytes}
use Rattle.bitmap_bytes.proofs.chunk.load.word_below.Goals as goal

pub word_at-requires : goal.word_at-requires
word_at-requires g c =
    let first : c.args.base % (8 * g.row.N) % 64 ≡ 0 = start_aligned g.row.N c.args.base c.requires.start in
    let below = mod_below c.args.base (8 * g.row.N) (omega (arith, c.requires.width.positive)) in
    (omega (arith, c.requires.width.fits), (omega (arith, below), ((λ only. omega (arith, below, first, only)), λ whole. omega (arith, below, first, whole))))

pub returns-clause-inside : goal.returns-clause-inside
returns-clause-inside g c i h l s =
    let at : 8 * (c.args.base % (8 * g.row.N) / 8) + i ≡ c.args.base % (8 * g.row.N) + i =
    ap (λ (k : ℕ). k + i) (start_bytes g.row.N c.args.base c.requires.start) in
    c.low_bits.ensures.kept i h (omega arith) ∙ c.word_at.ensures.inside i h (omega arith) ∙ ap (λ (k : ℕ). chunk_bit g.row.N c.args.chunk.now k) at

pub returns-clause-past_chunk : goal.returns-clause-past_chunk
returns-clause-past_chunk g c i h s =
    let at : 8 * (c.args.base % (8 * g.row.N) / 8) + i ≡ c.args.base % (8 * g.row.N) + i =
    ap (λ (k : ℕ). k + i) (start_bytes g.row.N c.args.base c.requires.start) in
    elim (cases_lt i (c.args.end - c.args.base)) [
      | inl lt ↦ c.low_bits.ensures.kept i h lt ∙ c.word_at.ensures.past i h (omega arith)
      | inr ge ↦ c.low_bits.ensures.cut i h ge
    ]

pub returns-clause-past_end : goal.returns-clause-past_end
returns-clause-past_end g c i h l = c.low_bits.ensures.cut i h (omega arith)
