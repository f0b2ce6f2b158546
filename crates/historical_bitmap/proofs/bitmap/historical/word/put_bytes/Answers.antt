use Rattle.std.proofs.Common.{◌≡◌, ℕ, ◌+◌, ◌-◌, ◌*◌, ◌/◌, ◌%◌, ◌<◌, length, get_or, eqb, sym, ap, ◌∙◌, inl, inr, arith}
use Rattle.std.proofs.lemmas.Bool.{cases_eq}
use Rattle.std.proofs.lemmas.List.{get_or-set_other, get_or-set_same, length-set}
use Rattle.std.specs.Int.{bit_at}
use Rattle.bitmap_bytes.proofs.Chunks.Bits.{mod_parts}
use Rattle.bitmap_bytes.proofs.Words.Joined.{word_byte_bit}
use Rattle.historical_bitmap.proofs.bitmap.historical.word.put_bytes.Goals as goal

pub bounds-chunk-at : goal.bounds-chunk-at
bounds-chunk-at g c = omega (arith, c.requires.within, c.requires.short, c.loop-j-test.true, c.byte_index-at.ensures.value, mod_parts g.row.N c.args.base c.requires.width.positive)

pub loop-j-preserved : goal.loop-j-preserved
loop-j-preserved g c =
    let loop = c.loop-j.invariant in
    let byte : ℕ = get_or c.to_le_bytes-bytes.result c.loop-j.j 0 in
    let at : ℕ = c.byte_index-at.result + c.loop-j.j in
    let within : at < length c.loop-j.chunk = omega (arith, loop.size, c.requires.within, c.requires.short, c.loop-j-test.true, c.byte_index-at.ensures.value, mod_parts g.row.N c.args.base c.requires.width.positive) in
    record {
      size = length-set c.loop-j.chunk at byte ∙ loop.size;
      done = λ k h. elim (cases_eq k c.loop-j.j) [
        | inl e ↦ rw e (get_or-set_same c.loop-j.chunk at byte 0 within)
        | inr ne ↦ get_or-set_other c.loop-j.chunk at (c.byte_index-at.result + k) byte 0 (λ e. ne (omega (arith, e))) ∙ loop.done k (omega (arith, h, ne))
      ];
      before = λ k h. get_or-set_other c.loop-j.chunk at k byte 0 (λ e. absurd (omega (arith, e, h))) ∙ loop.before k h;
      after = λ k h. get_or-set_other c.loop-j.chunk at k byte 0 (λ e. absurd (omega (arith, e, h))) ∙ loop.after k (omega (arith, h));
    }

pub returns-clause-put : goal.returns-clause-put
returns-clause-put g c =
    let loop = c.loop-j.invariant in
    let parts = mod_parts g.row.N c.args.base c.requires.width.positive in
    let at : 8 * c.byte_index-at.result ≡ c.args.base % (8 * g.row.N) = omega (arith, parts, c.byte_index-at.ensures.value, c.requires.starts) in
    let end : 8 * c.loop-j.j ≡ c.args.count = omega (arith, c.loop-j-test.false, c.loop-j.auto.j-end, c.requires.whole) in
    record {
      here = λ k low high.
          let place = mod_parts g.row.N k c.requires.width.positive in
          let j : ℕ = k / 8 % g.row.N - c.byte_index-at.result in
          let there : c.byte_index-at.result + j ≡ k / 8 % g.row.N = omega (arith, place, at, low) in
          let bit : 8 * j + k % 8 ≡ k % (8 * g.row.N) - c.args.base % (8 * g.row.N) = omega (arith, place, at, low) in
          ap (λ (m : ℕ). eqb (bit_at (get_or c.loop-j.chunk m 0) (k % 8)) 1) (sym there)
          ∙ (ap (λ b. eqb (bit_at b (k % 8)) 1) (loop.done j (omega (arith, place, at, high, end)) ∙ ap (λ l. get_or l j 0) c.to_le_bytes-bytes.ensures)
          ∙ (ap (λ b. eqb b 1) (word_byte_bit c.args.word j (k % 8) (omega (arith, place, at, high, c.requires.short)) (omega arith))
          ∙ ap (λ (m : ℕ). eqb (bit_at c.args.word m) 1) bit));
      others = λ k out.
          let place = mod_parts g.row.N k c.requires.width.positive in
          ap (λ b. eqb (bit_at b (k % 8)) 1) (elim out [
            | inl l ↦ loop.before (k / 8 % g.row.N) (omega (arith, place, at, l))
            | inr h ↦ loop.after (k / 8 % g.row.N) (omega (arith, place, at, h, end))
          ]);
    }
