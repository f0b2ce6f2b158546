use Rattle.std.proofs.Common.{◌≡◌, ◌*◌, ◌/◌, ◌∙◌, ap, arith}
use Rattle.bitmap_core.specs.PrunedBits.{pushed}
use Rattle.historical_bitmap.specs.Record.{bit_or_else}
use Rattle.uses.proofs.Replicas.{all_made, brought, made_len, one_more}
use Rattle.uses.proofs.replica.updated.Goals as goal

pub push-requires : goal.push-requires
push-requires g c = (
  omega arith,
  omega (
    arith,
    made_len (λ k. bit_or_else 8 (g.C.Chunks.of c.args.chunks.now (k / 64)) c.args.older.now k) c.loop-position.made c.args.pruned_chunks c.loop-position.position
        c.loop-position.invariant.pruned c.loop-position.invariant.from c.loop-position.invariant.bits,
  ),
)

pub loop-position-preserved : goal.loop-position-preserved
loop-position-preserved g c =
    let more : c.push.new.self ≡ pushed c.loop-position.made c.newer_bit.result = c.in-Ok-push.ensures.ok in
    record {
      pruned = ap (λ b. b.pruned) more ∙ c.loop-position.invariant.pruned;
      from = omega arith;
      within = omega arith;
      bits = one_more (λ k. bit_or_else 8 (g.C.Chunks.of c.args.chunks.now (k / 64)) c.args.older.now k) (64 * c.args.pruned_chunks) c.loop-position.position c.loop-position.made.bits c.push.new.self.bits c.newer_bit.result
          c.loop-position.invariant.from (ap (λ b. b.bits) more) c.loop-position.invariant.bits c.newer_bit.ensures;
    }

pub returns : goal.returns
returns g c = record {
  newer = λ newer b.
      all_made (λ k. bit_or_else 8 (g.C.Chunks.of c.args.chunks.now (k / 64)) c.args.older.now k) c.loop-position.made c.args.pruned_chunks c.loop-position.position c.args.len
      c.loop-position.invariant.pruned c.loop-position.invariant.within (omega arith) c.loop-position.invariant.bits
      ∙ brought c.args.older.now newer c.args.pruned_chunks c.args.len (g.C.Chunks.of c.args.chunks.now) b;
}
