use Rattle.std.proofs.Common.{arith, refl, sym, ap, ◌∙◌, ◌≡◌, ◌*◌, length, subst}
use Rattle.std.proofs.lemmas.List.{length-set}
use Rattle.std.specs.Int.{div_ceil}
use Rattle.std.specs.Prelude.{IfSome, None, nat_eq}
use Rattle.std.specs.Set.{is_member}
use Rattle.uses.specs.Digests.{digests_of}
use Rattle.uses.proofs.Digests.{finished, resized, skipped, written}
use Rattle.uses.proofs.chunk_digests.update_digests.Goals as goal

pub loop-chunk-init : goal.loop-chunk-init
loop-chunk-init g c =
    let n = g.row.N in
    let digest = g.D.Digest.of c.args.digest.now in
    let items : length c.resize.new.self.items ≡ c.chunk_count.result = sym c.resize.new.self.ok.0 ∙ c.in_ok-resize.ensures.len in
    let size = items ∙ (c.chunk_count.ensures ∙ ap (λ len. div_ceil len (8 * n)) c.len.ensures.value) in
    record {
      can_next = tt;
      is_finite = tt;
      size = size;
      done = resized n digest c.in-Some.version c.in-Some.field-0-0 c.args.digests.now.items c.resize.new.self.items c.into_iter-chunk-iterator.result
          c.len.ensures.lawful.width.positive
          (subst (λ o. IfSome o (λ version. c.args.digests.now.items ≡ digests_of n digest version)) c.in-Some.ensures.older c.requires)
          (λ i h l. c.in_ok-resize.ensures.by_index.0 i None (omega (arith, h, items)) (omega (arith, l, c.args.digests.now.ok.0)))
          (λ i m h. c.in_ok-resize.ensures.by_index.1 i None refl (omega (arith, m, c.args.digests.now.ok.0)) (omega (arith, h, items)))
          (λ i. ap (λ xs. is_member nat_eq xs i) c.into_iter-chunk-iterator.ensures.into_iter_gives ∙ c.in-Some.ensures.exactly i);
    }

pub loop-chunk-preserved-then-chunk-len : goal.loop-chunk-preserved-then-chunk-len
loop-chunk-preserved-then-chunk-len g c = record {
  can_next = tt;
  is_finite = tt;
  size = length-set c.loop-chunk.digests.items c.in-Some-chunk.chunk c.digest_of_chunk.result ∙ c.loop-chunk.invariant.size;
  done = written g.row.N (g.D.Digest.of c.args.digest.now) c.in-Some.version c.loop-chunk.chunk-iterator c.next.new.self c.loop-chunk.digests.items c.in-Some-chunk.chunk c.digest_of_chunk.result
      c.in-Some-chunk.ensures.steps (omega arith) c.digest_of_chunk.ensures c.loop-chunk.invariant.done;
}

pub loop-chunk-preserved : goal.loop-chunk-preserved
loop-chunk-preserved g c = record {
  can_next = tt;
  is_finite = tt;
  size = c.loop-chunk.invariant.size;
  done = skipped g.row.N (g.D.Digest.of c.args.digest.now) c.in-Some.version c.loop-chunk.chunk-iterator c.next.new.self c.loop-chunk.digests.items c.in-Some-chunk.chunk
      c.in-Some-chunk.ensures.steps (omega arith) c.loop-chunk.invariant.done;
}

pub returns-clause-updated : goal.returns-clause-updated
returns-clause-updated g c =
    subst (λ o. IfSome o (λ version. c.loop-chunk.digests.items ≡ digests_of g.row.N (g.D.Digest.of c.args.digest.now) version)) (sym c.in-Some.ensures.newer)
    (finished g.row.N (g.D.Digest.of c.args.digest.now) c.in-Some.version c.loop-chunk.chunk-iterator c.loop-chunk.digests.items c.in-None.ensures.steps.0 c.loop-chunk.invariant.size c.loop-chunk.invariant.done)
