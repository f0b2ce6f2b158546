use Rattle.std.proofs.Common.{◌≡◌, ℕ, List, [], ◌+◌, ◌-◌, ◌*◌, ◌/◌, ◌<◌, ◌≤◌, ◌∙◌, ap, get_or, length, take, drop, refl, subst, rules, arith}
use Rattle.bitmap_bytes.specs.Chunk.{chunk_bit}
use Rattle.bitmap_core.proofs.Chunks.Combined.{combined_run, run_of, run_length}
use Rattle.bitmap_core.proofs.Chunks.Groups.{group_above, group_count, group_done}
use Rattle.bitmap_core.proofs.bitmap.deque.every.combine_slices.Goals as goal

pub loop-i-preserved : goal.loop-i-preserved
loop-i-preserved g c =
    let f = g.B.Bitwise.gives in
    let first = c.args.chunks.now in
    let others = c.args.others.now in
    let old = c.loop-i.chunks in
    let from : ℕ = 16 * c.loop-i.i in
    let ours : c.unwrap-ours.result ≡ take 16 (drop from old) = search rules in
    let theirs : c.unwrap-theirs.result ≡ take 16 (drop from others) = search rules in
    let within : from + 16 ≤ length old = omega (arith, c.loop-i.invariant.count) in
    let our_size : length c.unwrap-ours.result ≡ 16 = run_length old c.unwrap-ours.result from 16 ours within in
    let their_size : length c.unwrap-theirs.result ≡ 16 = run_length others c.unwrap-theirs.result from 16 theirs (omega arith) in
    let group = c.copy_from_slice.new.self in
    let size : length group ≡ from + 16 - from = omega (arith, c.copy_from_slice.ensures.len) in
    let own : (j : ℕ) → j < 16 → (t : ℕ) → chunk_bit g.row.N (get_or group j []) t ≡ f (chunk_bit g.row.N (get_or first (from + j) []) t) (chunk_bit g.row.N (get_or others (from + j) []) t) = λ j h t.
    let here : 0 + j ≡ j = omega arith in
    ap (λ l. chunk_bit g.row.N (get_or l j []) t) c.copy_from_slice.ensures.after
    ∙ subst (λ x. chunk_bit g.row.N (get_or c.combine_some-in-loop-i.new.chunks x []) t ≡ f (chunk_bit g.row.N (get_or c.unwrap-ours.result x []) t) (chunk_bit g.row.N (get_or c.unwrap-theirs.result j []) t)) here
    (c.combine_some-in-loop-i.ensures.bits j (omega arith) t)
    ∙ ap (λ b. f (chunk_bit g.row.N b t) (chunk_bit g.row.N (get_or c.unwrap-theirs.result j []) t)) (run_of old c.unwrap-ours.result from 16 ours j (omega arith) ∙ c.loop-i.invariant.rest (from + j) (omega arith))
    ∙ ap (λ b. f (chunk_bit g.row.N (get_or first (from + j) []) t) (chunk_bit g.row.N b t)) (run_of others c.unwrap-theirs.result from 16 theirs j (omega arith)) in
    record {
      count = group_count from (from + 16 - from) old group (omega arith) size ∙ c.loop-i.invariant.count;
      done = λ k h. group_done from (from + 16 - from) old group (omega arith) size (λ x b. (t : ℕ) → chunk_bit g.row.N b t ≡ f (chunk_bit g.row.N (get_or first x []) t) (chunk_bit g.row.N (get_or others x []) t)) c.loop-i.invariant.done (λ j s. own j (omega arith)) k (omega arith);
      rest = λ k h. group_above from (from + 16 - from) old group (omega arith) size k (omega arith) ∙ c.loop-i.invariant.rest k (omega arith);
    }

pub returns : goal.returns
returns g c =
    let from : ℕ = 16 * (length c.args.chunks.now / 16) in
    let left : ℕ = length c.args.others.now - from in
    let run : List (List ℕ) = take left (drop from c.args.others.now) in
    let size : length run ≡ left = run_length c.args.others.now run from left refl (omega arith) in
    record {
      count = omega (arith, c.combine_some-2.ensures.count, c.loop-i.invariant.count);
      bits = λ k h. combined_run g.row.N g.B.Bitwise.gives c.args.chunks.now c.loop-i.chunks c.args.others.now run c.combine_some-2.new.chunks from (λ j s. c.loop-i.invariant.done j (omega arith)) (λ j s. c.loop-i.invariant.rest j (omega arith))
          (run_of c.args.others.now run from left refl) c.combine_some-2.ensures.bits c.combine_some-2.ensures.below k (omega arith);
    }
