use Rattle.std.proofs.Common.{◌≡◌, ℕ, [], ◌+◌, ◌-◌, ◌*◌, ◌<◌, ◌≤◌, ◌∙◌, length, get_or, not, take, drop, ap, rules, arith}
use Rattle.bitmap_bytes.specs.Chunk.{chunk_bit}
use Rattle.bitmap_core.proofs.Chunks.Combined.{run_of, run_length}
use Rattle.bitmap_core.proofs.Chunks.Groups.{group_above, group_count, group_done}
use Rattle.bitmap_core.proofs.bitmap.deque.every.flip_slice.Goals as goal

pub loop-i-preserved : goal.loop-i-preserved
loop-i-preserved g c =
    let first = c.args.chunks.now in
    let old = c.loop-i.chunks in
    let from : ℕ = 16 * c.loop-i.i in
    let copy : c.unwrap-group.result ≡ take 16 (drop from old) = search rules in
    let group = c.copy_from_slice.new.self in
    let within : from + 16 ≤ length old = omega (arith, c.loop-i.invariant.count) in
    let copied : length c.unwrap-group.result ≡ 16 = run_length old c.unwrap-group.result from 16 copy within in
    let size : length group ≡ from + 16 - from = omega (arith, c.copy_from_slice.ensures.len) in
    let own : (j : ℕ) → j < 16 → (t : ℕ) → chunk_bit g.row.N (get_or group j []) t ≡ not (chunk_bit g.row.N (get_or first (from + j) []) t) = λ j h t.
    ap (λ l. chunk_bit g.row.N (get_or l j []) t) c.copy_from_slice.ensures.after
    ∙ c.flip_some-in-loop-i.ensures.bits j (omega arith) (omega arith) t
    ∙ ap (λ b. not (chunk_bit g.row.N b t)) (run_of old c.unwrap-group.result from 16 copy j (omega arith) ∙ c.loop-i.invariant.rest (from + j) (omega arith)) in
    record {
      count = group_count from (from + 16 - from) old group (omega arith) size ∙ c.loop-i.invariant.count;
      done = λ k h. group_done from (from + 16 - from) old group (omega arith) size (λ x b. (t : ℕ) → chunk_bit g.row.N b t ≡ not (chunk_bit g.row.N (get_or first x []) t)) c.loop-i.invariant.done (λ j s. own j (omega arith)) k (omega arith);
      rest = λ k h. group_above from (from + 16 - from) old group (omega arith) size k (omega arith) ∙ c.loop-i.invariant.rest k (omega arith);
    }
