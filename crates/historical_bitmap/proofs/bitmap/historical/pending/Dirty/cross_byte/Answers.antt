use Rattle.std.proofs.Common.{◌≡◌, ℕ, ◌+◌, ◌*◌, ◌/◌, ◌%◌, ◌<◌, ap, ◌∙◌, subst, arith}
use Rattle.std.specs.Prelude.{nat_eq}
use Rattle.std.specs.Map.{lookup}
use Rattle.historical_bitmap.specs.CachedWord.{with_cached}
use Rattle.historical_bitmap.specs.Pending.{CrossesByte}
use Rattle.historical_bitmap.proofs.Pending.Ends.{none_past_len, past_index}
use Rattle.historical_bitmap.proofs.Pending.Writes.{crosses_byte}
use Rattle.historical_bitmap.proofs.bitmap.historical.pending.Dirty.cross_byte.Goals as goal

pub cross_byte-requires : goal.cross_byte-requires
cross_byte-requires g c =
    let width = c.len-len.ensures.width in
    let at = c.len-len.ensures.value in
    let h = rw (c.chunk_width.ensures, c.chunk_width-2.ensures) at c.if-space-ge8.false in
    let index : c.chunk_index-index.result ≡ c.args.self.now.len / (8 * g.row.N) = c.chunk_index-index.ensures ∙ ap (λ (k : ℕ). k / (8 * g.row.N)) at in
    let past : c.args.self.now.len / (8 * g.row.N) < c.chunk_index-index.result + 1 = omega (arith, index) in
    let under = past_index g.row.N c.args.self.now.len (c.chunk_index-index.result + 1) width.positive past in
    let none = ap (λ l. lookup (nat_eq (c.chunk_index-index.result + 1)) l.edited) c.self.view_is ∙ none_past_len g.row.N c.args.current.now c.args.self.now c.requires.edits_fit (c.chunk_index-index.result + 1) (omega (arith, under)) in
    (omega arith, (omega (arith, width.fits), (c.self.invariant, (width, (c.chunk_index-index.ensures, (omega (arith, h), (omega (arith, at, c.requires.fits), none)))))))

pub returns-then-crossed-clause-done : goal.returns-then-crossed-clause-done
returns-then-crossed-clause-done g c =
    let l = c.args.self.now in
    let at = c.len-len.ensures.value in
    let v = c.self.view_is in
    let crosses : 8 * g.row.N < c.args.self.now.len % (8 * g.row.N) + 8 = let h = rw (c.chunk_width.ensures, c.chunk_width-2.ensures, at) at c.if-space-ge8.false in omega (arith, h) in
    let bits = rw (c.chunk_width.ensures, c.chunk_width-2.ensures, at) at c.rest_of_byte-rest.ensures in
    λ e.
    let set : CrossesByte g.row.N c.args.self.now.edited (with_cached g.row.N c.cross_byte.new.chunks c.cross_byte.new.cache) (c.args.self.now.len / (8 * g.row.N)) c.args.self.now.len c.args.byte c.rest_of_byte-rest.result = subst (λ es. CrossesByte g.row.N es (with_cached g.row.N c.cross_byte.new.chunks c.cross_byte.new.cache) (c.args.self.now.len / (8 * g.row.N)) c.args.self.now.len c.args.byte c.rest_of_byte-rest.result) (ap (λ l. l.edited) v) (rw (c.chunk_index-index.ensures, at) at c.in_ok-crossed.ensures.written e) in
    crosses_byte g.row.N c.args.current.now l c.args.byte c.len-len.ensures.width.positive crosses _ c.rest_of_byte-rest.result (omega (arith, at)) (ap (λ l. l.pruned) v) (ap (λ l. l.captured) v) c.known.ensures.len bits set
