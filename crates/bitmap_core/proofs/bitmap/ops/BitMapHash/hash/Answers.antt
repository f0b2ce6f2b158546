use Rattle.std.proofs.Common.{◌≡◌, ◌∙◌, sym, ap, length}
use Rattle.std.specs.List.{fold}
use Rattle.std.specs.Hash as fed
use Rattle.bitmap_core.specs.Fed.{fed_bits}
use Rattle.bitmap_bytes.proofs.Lists.Bits.{len_is}
use Rattle.bitmap_bytes.proofs.Chunks.AsBytes.{chunks_are}
use Rattle.bitmap_core.proofs.bitmap.ops.BitMapHash.hash.Goals as goal

pub returns : goal.returns
unfolding fed_bits
returns g c =
    let w = g.H.Hasher.write in
    let s : c.write_u64.new.self ≡ fold w c.args.state.now (fed.u64 (length c.args.self.now)) =
    c.write_u64.ensures
    ∙ ap (λ x. fold w c.args.state.now (fed.u64 x)) (sym (len_is _ _ _ _ c.self.view_is)) in
    let k = chunks_are _ _ _ _ c.self.invariant.width.positive c.self.invariant.count c.self.invariant.zero c.self.view_is c.feed.ensures.known in
    c.feed.ensures.fed
    ∙ ap (λ x. fold w x c.self.inside.chunks.items) s
    ∙ ap (λ l. fold w (fold w c.args.state.now (fed.u64 (length c.args.self.now))) l) k
