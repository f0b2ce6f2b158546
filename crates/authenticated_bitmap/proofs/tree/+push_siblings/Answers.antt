use Rattle.std.proofs.Common.{sym, arith}
use Rattle.authenticated_bitmap.proofs.Halves.{code_siblings_low, code_siblings_left, code_siblings_right, code_no_siblings}
use Rattle.authenticated_bitmap.proofs.tree.+push_siblings.Goals as goal

pub returns-then-height-eq0 : goal.returns-then-height-eq0
returns-then-height-eq0 g t c = code_no_siblings (g.D.Digest.digest_of c.args.hash.now) c.args.height c.args.i c.args.path.now.items c.args.digests.now c.if-height-eq0.true

pub returns-then-digests-half : goal.returns-then-digests-half
returns-then-digests-half g t c =
    let H = g.D.Digest.digest_of c.args.hash.now in
    let s = code_siblings_low H c.args.height c.half_of-half.result c.half_of-half.ensures (omega arith) c.args.i c.args.digests.now c.if-digests-half.true in
    rw (sym s) c.push_siblings.ensures

pub returns-in_ok-push : goal.returns-in_ok-push
returns-in_ok-push g t c =
    let H = g.D.Digest.digest_of c.args.hash.now in
    let s = code_siblings_left H c.args.height c.half_of-half.result c.half_of-half.ensures (omega arith) c.args.path.now.items c.args.i c.args.digests.now c.if-digests-half.false c.if-i-half.true in
    cc (c.in_ok-push.ensures.items, c.in_ok-push_siblings.ensures, c.subtree_digest.ensures, s)

pub returns-in_ok-push-2 : goal.returns-in_ok-push-2
returns-in_ok-push-2 g t c =
    let H = g.D.Digest.digest_of c.args.hash.now in
    let s = code_siblings_right H c.args.height c.half_of-half.result c.half_of-half.ensures (omega arith) c.args.path.now.items c.args.i c.args.digests.now c.if-digests-half.false c.if-i-half.false in
    cc (c.in_ok-push-2.ensures.items, c.in_ok-push_siblings-2.ensures, c.subtree_digest-else-i-half.ensures, s)
