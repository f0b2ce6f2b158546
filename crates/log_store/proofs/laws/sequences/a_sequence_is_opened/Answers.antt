use Rattle.std.proofs.Common.{length, subst, sym}
use Rattle.std.specs.Prelude.{Contains}
use Rattle.log_store.proofs.Sequenced.{begins, both, failed, found, not_opened, opened, reads_torn}
use Rattle.log_store.proofs.laws.sequences.a_sequence_is_opened.Goals as goal

pub returns-clause-opened : goal.returns-clause-opened
returns-clause-opened g c states state calls left rest =
    let n = g.row.N in
    let seen = g.D.Device.seen c.args.device in
    let r = calls.any_moment.each seen left in
    let read = r.reads.reads in
    let torn = reads_torn n states seen r in
    let kept = length read.entries in
    both c.open.result _ _ _
    (λ store opens. subst (λ s. Contains states s) (sym (opened n g.D.Device states c.args.device _ store.log r opens)) r.among)
    (c.open.ensures.opened read.base read.entries kept rest read.begins.log torn) (c.open.ensures.complete read.base read.entries kept rest read.begins.log torn)

pub returns-clause-begins : goal.returns-clause-begins
returns-clause-begins g c states state calls left rest =
    let n = g.row.N in
    let seen = g.D.Device.seen c.args.device in
    let r = calls.any_moment.each seen left in
    let read = r.reads.reads in
    let torn = reads_torn n states seen r in
    let kept = length read.entries in
    found c.open.result _ _ _ _
    (λ store opens moments. begins n g.D.Device states c.args.device _ store.log r opens moments)
    (c.open.ensures.opened read.base read.entries kept rest read.begins.log torn) (c.open.ensures.any_moment read.base read.entries kept rest read.begins.log torn)

pub returns-clause-fails : goal.returns-clause-fails
returns-clause-fails g c states state calls left rest =
    let n = g.row.N in
    let seen = g.D.Device.seen c.args.device in
    let r = calls.any_moment.each seen left in
    let read = r.reads.reads in
    let torn = reads_torn n states seen r in
    failed c.open.result _ _ _
    (λ e moments. not_opened n g.D.Device states c.args.device e.0 r moments)
    (c.open.ensures.any_moment read.base read.entries (length read.entries) rest read.begins.log torn)
