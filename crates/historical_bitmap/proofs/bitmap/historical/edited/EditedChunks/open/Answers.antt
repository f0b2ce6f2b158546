use Rattle.std.proofs.Common.{Some, ap, sym, subst, arith}
use Rattle.std.specs.List.Sorted.{IsStrictlySortedBy}
use Rattle.std.specs.Map.{keys_of}
use Rattle.std.specs.Ordering.{nat_cmp}
use Rattle.chunk_map.specs.Entries.{ChunkEntries, Puts}
use Rattle.historical_bitmap.specs.Appended.{IsAppended, with_appended}
use Rattle.historical_bitmap.proofs.EditedChunks.Appended.{absent_other, absent_out, all_sorted, err_map, first_appended, ok_map, one_appended, put_keeps, puts_other}
use Rattle.historical_bitmap.proofs.bitmap.historical.edited.EditedChunks.open.Goals as goal

pub add-requires : goal.add-requires
add-requires g c =
    let first = c.self.inside.first in
    let xs = c.self.inside.appended.items in
    let es = c.self.inside.stored.entries in
    let none = absent_other first xs es c.args.index (rw (sym c.self.view_is) at c.requires.absent) in
    (omega (arith, c.self.invariant.width.fits), (omega (arith, c.self.invariant.width.fits), none))

pub invariant_of-self : goal.invariant_of-self
invariant_of-self g c =
    let first = c.self.inside.first in
    let xs = c.self.inside.appended.items in
    let es = c.self.inside.stored.entries in
    let out = absent_out first xs es c.args.index (rw (sym c.self.view_is) at c.requires.absent) in
    let kept = put_keeps g.row.N first xs es c.add.new.self.entries c.args.index (Some c.args.chunk) c.add.result c.self.invariant out c.add.ensures.ok (err_map c.add.result (λ e. ap (λ (m : ChunkEntries). m.entries) e) c.add.ensures.err) in
    kept

pub invariant_of-self-then-count-eq0 : goal.invariant_of-self-then-count-eq0
invariant_of-self-then-count-eq0 g c =
    let first = c.self.inside.first in
    let xs = c.self.inside.appended.items in
    let es = c.self.inside.stored.entries in
    let none = absent_other first xs es c.args.index (rw (sym c.self.view_is) at c.requires.absent) in
    let put = first_appended g.row.N first xs es c.args.index c.args.chunk (omega (arith, c.len-count.ensures, c.self.inside.appended.ok.0, c.if-count-eq0.true)) c.self.invariant none in
    subst (λ ys. IsAppended g.row.N es c.args.index ys) (sym c.in_ok-push.ensures.items) put.0

pub invariant_of-self-else-count-eq0 : goal.invariant_of-self-else-count-eq0
invariant_of-self-else-count-eq0 g c =
    let first = c.self.inside.first in
    let xs = c.self.inside.appended.items in
    let es = c.self.inside.stored.entries in
    let none = absent_other first xs es c.args.index (rw (sym c.self.view_is) at c.requires.absent) in
    let at = c.is_next.ensures.next c.if-not-is_next.false (omega (arith, c.if-count-eq0.false)) in
    let put = one_appended g.row.N first xs es c.args.index c.args.chunk (omega (arith, at, c.len-count.ensures, c.self.inside.appended.ok.0)) c.self.invariant none in
    subst (λ ys. IsAppended g.row.N es first ys) (sym c.in_ok-push.ensures.items) put.0

pub returns-then-not-is_next-clause-ok : goal.returns-then-not-is_next-clause-ok
returns-then-not-is_next-clause-ok g c =
    let first = c.self.inside.first in
    let xs = c.self.inside.appended.items in
    let es = c.self.inside.stored.entries in
    let out = absent_out first xs es c.args.index (rw (sym c.self.view_is) at c.requires.absent) in
    rw (sym c.self.view_is) (ok_map c.add.result (λ p. puts_other first xs es c.add.new.self.entries c.args.index (Some c.args.chunk) out p) c.add.ensures.ok)

pub returns-then-not-is_next-clause-sorted : goal.returns-then-not-is_next-clause-sorted
returns-then-not-is_next-clause-sorted g c =
    let first = c.self.inside.first in
    let xs = c.self.inside.appended.items in
    let es = c.self.inside.stored.entries in
    let out = absent_out first xs es c.args.index (rw (sym c.self.view_is) at c.requires.absent) in
    let kept = put_keeps g.row.N first xs es c.add.new.self.entries c.args.index (Some c.args.chunk) c.add.result c.self.invariant out c.add.ensures.ok (err_map c.add.result (λ e. ap (λ (m : ChunkEntries). m.entries) e) c.add.ensures.err) in
    all_sorted g.row.N first xs c.add.new.self.entries kept c.add.ensures.sorted

pub returns-in_err-push-clause-sorted : goal.returns-in_err-push-clause-sorted
returns-in_err-push-clause-sorted g c =
    let first = c.self.inside.first in
    let xs = c.self.inside.appended.items in
    let es = c.self.inside.stored.entries in
    subst (λ ys. IsStrictlySortedBy nat_cmp (keys_of (with_appended first ys es))) (sym c.in_err-push.ensures.items) (all_sorted g.row.N first xs es c.self.invariant c.order.ensures.sorted)

pub returns-then-count-eq0-clause-ok : goal.returns-then-count-eq0-clause-ok
returns-then-count-eq0-clause-ok g c =
    let first = c.self.inside.first in
    let xs = c.self.inside.appended.items in
    let es = c.self.inside.stored.entries in
    let none = absent_other first xs es c.args.index (rw (sym c.self.view_is) at c.requires.absent) in
    let put = first_appended g.row.N first xs es c.args.index c.args.chunk (omega (arith, c.len-count.ensures, c.self.inside.appended.ok.0, c.if-count-eq0.true)) c.self.invariant none in
    rw (sym c.self.view_is) (subst (λ ys. Puts (with_appended first xs es) (with_appended c.args.index ys es) c.args.index (Some c.args.chunk)) (sym c.in_ok-push.ensures.items) put.1)

pub returns-then-count-eq0-clause-sorted : goal.returns-then-count-eq0-clause-sorted
returns-then-count-eq0-clause-sorted g c =
    let first = c.self.inside.first in
    let xs = c.self.inside.appended.items in
    let es = c.self.inside.stored.entries in
    let none = absent_other first xs es c.args.index (rw (sym c.self.view_is) at c.requires.absent) in
    let put = first_appended g.row.N first xs es c.args.index c.args.chunk (omega (arith, c.len-count.ensures, c.self.inside.appended.ok.0, c.if-count-eq0.true)) c.self.invariant none in
    subst (λ ys. IsStrictlySortedBy nat_cmp (keys_of (with_appended c.args.index ys es))) (sym c.in_ok-push.ensures.items) (all_sorted g.row.N c.args.index _ es put.0 c.order.ensures.sorted)

pub returns-else-count-eq0-clause-ok : goal.returns-else-count-eq0-clause-ok
returns-else-count-eq0-clause-ok g c =
    let first = c.self.inside.first in
    let xs = c.self.inside.appended.items in
    let es = c.self.inside.stored.entries in
    let none = absent_other first xs es c.args.index (rw (sym c.self.view_is) at c.requires.absent) in
    let at = c.is_next.ensures.next c.if-not-is_next.false (omega (arith, c.if-count-eq0.false)) in
    let put = one_appended g.row.N first xs es c.args.index c.args.chunk (omega (arith, at, c.len-count.ensures, c.self.inside.appended.ok.0)) c.self.invariant none in
    rw (sym c.self.view_is) (subst (λ ys. Puts (with_appended first xs es) (with_appended first ys es) c.args.index (Some c.args.chunk)) (sym c.in_ok-push.ensures.items) put.1)

pub returns-else-count-eq0-clause-sorted : goal.returns-else-count-eq0-clause-sorted
returns-else-count-eq0-clause-sorted g c =
    let first = c.self.inside.first in
    let xs = c.self.inside.appended.items in
    let es = c.self.inside.stored.entries in
    let none = absent_other first xs es c.args.index (rw (sym c.self.view_is) at c.requires.absent) in
    let at = c.is_next.ensures.next c.if-not-is_next.false (omega (arith, c.if-count-eq0.false)) in
    let put = one_appended g.row.N first xs es c.args.index c.args.chunk (omega (arith, at, c.len-count.ensures, c.self.inside.appended.ok.0)) c.self.invariant none in
    subst (λ ys. IsStrictlySortedBy nat_cmp (keys_of (with_appended first ys es))) (sym c.in_ok-push.ensures.items) (all_sorted g.row.N first _ es put.0 c.order.ensures.sorted)
