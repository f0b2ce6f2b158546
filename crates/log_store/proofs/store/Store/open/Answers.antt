use Rattle.std.proofs.Common.{◌≡◌, ◌≤◌, ◌++◌, List, ℕ, length, take, drop, refl, ap, sym, subst, ◌∙◌, arith, take-append-drop, length-append}
use Rattle.std.proofs.lemmas.List.{length-take-le}
use Rattle.commit_log.specs.Entries.{Entry}
use Rattle.commit_log.specs.Kept.{kept_of}
use Rattle.commit_log.proofs.Appended.{IsLog-take}
use Rattle.log_store.specs.Opened.{ReadsUpTo}
use Rattle.log_store.proofs.Reopening.{opening_leaves, opens_to, reading_leaves}
use Rattle.log_store.proofs.store.Store.open.Goals as goal

pub returns-in-Err-recover_left-clause-any_moment : goal.returns-in-Err-recover_left-clause-any_moment
returns-in-Err-recover_left-clause-any_moment g c base entries kept rest log torn =
    reading_leaves g.row.N g.D.Device base entries kept c.args.device c.read_at_rest.new.device (c.in-Ok.ensures.any_moment rest) torn

pub returns-in-Err-recover_left-clause-complete : goal.returns-in-Err-recover_left-clause-complete
returns-in-Err-recover_left-clause-complete g c base entries kept rest log torn =
    c.in-Err-recover_left.ensures.complete base (take torn.count entries) torn.rest (IsLog-take g.row.N base entries torn.count log) (c.deref.ensures.value ∙ c.in-Ok.ensures.bytes rest ∙ torn.is) torn.unfinished

pub returns-in-Err-shut-clause-refused : goal.returns-in-Err-shut-clause-refused
returns-in-Err-shut-clause-refused g c rest failed =
    omega (arith, c.in-Err-shut.ensures.failed (c.in-Ok.ensures.works rest.works) failed, c.in-Ok.ensures.faults rest.works)

pub returns-in-Err-shut-clause-any_moment : goal.returns-in-Err-shut-clause-any_moment
returns-in-Err-shut-clause-any_moment g c base entries kept rest log torn =
    let n = g.row.N in
    let old = c.args.device in
    let mid = c.read_at_rest.new.device in
    let seen : List ℕ = g.D.Device.seen old in
    let at : ℕ = c.in-Ok-recover_left.found.1.at in
    let bytes = c.deref.ensures.value ∙ c.in-Ok.ensures.bytes rest in
    let es : List Entry = take torn.count entries in
    let made = c.in-Ok-recover_left.ensures.left base es torn.rest (IsLog-take n base entries torn.count log) (bytes ∙ torn.is) torn.unfinished in
    let good : at ≤ length seen = omega (arith, c.in-Ok-recover_left.ensures.good, ap length bytes) in
    let split : g.D.Device.seen mid ≡ take at seen ++ drop at seen = c.in-Ok.ensures.seen rest ∙ sym (take-append-drop at seen) in
    let at_is : at ≡ length (take at seen) = sym (length-take-le at seen good) in
    opening_leaves n g.D.Device base entries kept old mid c.shut.new.device c.in-Ok-recover_left.found.1 (omega (arith, ap length bytes)) torn made.1 (c.in-Ok.ensures.any_moment rest)
    (c.shut.ensures.any_moment (take at seen) (drop at seen) (c.in-Ok.ensures.rests rest) split at_is (omega (arith, ap length split, ap length (c.in-Ok.ensures.seen rest), ap length (c.in-Ok.ensures.bytes rest), length-append (take at seen) (drop at seen))))

pub returns-clause-any_moment : goal.returns-clause-any_moment
returns-clause-any_moment g c base entries kept rest log torn =
    let n = g.row.N in
    let old = c.args.device in
    let mid = c.read_at_rest.new.device in
    let seen : List ℕ = g.D.Device.seen old in
    let at : ℕ = c.in-Ok-recover_left.found.1.at in
    let bytes = c.deref.ensures.value ∙ c.in-Ok.ensures.bytes rest in
    let es : List Entry = take torn.count entries in
    let made = c.in-Ok-recover_left.ensures.left base es torn.rest (IsLog-take n base entries torn.count log) (bytes ∙ torn.is) torn.unfinished in
    let good : at ≤ length seen = omega (arith, c.in-Ok-recover_left.ensures.good, ap length bytes) in
    let split : g.D.Device.seen mid ≡ take at seen ++ drop at seen = c.in-Ok.ensures.seen rest ∙ sym (take-append-drop at seen) in
    let at_is : at ≡ length (take at seen) = sym (length-take-le at seen good) in
    opening_leaves n g.D.Device base entries kept old mid c.shut.new.device c.in-Ok-recover_left.found.1 (omega (arith, ap length bytes)) torn made.1 (c.in-Ok.ensures.any_moment rest)
    (c.shut.ensures.any_moment (take at seen) (drop at seen) (c.in-Ok.ensures.rests rest) split at_is (omega (arith, ap length split, ap length (c.in-Ok.ensures.seen rest), ap length (c.in-Ok.ensures.bytes rest), length-append (take at seen) (drop at seen))))

pub returns-clause-opened : goal.returns-clause-opened
returns-clause-opened g c base entries kept rest log torn =
    let n = g.row.N in
    let mid = c.read_at_rest.new.device in
    let seen : List ℕ = g.D.Device.seen c.args.device in
    let at : ℕ = c.in-Ok-recover_left.found.1.at in
    let bytes = c.deref.ensures.value ∙ c.in-Ok.ensures.bytes rest in
    let es : List Entry = take torn.count entries in
    let made = c.in-Ok-recover_left.ensures.left base es torn.rest (IsLog-take n base entries torn.count log) (bytes ∙ torn.is) torn.unfinished in
    let good : at ≤ length seen = omega (arith, c.in-Ok-recover_left.ensures.good, ap length bytes) in
    let split : g.D.Device.seen mid ≡ take at seen ++ drop at seen = c.in-Ok.ensures.seen rest ∙ sym (take-append-drop at seen) in
    let at_is : at ≡ length (take at seen) = sym (length-take-le at seen good) in
    let done = c.in_default.ensures.shut (take at seen) (drop at seen) (c.in-Ok.ensures.rests rest) split at_is (omega (arith, ap length split, ap length (c.in-Ok.ensures.seen rest), ap length (c.in-Ok.ensures.bytes rest), length-append (take at seen) (drop at seen))) in
    opens_to n g.D.Device base entries kept seen (kept_of n c.in-Ok-recover_left.found.0) _ log torn made.0 made.1 done.0 done.1

pub returns-clause-state : goal.returns-clause-state
returns-clause-state g c rest =
    let n = g.row.N in
    let mid = c.read_at_rest.new.device in
    let found = c.in-Ok-recover_left.found in
    let seen : List ℕ = g.D.Device.seen c.args.device in
    let at : ℕ = found.1.at in
    let bytes = c.deref.ensures.value ∙ c.in-Ok.ensures.bytes rest in
    let good : at ≤ length seen = omega (arith, c.in-Ok-recover_left.ensures.good, ap length bytes) in
    let split : g.D.Device.seen mid ≡ take at seen ++ drop at seen = c.in-Ok.ensures.seen rest ∙ sym (take-append-drop at seen) in
    let at_is : at ≡ length (take at seen) = sym (length-take-le at seen good) in
    let done = c.in_default.ensures.shut (take at seen) (drop at seen) (c.in-Ok.ensures.rests rest) split at_is (omega (arith, ap length split, ap length (c.in-Ok.ensures.seen rest), ap length (c.in-Ok.ensures.bytes rest), length-append (take at seen) (drop at seen))) in
    record {
      reads = subst (λ (t : List ℕ). ReadsUpTo n t (kept_of n found.0) found.1) bytes c.in-Ok-recover_left.ensures.state;
      good = good;
      rest = done.0;
      bytes_are = done.1;
      written = refl;
    }
