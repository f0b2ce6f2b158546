use Rattle.std.proofs.Common.{◌≡◌, ◌++◌, ◌∷◌, [], ap, sym, ◌∙◌, arith}
use Rattle.commit_log.specs.History.{history_bytes, history_place}
use Rattle.commit_log.specs.Kept.{kept_of}
use Rattle.log_store.specs.Gate.{closed}
use Rattle.log_store.proofs.Creating.{created, nothing_begun, store_begun}
use Rattle.log_store.proofs.store.Store.create.Goals as goal

pub returns-in-Err-write_first-clause-refused : goal.returns-in-Err-write_first-clause-refused
returns-in-Err-write_first-clause-refused g c rest failed =
    omega (arith, c.in-Err-write_first.ensures.failed (c.in-Ok.ensures.works rest.works) failed, c.in-Ok.ensures.faults rest.works)

pub returns-clause-empty : goal.returns-clause-empty
returns-clause-empty g c rest = sym (c.deref.ensures.value ∙ c.in-Ok.ensures.bytes rest) ∙ c.has_bytes.ensures.none c.if-has_bytes.false

pub returns-in-Err-clause-any_moment : goal.returns-in-Err-clause-any_moment
returns-in-Err-clause-any_moment g c rest none = nothing_begun g.D.Device c.args.device c.read_at_rest.new.device g.row.N none (c.in-Err.ensures.any_moment rest)

pub returns-then-has_bytes-clause-any_moment : goal.returns-then-has_bytes-clause-any_moment
returns-then-has_bytes-clause-any_moment g c rest none = nothing_begun g.D.Device c.args.device c.read_at_rest.new.device g.row.N none (c.in-Ok.ensures.any_moment rest)

pub returns-in-Err-whole_log-clause-any_moment : goal.returns-in-Err-whole_log-clause-any_moment
returns-in-Err-whole_log-clause-any_moment g c rest none = nothing_begun g.D.Device c.args.device c.read_at_rest.new.device g.row.N none (c.in-Ok.ensures.any_moment rest)

pub returns-in-Err-write_first-clause-any_moment : goal.returns-in-Err-write_first-clause-any_moment
returns-in-Err-write_first-clause-any_moment g c rest none =
    let n = g.row.N in
    let seen = c.in-Ok.ensures.seen rest ∙ none in
    let bytes = c.deref-2.ensures.value ∙ c.in-Ok-whole_log.ensures.bytes ∙ ap (λ b. history_bytes n (kept_of n b) ++ closed ∷ []) c.new-bitmap.ensures in
    store_begun g.D.Device c.args.device c.read_at_rest.new.device c.write_first.new.device n _ none bytes (c.in-Ok.ensures.any_moment rest) (c.write_first.ensures.any_moment (c.in-Ok.ensures.rests rest) seen)

pub returns-clause-any_moment : goal.returns-clause-any_moment
returns-clause-any_moment g c rest none =
    let n = g.row.N in
    let seen = c.in-Ok.ensures.seen rest ∙ none in
    let bytes = c.deref-2.ensures.value ∙ c.in-Ok-whole_log.ensures.bytes ∙ ap (λ b. history_bytes n (kept_of n b) ++ closed ∷ []) c.new-bitmap.ensures in
    store_begun g.D.Device c.args.device c.read_at_rest.new.device c.write_first.new.device n _ none bytes (c.in-Ok.ensures.any_moment rest) (c.write_first.ensures.any_moment (c.in-Ok.ensures.rests rest) seen)

pub returns-clause-created : goal.returns-clause-created
returns-clause-created g c rest =
    let n = g.row.N in
    let none : g.D.Device.seen c.args.device ≡ [] = sym (c.deref.ensures.value ∙ c.in-Ok.ensures.bytes rest) ∙ c.has_bytes.ensures.none c.if-has_bytes.false in
    let done = c.in_default.ensures.written (c.in-Ok.ensures.rests rest) (c.in-Ok.ensures.seen rest ∙ none) in
    let bytes = c.deref-2.ensures.value ∙ c.in-Ok-whole_log.ensures.bytes ∙ ap (λ b. history_bytes n (kept_of n b) ++ closed ∷ []) c.new-bitmap.ensures in
    let place = c.in-Ok-whole_log.ensures.place ∙ ap (λ b. history_place n (kept_of n b)) c.new-bitmap.ensures in
    created n g.D.Device (kept_of n c.new-bitmap.result) _ (ap (kept_of n) c.new-bitmap.ensures) done.0 (done.1 ∙ bytes) place (omega arith)
