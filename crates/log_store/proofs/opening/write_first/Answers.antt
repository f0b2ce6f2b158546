use Rattle.std.proofs.Common.{◌≡◌, ◌∷◌, [], ◌++◌, List, ℕ, refl, ap, sym, ◌∙◌}
use Rattle.std.proofs.lemmas.Result.{on_ok_weaker}
use Rattle.log_store.specs.Gate.{closed}
use Rattle.log_store.proofs.Creating.{bytes_begun, gate_begun}
use Rattle.log_store.proofs.opening.write_first.Goals as goal

pub returns-in_err-append_synced-clause-any_moment : goal.returns-in_err-append_synced-clause-any_moment
returns-in_err-append_synced-clause-any_moment g c rest none =
    gate_begun g.D.Device c.args.device.now c.append_synced.new.device c.args.bytes.now none (c.append_synced.ensures.any_moment rest)

pub returns-clause-any_moment : goal.returns-clause-any_moment
returns-clause-any_moment g c rest none =
    let done = c.in_ok-append_synced.ensures.written rest in
    let seen : g.D.Device.seen c.append_synced.new.device ≡ [] ++ closed ∷ [] = done.1 ∙ ap (λ (x : List ℕ). x ++ closed ∷ []) none in
    bytes_begun g.D.Device c.args.device.now c.append_synced.new.device c.append_gated.new.device c.args.bytes.now c.in-Some.first c.in-Some.rest.now none c.in-Some.ensures (c.append_synced.ensures.any_moment rest) (c.append_gated.ensures.any_moment [] done.0 seen refl)

pub returns-clause-written : goal.returns-clause-written
returns-clause-written g c rest none =
    let done = c.in_ok-append_synced.ensures.written rest in
    let seen : g.D.Device.seen c.append_synced.new.device ≡ [] ++ closed ∷ [] = done.1 ∙ ap (λ (x : List ℕ). x ++ closed ∷ []) none in
    on_ok_weaker c.append_gated.result (λ gated. (gated.0, gated.1 ∙ sym c.in-Some.ensures)) (c.append_gated.ensures.written [] done.0 seen refl)
