use Rattle.std.proofs.Common.{◌≡◌, List, ℕ, inl, sym, ◌∙◌}
use Rattle.std.proofs.lemmas.Result.{on_ok_weaker}
use Rattle.log_store.specs.Moments.{IsEither}
use Rattle.log_store.proofs.Moments.{goes_on}
use Rattle.log_store.proofs.Replaced.{first_stays, renamed, stays_at_rest, still_stays}
use Rattle.log_store.proofs.replacing.replace_synced.Goals as goal

pub returns-in_err-write_beside-clause-any_moment : goal.returns-in_err-write_beside-clause-any_moment
returns-in_err-write_beside-clause-any_moment g c rest =
    let old = c.args.device.now in
    first_stays g.D.Device old c.write_beside.new.self c.args.bytes.now rest (λ f left. g.met.D.Device.only_now old f rest.works left) (c.write_beside.ensures.stays rest.works)

pub returns-in_err-sync_beside-clause-any_moment : goal.returns-in_err-sync_beside-clause-any_moment
returns-in_err-sync_beside-clause-any_moment g c rest =
    let old = c.args.device.now in
    let one = c.write_beside.new.self in
    let a = c.write_beside.ensures.stays rest.works in
    let first = first_stays g.D.Device old one c.args.bytes.now rest (λ f left. g.met.D.Device.only_now old f rest.works left) a in
    still_stays g.D.Device old one c.sync_beside.new.self c.args.bytes.now first (λ d left. inl (rest.only d (a.fewer d left))) (c.sync_beside.ensures.stays a.works)

pub returns-in_err-rename-clause-any_moment : goal.returns-in_err-rename-clause-any_moment
returns-in_err-rename-clause-any_moment g c rest =
    let old = c.args.device.now in
    let bytes : List ℕ = c.args.bytes.now in
    let one = c.write_beside.new.self in
    let two = c.sync_beside.new.self in
    let new = c.rename.new.self in
    let a = c.write_beside.ensures.stays rest.works in
    let b = c.sync_beside.ensures.stays a.works in
    let first = first_stays g.D.Device old one bytes rest (λ f left. g.met.D.Device.only_now old f rest.works left) a in
    let second = still_stays g.D.Device old one two bytes first (λ d left. inl (rest.only d (a.fewer d left))) b in
    let rests = stays_at_rest g.D.Device one two (stays_at_rest g.D.Device old one rest a) b in
    goes_on g.D.Device old two new (IsEither (g.D.Device.seen old) bytes) (g.D.Device.may_leave new) second (c.rename.ensures.time b.works)
    (λ d left. renamed g.D.Device old two bytes (g.D.Replaceable.beside one) d (g.D.Device.may_leave new) (g.D.Replaceable.beside_may_leave two) rests (b.seen ∙ a.seen) (c.in_ok-write_beside.ensures.written rest.works) (c.in_ok-sync_beside.ensures.kept a.works)
    (c.rename.ensures.crash b.works) left)

pub returns-clause-any_moment : goal.returns-clause-any_moment
returns-clause-any_moment g c rest =
    let old = c.args.device.now in
    let bytes : List ℕ = c.args.bytes.now in
    let one = c.write_beside.new.self in
    let two = c.sync_beside.new.self in
    let three = c.rename.new.self in
    let a = c.write_beside.ensures.stays rest.works in
    let b = c.sync_beside.ensures.stays a.works in
    let first = first_stays g.D.Device old one bytes rest (λ f left. g.met.D.Device.only_now old f rest.works left) a in
    let second = still_stays g.D.Device old one two bytes first (λ d left. inl (rest.only d (a.fewer d left))) b in
    let rests = stays_at_rest g.D.Device one two (stays_at_rest g.D.Device old one rest a) b in
    let either = λ (d : List ℕ) (left : g.D.Device.may_leave three d). renamed g.D.Device old two bytes (g.D.Replaceable.beside one) d (g.D.Device.may_leave three) (g.D.Replaceable.beside_may_leave two) rests (b.seen ∙ a.seen)
    (c.in_ok-write_beside.ensures.written rest.works) (c.in_ok-sync_beside.ensures.kept a.works) (c.rename.ensures.crash b.works) left in
    let third = goes_on g.D.Device old two three (IsEither (g.D.Device.seen old) bytes) (g.D.Device.may_leave three) second (c.rename.ensures.time b.works) either in
    still_stays g.D.Device old three c.sync_folder.new.self bytes third either (c.sync_folder.ensures.stays (c.rename.ensures.behaves b.works))

pub returns-clause-written : goal.returns-clause-written
returns-clause-written g c rest =
    let a = c.write_beside.ensures.stays rest.works in
    let b = c.sync_beside.ensures.stays a.works in
    let works = c.rename.ensures.behaves b.works in
    let last = c.sync_folder.ensures.stays works in
    let written = c.in_ok-write_beside.ensures.written rest.works in
    let seen : g.D.Device.seen c.sync_folder.new.self ≡ c.args.bytes.now = last.seen ∙ c.in_ok-rename.ensures.seen b.works ∙ c.sync_beside.ensures.beside a.works ∙ written in
    on_ok_weaker c.sync_folder.result
    (λ named. (record { works = last.works; only = λ d left. c.in_ok-sync_beside.ensures.kept a.works d (c.in_ok-rename.ensures.named b.works d (named d left)) ∙ written ∙ sym seen }, seen))
    (c.sync_folder.ensures.kept works)
