use Rattle.std.proofs.Common.{◌≡◌, inr, length, refl, ap, sym, ◌∙◌}
use Rattle.commit_log.specs.Logs.{log_bytes}
use Rattle.commit_log.proofs.LogBytes.{place_counts}
use Rattle.log_frames.specs.declared.frame.Place.{Place}
use Rattle.log_store.proofs.Stored.{begun_entries, kept_entries}
use Rattle.log_store.proofs.stored_log.StoredLog.append_frames.Goals as goal

pub returns-in-Err-clause-fails : goal.returns-in-Err-clause-fails
returns-in-Err-clause-fails g c base begun more kept state made held h waits is place =
    let old = c.args.self.now in
    let log = log_bytes g.row.N base begun in
    let w = (h.written c.requires).1 in
    let at : old.place.at ≡ length log = ap (λ (p : Place). p.at) w.place ∙ place_counts g.row.N base begun in
    let moments = c.append_gated.ensures.any_moment log w.rest w.bytes at in
    let works = c.append_gated.ensures.works h.works in
    inr (begun_entries g.row.N g.D.Device base begun more kept state made held old _ c.in-Some.first c.in-Some.rest.now h waits (sym c.in-Some.ensures ∙ is) moments works
    (λ f left. g.met.D.Device.counts_now c.append_gated.new.device (g.D.Device.moment old.device) f works moments.later left) refl)

pub returns-clause-kept : goal.returns-clause-kept
returns-clause-kept g c base begun more kept state made held h waits is place =
    let old = c.args.self.now in
    let log = log_bytes g.row.N base begun in
    let w = (h.written c.requires).1 in
    let at : old.place.at ≡ length log = ap (λ (p : Place). p.at) w.place ∙ place_counts g.row.N base begun in
    let done = c.in_default-append_gated.ensures.written log w.rest w.bytes at in
    kept_entries g.row.N g.D.Device base begun more kept state made held old _ c.in-Some.first c.in-Some.rest.now h c.requires waits (sym c.in-Some.ensures ∙ is) (c.append_gated.ensures.any_moment log w.rest w.bytes at) done.0 done.1 place
