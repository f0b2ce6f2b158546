use Rattle.std.proofs.Common.{◌∷◌, length, take, ap, ◌∙◌}
use Rattle.commit_log.specs.Entries.{encode_entry}
use Rattle.commit_log.proofs.Appended.{cut_back}
use Rattle.commit_log.proofs.logged_delta.apply_accepted_logged.Goals as goal

pub returns-in-Err-clause-nothing : goal.returns-in-Err-clause-nothing
unfolding encode_entry
returns-in-Err-clause-nothing g c =
    let log = c.args.log.now in
    let len = length c.bytes-len.result.now in
    c.cut_back.ensures
    ∙ (λ i. record { bytes = take len (c.in-Ok.ensures.ok i).bytes; place = c.place-place.ensures i })
    ∙ cut_back log (1 ∷ c.args.encoded.now) len (ap length c.bytes-len.ensures)
