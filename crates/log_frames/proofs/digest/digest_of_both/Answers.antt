use Rattle.std.proofs.Common.{ap, sym, ◌∙◌}
use Rattle.std.specs.Hash.DefaultHasher as sip
use Rattle.std.proofs.lemmas.List.Sums.{fold-append}
use Rattle.log_frames.specs.Digest.{digest}
use Rattle.log_frames.proofs.digest.digest_of_both.Goals as goal

pub returns : goal.returns
unfolding digest sip.write
returns c =
    let first = c.write.ensures ∙ ap (λ s. sip.write s c.args.first.now) c.new-hasher.ensures in
    let both = c.write-2.ensures ∙ ap (λ s. sip.write s c.args.second.now) first ∙ sym (fold-append sip.write_byte sip.initial c.args.first.now c.args.second.now) in
    c.finish.ensures ∙ ap sip.finish both
