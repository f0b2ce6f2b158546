use Rattle.std.proofs.Common.{ap, ◌∙◌}
use Rattle.std.specs.Hash.DefaultHasher as sip
use Rattle.log_frames.specs.Digest.{digest}
use Rattle.log_frames.specs.Frames.{be64}
use Rattle.log_frames.specs.Header.{magic}
use Rattle.log_frames.proofs.header.fields_digest.Goals as goal

pub returns : goal.returns
unfolding digest sip.write
returns c =
    let width = c.args.width in
    let first = c.write.ensures ∙ ap (λ s. sip.write s magic) c.new-hasher.ensures in
    let second = c.write-2.ensures ∙ ap (λ b. sip.write c.write.new.self b) c.to_be_bytes.ensures ∙ ap (λ s. sip.write s (be64 1)) first in
    let third = c.write-3.ensures ∙ ap (λ b. sip.write c.write-2.new.self b) c.to_be_bytes-2.ensures ∙ ap (λ s. sip.write s (be64 width)) second in
    c.finish.ensures ∙ ap sip.finish third
