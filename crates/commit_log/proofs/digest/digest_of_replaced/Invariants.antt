use Rattle.std.proofs.Common.{◌≡◌, length}
use Rattle.std.specs.Hash.DefaultHasher as sip
use Rattle.commit_log.specs.Delta.{replaced}
use Rattle.commit_log.specs.Entries.{all_chunks}
use Rattle.commit_log.proofs.digest.digest_of_replaced.Given as goal

-- what was hashed, and then what the chunks that are left replace, is what all chunks replace
abbrev pub invariant-loop-index : goal.invariant-loop-index
invariant-loop-index g l =
    let n = g.row.N in
    let bits = g.S.RetainedChunks.bits in
    sip.write l.hasher (replaced n (bits l.older) (all_chunks n l.rest)) ≡ sip.write sip.initial (replaced n (bits l.older) (all_chunks n l.chunks))

abbrev pub decreases-loop-index : goal.decreases-loop-index
decreases-loop-index g l = length l.rest
