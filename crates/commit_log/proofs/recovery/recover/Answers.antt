use Rattle.std.proofs.Common.{◌≡◌, ◌≤◌, ◌<◌, Decides, alloc_error, false, length}
use Rattle.std.proofs.lemmas.Result.{IfOk-weaker, IfErr-weaker}
use Rattle.commit_log.specs.Kept.{kept_of}
use Rattle.commit_log.specs.Logs.{place_of, state_of}
use Rattle.commit_log.specs.Recovered.{HasFirstFrame, IsMadeIn, IsRecoverError, Recovers}
use Rattle.commit_log.specs.declared.recovery.RecoverError.TheVariants.{Memory}
use Rattle.commit_log.proofs.RecoverErrors.{base_cut, base_error_of, has_first, long_if_read, only_memory, short_error}
use Rattle.commit_log.proofs.Recovering.{good_bytes, log_recovers, made_in, one_recovery, prefix_state}
use Rattle.commit_log.proofs.recovery.recover.Goals as goal

pub returns-clause-good : goal.returns-clause-good
returns-clause-good g c =
    let n = g.row.N in
    let bytes = c.args.bytes.now in
    IfOk-weaker c.read_all.result (λ found. Recovers n bytes (kept_of n found.bitmap) found.log.place found.torn) (λ found. found.log.place.at ≤ length bytes)
    (λ found r. (good_bytes n bytes (kept_of n found.bitmap) found.log.place found.torn r).0) c.read_all.ensures.state

pub returns-clause-torn : goal.returns-clause-torn
returns-clause-torn g c =
    let n = g.row.N in
    let bytes = c.args.bytes.now in
    IfOk-weaker c.read_all.result (λ found. Recovers n bytes (kept_of n found.bitmap) found.log.place found.torn) (λ found. Decides found.torn (found.log.place.at < length bytes))
    (λ found r. (good_bytes n bytes (kept_of n found.bitmap) found.log.place found.torn r).1) c.read_all.ensures.state

pub returns-clause-whole : goal.returns-clause-whole
returns-clause-whole g c = λ base entries log is.
    let n = g.row.N in
    let bytes = c.args.bytes.now in
    IfOk-weaker c.read_all.result (λ found. Recovers n bytes (kept_of n found.bitmap) found.log.place found.torn)
    (λ found. (kept_of n found.bitmap ≡ state_of n base entries) × (found.log.place ≡ place_of n base entries) × (found.torn ≡ false))
    (λ found r. one_recovery n bytes (kept_of n found.bitmap) (state_of n base entries) found.log.place (place_of n base entries) found.torn false c.requires.positive r (log_recovers n base entries bytes log is)) c.read_all.ensures.state

pub returns-clause-prefix : goal.returns-clause-prefix
returns-clause-prefix g c = λ base entries m h.
    let n = g.row.N in
    let bytes = c.args.bytes.now in
    IfOk-weaker c.read_all.result (λ found. Recovers n bytes (kept_of n found.bitmap) found.log.place found.torn) (λ found. IsMadeIn n base entries m (kept_of n found.bitmap) found.log.place found.torn)
    (λ found r. made_in n base entries m bytes (kept_of n found.bitmap) found.log.place found.torn c.requires.positive h r) c.read_all.ensures.state

pub returns-clause-only_memory : goal.returns-clause-only_memory
returns-clause-only_memory g c = λ state place torn r.
    IfErr-weaker c.read_all.result (IsRecoverError g.row.N c.args.bytes.now) (λ e. e ≡ Memory alloc_error)
    (λ e why. only_memory g.row.N c.args.bytes.now state place torn e c.requires r why) c.read_all.ensures.cause

pub returns-clause-complete : goal.returns-clause-complete
returns-clause-complete g c = λ base entries m h.
    let made = prefix_state g.row.N base entries m c.args.bytes.now h in
    returns-clause-only_memory g c made.0 made.1 made.2 made.3

pub returns-clause-short : goal.returns-clause-short
returns-clause-short g c = λ few.
    let n = g.row.N in
    let bytes = c.args.bytes.now in
    let read = IfOk-weaker c.read_all.result (λ found. Recovers n bytes (kept_of n found.bitmap) found.log.place found.torn) (λ found. 32 ≤ length bytes)
    (λ found r. long_if_read n bytes (kept_of n found.bitmap) found.log.place r.rest r.reads) c.read_all.ensures.state in
    short_error n bytes c.read_all.result read c.read_all.ensures.cause few

pub returns-clause-no_base : goal.returns-clause-no_base
returns-clause-no_base g c = λ base entries m log from to is.
    let n = g.row.N in
    let bytes = c.args.bytes.now in
    let read = IfOk-weaker c.read_all.result (λ found. Recovers n bytes (kept_of n found.bitmap) found.log.place found.torn) (λ found. HasFirstFrame n bytes)
    (λ found r. has_first n bytes (kept_of n found.bitmap) found.log.place r.rest r.reads) c.read_all.ensures.state in
    base_error_of n bytes c.read_all.result c.requires (base_cut n base entries m bytes log from to is) read c.read_all.ensures.cause
