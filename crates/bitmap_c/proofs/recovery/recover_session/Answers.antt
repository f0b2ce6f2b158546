use Rattle.bitmap_session.specs.declared.logged.RecoveredSession.{RecoveredSession}
use Rattle.bitmap_c.proofs.Recoveries.{base_status, never_recovered, read_log}
use Rattle.bitmap_c.proofs.recovery.recover_session.Goals as goal

pub returns-in-Ok : goal.returns-in-Ok
returns-in-Ok g c =
    let n = g.row.N in
    let bytes = c.args.bytes.now in
    let found = c.in-Ok.found in
    let is = c.in-Ok.ensures in
    let parts = c.into_parts-session in
    read_log n bytes found.session found.torn parts.result.0 parts.result.1 c.position-good.result
    parts.ensures.session parts.ensures.log c.position-good.ensures
    is.state is.outside is.taken is.good is.whole is.prefix
    (λ base entries size ends. never_recovered {X = RecoveredSession n} n bytes found base entries size (is.short, is.no_base) ends)

pub returns-in-Err : goal.returns-in-Err
returns-in-Err g c =
    let is = c.in-Err.ensures in
    record {
      recovered = tt;
      whole = λ base entries log same. tt;
      prefix = λ base entries size prefix. tt;
      of_prefix = λ base entries size prefix. is.complete base entries size prefix;
      complete = λ state place torn recovers. is.only_memory state place torn recovers;
      cut = λ base entries size ends.
          base_status {X = RecoveredSession g.row.N} g.row.N c.args.bytes.now c.in-Err.error base entries size (is.short, is.no_base) ends;
      error = is.cause;
    }
