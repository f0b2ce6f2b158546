use Rattle.std.proofs.Common.{◌≡◌, ◌++◌, length, ap, length-append, arith}
use Rattle.commit_log.specs.History.{history_bytes}
use Rattle.commit_log.specs.Reading.{ranges}
use Rattle.bitmap_session.specs.Machine.{Machine}
use Rattle.bitmap_session.specs.Saved.{kept_part}
use Rattle.bitmap_c.proofs.Histories.{never_read, part_status}
use Rattle.bitmap_c.proofs.saved.load_session.Goals as goal

pub returns-in-Ok : goal.returns-in-Ok
returns-in-Ok g c =
    let n = g.row.N in
    let r = ranges c.args.bits.now c.args.commits.now in
    let bytes = c.args.bytes.now in
    let m : Machine = c.in-Ok.session in
    let history = history_bytes n (kept_part m.state) in
    let rest = c.load.new.from.now in
    let is : bytes ≡ history ++ rest = c.in-Ok.ensures.value in
    record {
      loaded = record {
        rest = rest;
        value = is;
        size_is = omega (arith, ap (λ x. length x) is, length-append history rest);
        outside = c.in-Ok.ensures.outside;
        ends = c.in-Ok.ensures.ends;
        admitted = c.in-Ok.ensures.admitted;
      };
      again = λ kept left begins ends. (c.in-Ok.ensures.again kept left begins.0 ends begins.1).0;
      complete = λ kept left begins within. tt;
      cut = λ kept size part within. never_read n r bytes m kept size (c.in-Ok.ensures.header, c.in-Ok.ensures.cut) part within;
      error = tt;
    }

pub returns-in-Err : goal.returns-in-Err
returns-in-Err g c = record {
  loaded = tt;
  again = λ kept left begins ends. tt;
  complete = λ kept left begins within. c.in-Err.ensures.complete kept left begins.0 within begins.1;
  cut = λ kept size part within. part_status {X = Machine} g.row.N (ranges c.args.bits.now c.args.commits.now) c.args.bytes.now c.in-Err.error kept size (c.in-Err.ensures.header, c.in-Err.ensures.cut) part within;
  error = c.in-Err.ensures.error;
}
