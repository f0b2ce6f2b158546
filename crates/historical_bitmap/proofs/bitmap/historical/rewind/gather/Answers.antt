use Rattle.std.proofs.Common.{ℕ, ◌-◌, ap, arith, drop}
use Rattle.historical_bitmap.specs.Record.{ReverseRecord}
use Rattle.historical_bitmap.specs.Stored.{entry_values}
use Rattle.historical_bitmap.proofs.History.Positions.{all_between, last_between, none_between}
use Rattle.historical_bitmap.proofs.History.Rewound.{last_rises, record_gathered, records_all, records_gathered}
use Rattle.historical_bitmap.proofs.bitmap.historical.rewind.gather.Goals as goal

pub loop-position-init : goal.loop-position-init
loop-position-init g c =
    let all = all_between c.args.past c.len-position.result c.args.commits.now c.len-position.ensures in
    record { within = omega arith; left = records_all _ _ c.args.first c.args.end c.new-chunks.result.entries all (ap (λ m. m.entries) c.new-chunks.ensures) c.requires.rise }

pub chunk_diffs-requires : goal.chunk_diffs-requires
chunk_diffs-requires g c = (omega arith, omega (arith, c.requires.width.fits))

pub gather_record-requires : goal.gather_record-requires
gather_record-requires g c =
    let last : ℕ × ReverseRecord = (c.commit.result.0, c.commit.result.1.now) in
    let left = last_between c.args.past (c.loop-position.position - 1) c.loop-position.position c.args.commits.now last (omega arith) (omega arith) c.commit.ensures in (
      omega (arith, c.requires.width.fits),
      (
        omega (arith, c.requires.width.fits),
        rw c.chunk_diffs.ensures (last_rises last _ _ (drop c.args.past c.args.commits.now) c.args.first c.args.end c.loop-position.chunks.entries left c.loop-position.invariant.left),
      ),
    )

pub loop-position-preserved : goal.loop-position-preserved
loop-position-preserved g c =
    let last : ℕ × ReverseRecord = (c.commit.result.0, c.commit.result.1.now) in
    let left = last_between c.args.past (c.loop-position.position - 1) c.loop-position.position c.args.commits.now last (omega arith) (omega arith) c.commit.ensures in
    record {
      within = omega arith;
      left = record_gathered last (entry_values c.chunk_diffs.result.now) _ _ (drop c.args.past c.args.commits.now) c.args.first c.args.end
          c.loop-position.chunks.entries c.gather_record.new.chunks.entries left c.chunk_diffs.ensures c.in_ok-gather_record.ensures c.loop-position.invariant.left;
    }

pub returns-clause-ok : goal.returns-clause-ok
returns-clause-ok g c =
    let none = none_between c.args.past c.loop-position.position c.args.commits.now c.loop-position-test.false c.loop-position.invariant.within in
    records_gathered _ (drop c.args.past c.args.commits.now) c.args.first c.args.end c.loop-position.chunks.entries none c.loop-position.invariant.left
