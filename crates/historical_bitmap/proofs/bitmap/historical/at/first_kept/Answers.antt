use Rattle.std.proofs.Common.{ℕ, ap, arith, drop, refl, sym, ◌∙◌}
use Rattle.std.proofs.lemmas.List.{drop_all}
use Rattle.std.specs.Prelude.{option_copied}
use Rattle.historical_bitmap.specs.Record.{ReverseRecord}
use Rattle.historical_bitmap.proofs.History.InPlace.{first_rises, found_first, found_none, looks_past}
use Rattle.historical_bitmap.proofs.History.Positions.{first_from}
use Rattle.historical_bitmap.proofs.bitmap.historical.at.first_kept.Goals as goal

pub loop-position-init : goal.loop-position-init
loop-position-init g c = record { same = refl; rise = c.requires }

pub kept-requires : goal.kept-requires
kept-requires g c =
    let first : ℕ × ReverseRecord = (c.commit.result.0, c.commit.result.1.now) in
    let left = first_from c.loop-position.position c.args.commits.now first c.commit.ensures in
    (omega arith, (omega arith, first_rises (drop c.args.first c.args.commits.now) _ _ first c.args.chunk left c.loop-position.invariant))

pub returns-in-Some : goal.returns-in-Some
returns-in-Some g c =
    let first : ℕ × ReverseRecord = (c.commit.result.0, c.commit.result.1.now) in
    let left = first_from c.loop-position.position c.args.commits.now first c.commit.ensures in
    let bytes = sym c.kept.ensures ∙ ap option_copied c.in-Some.is in
    sym (found_first (drop c.args.first c.args.commits.now) _ _ first c.args.chunk c.in-Some.bytes.now left bytes c.loop-position.invariant)

pub loop-position-preserved : goal.loop-position-preserved
loop-position-preserved g c =
    let first : ℕ × ReverseRecord = (c.commit.result.0, c.commit.result.1.now) in
    let left = first_from c.loop-position.position c.args.commits.now first c.commit.ensures in
    let none = sym c.kept.ensures ∙ ap option_copied c.in_default.is in
    looks_past (drop c.args.first c.args.commits.now) _ _ first c.args.chunk left none c.loop-position.invariant

pub returns : goal.returns
returns g c = sym (found_none (drop c.args.first c.args.commits.now) _ c.args.chunk (drop_all c.loop-position.position c.args.commits.now (omega arith)) c.loop-position.invariant)
