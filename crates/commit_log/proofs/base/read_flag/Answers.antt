use Rattle.std.proofs.Common.{◌-◌, drop, length, refl, arith}
use Rattle.std.proofs.lemmas.List.{length-drop, length-take}
use Rattle.commit_log.proofs.Bases.{flag_above, flag_missing, tag_alone, tag_other}
use Rattle.commit_log.proofs.base.read_flag.Goals as goal

pub returns-in_default-clause-error : goal.returns-in_default-clause-error
returns-in_default-clause-error c = λ n range. flag_missing n range c.args.bytes.now c.in_default.len_below

pub returns-then-tag-ne-BASE-clause-error : goal.returns-then-tag-ne-BASE-clause-error
returns-then-tag-ne-BASE-clause-error c = λ n range. tag_other n range c.args.bytes.now c.in-len1-up.len_at_least c.if-tag-ne-BASE.true

pub returns-in_default-rest-clause-error : goal.returns-in_default-rest-clause-error
returns-in_default-rest-clause-error c =
    let bytes = c.args.bytes.now in
    λ n range. tag_alone n range bytes c.in-len1-up.len_at_least c.if-tag-ne-BASE.false (omega (arith, c.in_default-rest.len_below, length-take (length bytes - 1) (drop 1 bytes), length-drop 1 bytes))

pub returns-then-flag-gt2-clause-error : goal.returns-then-flag-gt2-clause-error
returns-then-flag-gt2-clause-error c = λ n range. flag_above n range c.args.bytes.now _ c.in-len1-up-rest.len_at_least c.if-tag-ne-BASE.false refl c.if-flag-gt2.true
