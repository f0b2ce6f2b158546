use Rattle.std.proofs.Common.{sym, ◌∙◌}
use Rattle.std.specs.Prelude.{string_bytes}
use Rattle.replay.proofs.Arguments.{named, other_text, width_of}
use Rattle.replay.proofs.program.read_width.Goals as goal

pub returns-in-text-clause-exact : goal.returns-in-text-clause-exact
returns-in-text-clause-exact c =
    sym (named (λ s. string_bytes s) c.args.args.now c.width-item.result _ c.in-len2.len_at_least c.in-len2.len_below c.width-item.is
    (width_of _ c.as_str.result.now c.as_str.ensures.value ∙ width_of _ _ (sym c.in-text.is)))

pub returns-in-text-2-clause-exact : goal.returns-in-text-2-clause-exact
returns-in-text-2-clause-exact c =
    sym (named (λ s. string_bytes s) c.args.args.now c.width-item.result _ c.in-len2.len_at_least c.in-len2.len_below c.width-item.is
    (width_of _ c.as_str.result.now c.as_str.ensures.value ∙ width_of _ _ (sym c.in-text-2.is)))

pub returns-in-text-3-clause-exact : goal.returns-in-text-3-clause-exact
returns-in-text-3-clause-exact c =
    sym (named (λ s. string_bytes s) c.args.args.now c.width-item.result _ c.in-len2.len_at_least c.in-len2.len_below c.width-item.is
    (width_of _ c.as_str.result.now c.as_str.ensures.value ∙ width_of _ _ (sym c.in-text-3.is)))

pub returns-in-text-4-clause-exact : goal.returns-in-text-4-clause-exact
returns-in-text-4-clause-exact c =
    sym (named (λ s. string_bytes s) c.args.args.now c.width-item.result _ c.in-len2.len_at_least c.in-len2.len_below c.width-item.is
    (width_of _ c.as_str.result.now c.as_str.ensures.value ∙ width_of _ _ (sym c.in-text-4.is)))

pub returns-in-text-5-clause-exact : goal.returns-in-text-5-clause-exact
returns-in-text-5-clause-exact c =
    sym (named (λ s. string_bytes s) c.args.args.now c.width-item.result _ c.in-len2.len_at_least c.in-len2.len_below c.width-item.is
    (width_of _ c.as_str.result.now c.as_str.ensures.value ∙ width_of _ _ (sym c.in-text-5.is)))

pub returns-in_default-as_str-clause-exact : goal.returns-in_default-as_str-clause-exact
returns-in_default-as_str-clause-exact c =
    let no = c.in_default-as_str in
    sym (named (λ s. string_bytes s) c.args.args.now c.width-item.result _ c.in-len2.len_at_least c.in-len2.len_below c.width-item.is
    (width_of _ c.as_str.result.now c.as_str.ensures.value ∙ other_text c.as_str.result.now no.not-text no.not-text-2 no.not-text-3 no.not-text-4 no.not-text-5))
