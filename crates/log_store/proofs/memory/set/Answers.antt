use Rattle.std.proofs.Common.{◌++◌, ◌∷◌, List, ℕ, take, drop, add-one, ap, sym, ◌∙◌}
use Rattle.std.proofs.lemmas.List.{set_split}
use Rattle.log_store.proofs.memory.set.Goals as goal

pub returns-then-at-len : goal.returns-then-at-len
returns-then-at-len c lt =
    let old : List ℕ = c.args.bytes.now.items in
    set_split old c.args.at c.args.byte lt ∙ ap (λ (k : ℕ). take c.args.at old ++ c.args.byte ∷ drop k old) (sym (add-one c.args.at))
