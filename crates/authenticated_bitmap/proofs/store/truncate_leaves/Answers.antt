use Rattle.std.proofs.Common.{take, ap, ◌∙◌}
use Rattle.authenticated_bitmap.specs.Stored.{nodes}
use Rattle.authenticated_bitmap.proofs.Truncated.{stored_take}
use Rattle.authenticated_bitmap.proofs.store.truncate_leaves.Goals as goal

pub returns-clause-value : goal.returns-clause-value
returns-clause-value c H digests s =
    c.truncate.ensures.items ∙ ap (λ n. take n c.args.stored.now.items) c.node_count.ensures ∙ ap (take (nodes c.args.kept)) s ∙ stored_take H digests c.args.kept
