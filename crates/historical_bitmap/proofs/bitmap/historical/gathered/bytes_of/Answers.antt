use Rattle.std.proofs.Common.{ap, sym, ◌∙◌}
use Rattle.std.specs.Map.{lookup}
use Rattle.std.specs.Prelude.{nat_eq}
use Rattle.historical_bitmap.proofs.bitmap.historical.gathered.bytes_of.Goals as goal

pub returns : goal.returns
returns g c = sym (ap (λ i. lookup (nat_eq i) c.args.chunks.now.entries) (sym c.in_ok-place.ensures.place.is) ∙ c.chunk_at.ensures)
