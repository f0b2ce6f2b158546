use Rattle.authenticated_bitmap.proofs.Pigeonhole.{each_collides}
use Rattle.authenticated_bitmap.proofs.laws.each_hash_collides.Goals as goal

pub returns : goal.returns
returns c = each_collides
