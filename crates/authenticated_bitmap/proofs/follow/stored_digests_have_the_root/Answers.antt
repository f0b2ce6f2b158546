use Rattle.std.proofs.Common.{ap}
use Rattle.bitmap_core.specs.PrunedBits.{bit_len}
use Rattle.authenticated_bitmap.specs.Root.{root_over}
use Rattle.authenticated_bitmap.specs.Tree.{tree_hash}
use Rattle.authenticated_bitmap.proofs.Bitmaps.{authenticated_is_bitmap}
use Rattle.authenticated_bitmap.proofs.StoredLeaves.{chunk_digests_are}
use Rattle.authenticated_bitmap.proofs.follow.stored_digests_have_the_root.Goals as goal

pub returns-clause-bitmap : goal.returns-clause-bitmap
returns-clause-bitmap c = authenticated_is_bitmap

pub returns-clause-root : goal.returns-clause-root
returns-clause-root c H n s t width a = ap (λ leaves. root_over H (record { width = n; len = bit_len n s; pruned = s.pruned }) (tree_hash H leaves)) (chunk_digests_are H n s t width.positive a)
