use Rattle.std.proofs.Common.{◌*◌, ◌<◌, sym, arith}
use Rattle.std.proofs.lemmas.Bool.Decides.{nat_tests}
use Rattle.std.proofs.lemmas.Grind.{common_steps}
use Rattle.bitmap_c.proofs.Retained.{is_pruned}
use Rattle.bitmap_c.proofs.past.chunk_of.Goals as goal

pub returns-in_default-retained_bytes : goal.returns-in_default-retained_bytes
returns-in_default-retained_bytes g c =
    let bitmap = c.in-Some.bitmap in
    let below : c.args.position < 8 * g.row.N * bitmap.pruned =
    is_pruned g.row.N bitmap c.args.position c.chunk_index.result (omega arith) c.chunk_index.ensures (omega arith) (sym c.in_default-retained_bytes.ensures) in
    grind (arith, common_steps, nat_tests)
