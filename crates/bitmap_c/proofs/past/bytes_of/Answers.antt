use Rattle.std.proofs.Common.{ℕ, List, length, sym, subst}
use Rattle.std.specs.Prelude.{Result}
use Rattle.bitmap_c.specs.Reads.{Returns, bytes_read}
use Rattle.bitmap_c.proofs.Kept.{read_kept}
use Rattle.bitmap_c.proofs.past.bytes_of.Goals as goal

pub returns : goal.returns
returns g c =
    let a = c.args in
    let kept = read_kept {A = List ℕ} g.row.N a.session.now a.number c.in-Some.bitmap (λ N b. bytes_read N b a.from a.to (length a.out.now)) c.in-Some.ensures in
    subst (λ (read : Result (List ℕ) ℕ). Returns c.read_bytes.result a.out.now c.read_bytes.new.out read) (sym kept) c.read_bytes.ensures
