use Rattle.std.proofs.Common.{refl, sym}
use Rattle.std.proofs.lemmas.Result.{err_from_is_err_and}
use Rattle.historical_bitmap.specs.View.{pending_of}
use Rattle.bitmap_session.specs.Edits.{sets_chunk}
use Rattle.bitmap_session.proofs.Edits.Accepted.{chunk_accepted}
use Rattle.bitmap_session.proofs.Edits.Calls.{made, no_memory, not_made}
use Rattle.bitmap_session.proofs.session.edits.set_chunk.Goals as goal

pub returns-in_err-check_chunk : goal.returns-in_err-check_chunk
returns-in_err-check_chunk g c =
    let p = err_from_is_err_and c.from_residual.result c.from_residual.ensures.1 in
    rw (p.1, p.2) (not_made g.row.N c.args.bitmap.now (sets_chunk g.row.N c.args.index c.args.bytes.now) _ (sym c.in_err-check_chunk.ensures.why))

pub returns-in_err-try_set_chunk : goal.returns-in_err-try_set_chunk
returns-in_err-try_set_chunk g c =
    let p = err_from_is_err_and c.from_residual-in_err-try_set_chunk.result c.from_residual-in_err-try_set_chunk.ensures.1 in
    rw (p.1, p.2) (no_memory g.row.N c.args.bitmap.now c.try_set_chunk.new.self (sets_chunk g.row.N c.args.index c.args.bytes.now) (sym c.in_ok-check_chunk.ensures.why) refl c.in_err-try_set_chunk.ensures.err)

pub returns : goal.returns
returns g c =
    made g.row.N c.args.bitmap.now c.try_set_chunk.new.self (sets_chunk g.row.N c.args.index c.args.bytes.now) (sym c.in_ok-check_chunk.ensures.why)
    (chunk_accepted g.row.N (pending_of g.row.N c.args.bitmap.now) c.args.index c.args.bytes.now c.in_ok-check_chunk.ensures.retained)
    c.in_ok-try_set_chunk.ensures.ok
