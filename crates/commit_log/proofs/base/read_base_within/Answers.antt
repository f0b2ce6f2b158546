use Rattle.std.proofs.Common.{arith}
use Rattle.std.proofs.lemmas.Result.{err_from_is_err_and}
use Rattle.bitmap_core.specs.Decoding.{admits}
use Rattle.commit_log.proofs.Bases.{base_found, fields_short, numbers_found, numbers_short, past_error, state_error}
use Rattle.commit_log.proofs.base.read_base_within.Goals as goal

pub returns-in_default-clause-error : goal.returns-in_default-clause-error
returns-in_default-clause-error g c =
    fields_short g.row.N (admits c.args.range.now) c.in_ok-flag.flag c.args.bytes.now c.in_ok-flag.rest.now c.in_ok-flag.ensures.found c.in_ok-flag.ensures.fits (numbers_short c.in_ok-flag.rest.now c.in_default.field-0 c.in_default.ensures)

pub returns-in_err-past-clause-error : goal.returns-in_err-past-clause-error
returns-in_err-past-clause-error g c =
    let p = err_from_is_err_and c.from_residual-in_err-past.result c.from_residual-in_err-past.ensures.1 in
    rw (p.1, p.2) (past_error g.row.N (admits c.args.range.now) c.in_ok-flag.flag c.in-Ok.number c.in-Ok.count c.args.bytes.now c.in_ok-flag.rest.now c.in-Ok.rest.now c.in_err-past.field-0.0 c.in_ok-flag.ensures.found c.in_ok-flag.ensures.fits c.in-Ok.ensures c.in_err-past.ensures.error)

pub returns-in_err-bits-clause-error : goal.returns-in_err-bits-clause-error
returns-in_err-bits-clause-error g c =
    let p = err_from_is_err_and c.from_residual-in_err-bits.result c.from_residual-in_err-bits.ensures.1 in
    rw (p.1, p.2)
    (state_error g.row.N (admits c.args.range.now) c.in_ok-flag.flag c.in-Ok.number c.in-Ok.count c.args.bytes.now c.in_ok-flag.rest.now c.in-Ok.rest.now c.in_ok-past.past c.in_err-bits.field-0.0 c.in_ok-flag.ensures.found c.in_ok-flag.ensures.fits c.in-Ok.ensures c.in_ok-past.ensures.found c.in_ok-past.ensures.fits c.in_err-bits.ensures.error)

pub returns-clause-found : goal.returns-clause-found
returns-clause-found g c =
    let are = numbers_found c.in_ok-flag.rest.now c.in-Ok.number c.in-Ok.count c.in-Ok.rest.now c.in-Ok.ensures in
    base_found g.row.N c.in_ok-flag.flag c.in-Ok.number c.in-Ok.count c.args.bytes.now c.in_ok-flag.rest.now c.in-Ok.rest.now c.in_ok-past.past c.in_ok-bits.bits (λ i. omega (arith, c.type_inv.bytes i)) c.in_ok-flag.ensures.found are c.in_ok-past.ensures.found c.in_ok-bits.ensures.found
