use Rattle.std.proofs.Common.{◌∙◌, ap}
use Rattle.bitmap_core.specs.Decoding.{admits, decode_error}
use Rattle.commit_log.proofs.Bases.{read_long, state_admitted, state_whole}
use Rattle.commit_log.proofs.base.read_bits.Goals as goal

pub returns-then-not-is_empty-clause-error : goal.returns-then-not-is_empty-clause-error
returns-then-not-is_empty-clause-error g c =
    read_long g.row.N (admits c.args.range.now) c.in-Ok.bits c.read_cfg.new.from.now c.args.bytes.now c.is_empty.result c.in-Ok.ensures.accepted c.in-Ok.ensures.sized.0 c.in-Ok.ensures.found c.is_empty.ensures c.if-not-is_empty.true

pub returns-else-not-is_empty-clause-admitted : goal.returns-else-not-is_empty-clause-admitted
returns-else-not-is_empty-clause-admitted g c =
    state_admitted g.row.N (admits c.args.range.now) c.in-Ok.bits c.read_cfg.new.from.now c.args.bytes.now c.in-Ok.ensures.sized.0 c.in-Ok.ensures.found c.in-Ok.ensures.accepted

pub unread-requires-clause-whole : goal.unread-requires-clause-whole
unread-requires-clause-whole g c = λ full. state_whole g.row.N (admits c.args.range.now) c.args.bytes.now (c.in-Err.ensures.refused ∙ ap decode_error full)
