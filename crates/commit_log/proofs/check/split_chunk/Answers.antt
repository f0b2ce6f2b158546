use Rattle.commit_log.proofs.Checks.{chunk_first}
use Rattle.commit_log.proofs.check.split_chunk.Goals as goal

pub returns-clause-some : goal.returns-clause-some
returns-clause-some g c =
    let a = c.in_ok-index.ensures.cases in
    let b = c.in_ok-bytes.ensures.cases in
    chunk_first g.row.N c.from_be_bytes.result c.args.chunks.now c.in_ok-index.index.now c.in_ok-index.rest.now c.in_ok-bytes.bytes.now c.in_ok-bytes.rest.now a.0 a.1 a.2 b.0 b.1 b.2 c.from_be_bytes.ensures
