use Rattle.std.proofs.Common.{Some, ap, sym, ◌∙◌, arith}
use Rattle.std.proofs.lemmas.Bool.{ne_eqb}
use Rattle.historical_bitmap.specs.CachedWord.{is_cached_at}
use Rattle.historical_bitmap.proofs.EditedChunks.CachedWord.{place_at, whole_at, whole_beside, whole_none}
use Rattle.historical_bitmap.proofs.bitmap.historical.cached_word.chunk_of.Goals as goal
use Rattle.historical_bitmap.proofs.bitmap.historical.cached_word.chunk_of.Goals.{in-Some+then-cached-index, in-Some+else-cached-index, in_default}

pub returns-in_err-bytes-clause-value : goal.returns-in_err-bytes-clause-value
returns-in_err-bytes-clause-value g c =
    let t = c.args.cache.now in
    (c.from_residual.ensures ∙ sym (whole_none g.row.N c.args.chunks.now t.chunk t.base t.count t.word c.args.index c.requires.cached (sym c.in_err-bytes.ensures.value)))

pub put_word-requires : goal.put_word-requires
put_word-requires g c =
    let t = c.args.cache.now in
    let at = place_at g.row.N c.args.chunks.now t.chunk t.base t.count c.in-Some.cached c.in-Some.is c.requires.cached in
    (omega (arith, c.requires.cached.width.fits), (c.requires.cached.width, (at.0, (at.1, (at.2, at.3)))))

pub returns-clause-value : goal.returns-clause-value
returns-clause-value g c =
    let t = c.args.cache.now in
    (elim c.match-cache.branch [
      | in-Some+then-cached-index w ↦ ap Some w.bytes-is ∙ whole_at g.row.N c.args.chunks.now t.chunk t.base t.count t.word c.args.index c.in_ok-bytes.field-0.now w.put_word.new.chunk (w.in-Some.is ∙ ap Some w.if-cached-index.true) c.requires.cached (sym c.in_ok-bytes.ensures.value) w.put_word.ensures.known w.put_word.ensures.put
      | in-Some+else-cached-index w ↦ ap Some w.bytes-is ∙ (c.in_ok-bytes.ensures.value ∙ sym (whole_beside g.row.N c.args.chunks.now t.chunk t.base t.count t.word c.args.index c.requires.cached (ap (λ o. is_cached_at o c.args.index) w.in-Some.is ∙ ne_eqb w.in-Some.cached c.args.index w.if-cached-index.false)))
      | in_default w ↦ ap Some w.bytes-is ∙ (c.in_ok-bytes.ensures.value ∙ sym (whole_beside g.row.N c.args.chunks.now t.chunk t.base t.count t.word c.args.index c.requires.cached (ap (λ o. is_cached_at o c.args.index) w.in_default.is)))
    ])
