use Rattle.std.proofs.Common.{sym, arith}
use Rattle.historical_bitmap.proofs.EditedChunks.CachedWord.{word_place, written_back}
use Rattle.historical_bitmap.proofs.bitmap.historical.edited.EditedChunks.put_word.Goals as goal

pub get_mut-requires : goal.get_mut-requires
get_mut-requires g c = (omega arith, omega (arith, c.requires.tail.width.fits))

pub put_word-requires : goal.put_word-requires
put_word-requires g c =
    let ok = c.requires.tail in
    let place = word_place g.row.N c.args.self.now c.args.base c.args.count c.args.index ok in
    (omega (arith, ok.width.fits), (ok.width, (place.0, (place.1, (place.2, place.3)))))

pub returns-in-Some : goal.returns-in-Some
returns-in-Some g c = written_back g.row.N c.args.self.now c.args.base c.args.count c.args.word c.args.index c.in-Some.bytes.now c.put_word.new.chunk c.requires.tail (sym c.in-Some.ensures.value) c.put_word.ensures.known c.put_word.ensures.put
