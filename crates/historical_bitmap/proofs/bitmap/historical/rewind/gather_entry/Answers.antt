use Rattle.std.proofs.Common.{ap, sym, ◌∙◌}
use Rattle.std.proofs.lemmas.Result.{on_ok_weaker}
use Rattle.std.specs.Prelude.{option_copied}
use Rattle.historical_bitmap.specs.Stored.{diff_value}
use Rattle.historical_bitmap.proofs.History.Rewound.{entry_inserted}
use Rattle.historical_bitmap.proofs.bitmap.historical.rewind.gather_entry.Goals as goal

pub returns : goal.returns
returns g c =
    on_ok_weaker _ (entry_inserted c.args.first c.args.end c.args.chunk (diff_value c.args.diff.now) c.in-Some.bytes.now c.args.chunks.now.entries c.insert.new.self.entries
    c.if-chunk-first.false c.if-end-chunk.false (sym c.old_bytes.ensures ∙ ap option_copied c.in-Some.is)) c.insert.ensures.ok
