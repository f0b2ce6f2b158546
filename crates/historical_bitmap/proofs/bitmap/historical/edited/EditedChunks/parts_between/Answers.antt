use Rattle.std.proofs.Common.{◌≡◌, ℕ, ◌+◌, ◌-◌, ◌^◌, min, max, length, refl, ap, sym, ◌∙◌, arith}
use Rattle.std.specs.Map.{keys_of}
use Rattle.historical_bitmap.proofs.EditedChunks.Appended.{parts_between}
use Rattle.historical_bitmap.proofs.bitmap.historical.edited.EditedChunks.parts_between.Goals as goal

pub returns : goal.returns
returns g c =
    let count : c.len.result ≡ length c.self.inside.appended.items = omega (arith, c.len.ensures, c.self.inside.appended.ok.0) in
    let past : c.clamp-past.result ≡ max c.args.from (min (min (c.self.inside.first + length c.self.inside.appended.items) (2 ^ 64 - 1)) c.args.to) =
    c.clamp-past.ensures ∙ ap (λ (m : ℕ). max c.args.from (min m c.args.to)) (c.saturating_add.ensures ∙ ap (λ (m : ℕ). min (c.self.inside.first + m) (2 ^ 64 - 1)) count) in
    let parts = parts_between c.self.inside.first c.self.inside.appended.items c.self.inside.stored.entries (keys_of c.self.inside.stored.entries) c.args.from c.clamp-first.result c.clamp-past.result c.args.to
    refl c.requires.order c.ranges.to.fits c.clamp-first.ensures past in
    record {
      from = parts.0;
      rises = parts.1;
      to = parts.2;
      indices = rw (sym c.self.view_is) parts.3;
    }
