use Rattle.std.proofs.Common.{◌≡◌, ℕ, ◌<◌, ◌≤◌, ◌++◌, ◌∷◌, [], List, None, Some, arith, slice_index_or, subst}
use Rattle.std.proofs.lemmas.List.{length_push}
use Rattle.std.specs.List.{All}
use Rattle.std.specs.Map.{keys_of, lookup}
use Rattle.std.specs.Prelude.{nat_eq}
use Rattle.chunk_map.specs.Entries.{entries_of}
use Rattle.chunk_map.proofs.EntryLists.{entry_absent}
use Rattle.historical_bitmap.specs.Index.{bytes_at, PutsAt}
use Rattle.historical_bitmap.proofs.Index.Rows.{place_within, row_below, row_pushed, rows_set}
use Rattle.historical_bitmap.proofs.bitmap.historical.kept_bytes.KeptBytes.push.Goals as goal

pub push_at-requires : goal.push_at-requires
push_at-requires g c =
    let ks = c.self.inside.chunks in
    let rs = c.self.inside.rows.items in
    let chunk = c.args.chunk in
    let place = c.in-Some.place in
    let below : All (λ k. k < c.args.number) (keys_of (slice_index_or rs place [])) =
    subst (λ (v : List (ℕ × List (ℕ × List ℕ))). ((m : ℕ) → c.args.number ≤ m → bytes_at v chunk m ≡ None) → All (λ k. k < c.args.number) (keys_of (slice_index_or rs place []))) c.self.view_is
    (row_below ks rs chunk place c.self.invariant.apart c.self.invariant.sizes c.in-Some.ensures c.args.number) c.requires in (
      omega arith,
      (
        omega (arith, c.self.invariant.width.fits),
        (c.self.invariant.width, (place_within ks rs chunk place c.self.invariant.apart c.self.invariant.sizes c.in-Some.ensures, below)),
      ),
    )

pub invariant_of-self-in-Some : goal.invariant_of-self-in-Some
invariant_of-self-in-Some g c =
    let rs = c.self.inside.rows.items in
    let row = slice_index_or rs c.in-Some.place [] in
    rw c.in_ok-push_at-in-Some.ensures.ok (rows_set g.row.N c.self.inside.chunks rs c.in-Some.place (row ++ (c.args.number, c.args.bytes) ∷ []) c.self.invariant (omega (arith, length_push row (c.args.number, c.args.bytes))))

pub add_row-requires : goal.add_row-requires
add_row-requires g c = (
  omega arith,
  (
    omega (arith, c.self.invariant.width.fits),
    subst (λ (v : List (ℕ × List (ℕ × List ℕ))). lookup (nat_eq c.args.chunk) v ≡ None) c.self.view_is (entry_absent c.self.inside.chunks c.self.inside.rows.items c.args.chunk c.in-None.ensures),
  ),
)

pub returns-in_ok-push_at-in-Some-clause-ok : goal.returns-in_ok-push_at-in-Some-clause-ok
returns-in_ok-push_at-in-Some-clause-ok g c =
    let ks = c.self.inside.chunks in
    let rs = c.self.inside.rows.items in
    let chunk = c.args.chunk in
    subst (λ (v : List (ℕ × List (ℕ × List ℕ))). ((m : ℕ) → c.args.number ≤ m → bytes_at v chunk m ≡ None) → PutsAt v (entries_of ks c.push_at.new.rows.items) chunk c.args.number (Some c.args.bytes)) c.self.view_is
    (λ none. rw c.in_ok-push_at-in-Some.ensures.ok (row_pushed ks rs chunk c.in-Some.place c.self.invariant.apart c.self.invariant.sizes c.in-Some.ensures c.args.number c.args.bytes none))
    c.requires
