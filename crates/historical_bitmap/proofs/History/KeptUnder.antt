-- What is kept under each number after some commits are dropped.
use Rattle.std.proofs.Common.{◌≡◌, ℕ, Bool, List, refl, ap, arith, ◌∙◌, sym}
use Rattle.std.proofs.lemmas.Bool.{eqb-true, le-leb}
use Rattle.std.proofs.lemmas.Map.Entries.{lookup-filter-keys}
use Rattle.std.specs.List.{filter}
use Rattle.std.specs.Prelude.{None, nat_eq, nat_le, if◌then◌else◌}
use Rattle.historical_bitmap.specs.History.{from_number, kept_under, up_to_number}

-- after a filter by number, the accepted numbers keep their states, and the others have none
pub kept_where : {X : Type 0} (p : ℕ → Bool) (m : ℕ) (es : List (ℕ × X)) → kept_under (filter (λ e. p e.0) es) m ≡ (if p m then kept_under es m else None)
kept_where p m es = lookup-filter-keys (nat_eq m) p (p m) (λ k same. ap p (sym (eqb-true m k same))) es

pub kept_from_number : {X : Type 0} (number m : ℕ) (es : List (ℕ × X)) → kept_under (from_number number es) m ≡ (if nat_le number m then kept_under es m else None)
kept_from_number number m es = kept_where (nat_le number) m es

pub kept_up_to_number : {X : Type 0} (number m : ℕ) (es : List (ℕ × X)) → kept_under (up_to_number number es) m ≡ (if nat_le m number then kept_under es m else None)
kept_up_to_number number m es = kept_where (λ k. nat_le k number) m es

-- among the commits up to a number, the number itself has its state
pub kept_itself : {X : Type 0} (number : ℕ) (es : List (ℕ × X)) → kept_under (up_to_number number es) number ≡ kept_under es number
kept_itself number es = kept_up_to_number number number es ∙ rw (le-leb number number (omega arith)) refl
