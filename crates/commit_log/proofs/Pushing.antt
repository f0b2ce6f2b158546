-- The entry of a commit, appended in parts.
use Rattle.std.proofs.Common.{◌≡◌, ℕ, List, [], ◌∷◌, ◌++◌, sym, ap, ◌∙◌, append_assoc, Some}
use Rattle.std.proofs.lemmas.Option.{same_Some}
use Rattle.bitmap_core.specs.PrunedBits.{PrunedBits, bit_len}
use Rattle.historical_bitmap.specs.Changes.{changed, changed_between, listed}
use Rattle.historical_bitmap.specs.History.{kept_under}
use Rattle.historical_bitmap.proofs.Changes.Patched.{changed_is}
use Rattle.commit_log.specs.Entries.{encode_change, encode_entry}
use Rattle.commit_log.specs.Entries.Entry.{Commit}
use Rattle.commit_log.specs.Kept.{change_to}

-- the tag of a commit, and the change between two kept states
pub commit_pushed : (n : ℕ) (history : List (ℕ × PrunedBits)) (from to : ℕ) (old new newer : PrunedBits) (changes start tagged end : List ℕ) → Some newer ≡ kept_under history to → Some changes ≡ changed_between n history from to
    → kept_under history from ≡ Some old → kept_under history to ≡ Some new → tagged ≡ start ++ 1 ∷ []
    → end ≡ tagged ++ encode_change (record { number = to; len = bit_len n newer; pruned = newer.pruned; chunks = listed n newer changes }) → end ≡ start ++ encode_entry (Commit (change_to n to old new))
unfolding encode_entry
commit_pushed n history from to old new newer changes start tagged end there between older now e f =
    let is : newer ≡ new = same_Some newer new (there ∙ now) in
    let all : changes ≡ changed n old new = changed_is n history from to old new changes between (sym older) (sym now) in
    f
    ∙ ap (λ (xs : List ℕ). xs ++ encode_change (record { number = to; len = bit_len n newer; pruned = newer.pruned; chunks = listed n newer changes })) e
    ∙ append_assoc start (1 ∷ []) (encode_change (record { number = to; len = bit_len n newer; pruned = newer.pruned; chunks = listed n newer changes }))
    ∙ (λ i. start ++ 1 ∷ encode_change (record { number = to; len = bit_len n (is i); pruned = (is i).pruned; chunks = listed n (is i) (all i) }))
