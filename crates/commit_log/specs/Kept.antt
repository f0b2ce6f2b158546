-- What the entries of a log do to a bitmap and its kept states. A chunk has n bytes.
use Rattle.std.specs.Prelude.{ℕ, ◌*◌, ◌/◌, List, [], ◌∷◌, ◌++◌, Option, Some, nat_eq}
use Rattle.std.specs.Map.{lookup}
use Rattle.std.specs.Option.{unwrap_or}
use Rattle.bitmap_core.specs.PrunedBits.{PrunedBits, bit_len, from_bits}
use Rattle.historical_bitmap.specs.Changes.{changed, listed}
use Rattle.historical_bitmap.specs.History.{kept_under, from_number, up_to_number}
use Rattle.historical_bitmap.specs.Record.{bit_or_else}
use Rattle.historical_bitmap.specs.Pending.{PendingEdits}
use Rattle.historical_bitmap.specs.View.{View, history_of, pending_of}
use Rattle.commit_log.specs.Entries.{Change, Entry}
use Rattle.commit_log.specs.Entries.Entry.{Commit, Rewind, DropBefore, Clear}

-- the change that leads from a bitmap to another, under a number: it lists the chunks that differ
abbrev pub change_to : ℕ → ℕ → PrunedBits → PrunedBits → Change
change_to n number old new =
    record {
      number = number;
      len = bit_len n new;
      pruned = new.pruned;
      chunks = listed n new (changed n old new);
    }

-- a bitmap after a change: the bits of the listed chunks, and the other bits as they were
abbrev pub applied : ℕ → PrunedBits → Change → PrunedBits
applied n old c =
    from_bits n c.pruned c.len (λ k. bit_or_else n (lookup (nat_eq (k / (8 * n))) c.chunks) old k)

-- a bitmap with its kept states by number, and its last number
pub record Kept : Type 0 where
  pub current : PrunedBits
  pub history : List (ℕ × PrunedBits)
  pub last : Option ℕ

-- a historical bitmap without its reverse records
abbrev pub kept_of : {S : Type 0} → ℕ → View S → Kept
kept_of n v = record { current = v.current; history = history_of n v; last = v.last }

-- what an entry makes of it
abbrev pub after : ℕ → Kept → Entry → Kept
after n s (Commit c) =
    record {
      current = applied n s.current c;
      history = s.history ++ (c.number, applied n s.current c) ∷ [];
      last = Some c.number;
    }
after n s (Rewind number) =
    record {
      current = unwrap_or (kept_under s.history number) s.current;
      history = up_to_number number s.history;
      last = Some number;
    }
after n s (DropBefore number) =
    record { current = s.current; history = from_number number s.history; last = s.last }
after n s Clear = record { current = s.current; history = []; last = s.last }

-- the entry of a commit of a batch under a number
abbrev pub entry_of_commit : ℕ → View PendingEdits → ℕ → Entry
entry_of_commit n batch number = Commit (change_to n number batch.current (pending_of n batch))

-- the entry of the commit that makes a state of another: that of the change from the bitmap of the first to that of the second, under the last number of the second
abbrev pub entry_to : ℕ → Kept → Kept → Entry
entry_to n s t = Commit (change_to n (unwrap_or t.last 0) s.current t.current)

-- what entries make of it, the first of them first
abbrev pub after_all : ℕ → Kept → List Entry → Kept
after_all n s [] = s
after_all n s (e ∷ es) = after_all n (after n s e) es
