-- The contents that a device has had, each with the bytes that were kept, if not all were.
use Rattle.std.specs.Prelude.{◌≡◌, ◌⊎◌, ℕ, List, [], ◌∷◌, length, drop, Option, Some, None, Vec}
use mathlib.Core.Logic.{inl, inr}
use Rattle.std.specs.declared.alloc.Global.{Global}
use Rattle.log_store.specs.Device.{MayTear}

-- the bytes that were kept before a change, if there is one that is not synced
abbrev pub kept_before : Option (Vec ℕ Global) → Option (List ℕ)
kept_before None = None
kept_before (Some bytes) = Some bytes.items

-- what a crash may leave of bytes, of which these were kept before a change
abbrev pub MayLeave : Option (List ℕ) → List ℕ → List ℕ → Type 0
MayLeave None bytes c = c ≡ bytes
MayLeave (Some before) bytes c = MayTear before bytes c

-- one of some past contents could leave this
abbrev pub HadBeen : List (Vec ℕ Global × Option (Vec ℕ Global)) → List ℕ → Type 0
HadBeen [] c = ⊥
HadBeen (p ∷ past) c = MayLeave (kept_before p.1) p.0.items c ⊎ HadBeen past c

-- what a crash since t might have left
abbrev pub Since : List (Vec ℕ Global × Option (Vec ℕ Global)) → Option (Vec ℕ Global) → List ℕ → ℕ
    → List ℕ → Type 0
Since past before bytes t c = MayLeave (kept_before before) bytes c ⊎ HadBeen (drop t past) c

-- after the last of some past contents there is none
none_left : (past : List (Vec ℕ Global × Option (Vec ℕ Global))) (c : List ℕ)
    → HadBeen (drop (length past) past) c → ⊥
none_left [] c had = had
none_left (v ∷ past) c had = none_left past c had

-- after the last of some past contents there is the present one alone
pub only_left : (past : List (Vec ℕ Global × Option (Vec ℕ Global)))
    (before : Option (Vec ℕ Global)) (bytes c : List ℕ) → Since past before bytes (length past) c
    → MayLeave (kept_before before) bytes c
only_left past before bytes c (inl now) = now
only_left past before bytes c (inr had) = absurd (none_left past c had)
