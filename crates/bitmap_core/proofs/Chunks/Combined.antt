-- Runs of chunks, combined one after another.
use Rattle.std.proofs.Common.{◌≡◌, ℕ, ◌+◌, ◌-◌, ◌<◌, ◌≤◌, Bool, List, [], length, get_or, take, drop, sym, ap, ◌∙◌, inl, inr, arith}
use Rattle.std.proofs.lemmas.Bool.{cases_lt}
use Rattle.std.proofs.lemmas.List.{get_or-take, get_or-drop, length-take, length-drop}
use Rattle.bitmap_bytes.specs.Chunk.{chunk_bit}

-- if the chunks before `from` and those of a run from `from` on are combined, all chunks up to the run's end are
pub combined_run : (n : ℕ) (f : Bool → Bool → Bool) (first old others run new : List (List ℕ)) (from : ℕ)
    → ((k : ℕ) → k < from → (t : ℕ) → chunk_bit n (get_or old k []) t ≡ f (chunk_bit n (get_or first k []) t) (chunk_bit n (get_or others k []) t))
    → ((k : ℕ) → from ≤ k → get_or old k [] ≡ get_or first k [])
    → ((k : ℕ) → k < length run → get_or run k [] ≡ get_or others (from + k) [])
    → ((k : ℕ) → k < length run → (t : ℕ) → chunk_bit n (get_or new (from + k) []) t ≡ f (chunk_bit n (get_or old (from + k) []) t) (chunk_bit n (get_or run k []) t))
    → ((k : ℕ) → k < from → get_or new k [] ≡ get_or old k [])
    → (k : ℕ) → k < from + length run → (t : ℕ) → chunk_bit n (get_or new k []) t ≡ f (chunk_bit n (get_or first k []) t) (chunk_bit n (get_or others k []) t)
combined_run n f first old others run new from done rest own bits below k h t = elim (cases_lt k from) [
  | inl s ↦ ap (λ c. chunk_bit n c t) (below k s) ∙ done k s t
  | inr s ↦
      let e : k ≡ from + (k - from) = omega arith in
      ap (λ x. chunk_bit n (get_or new x []) t) e ∙ bits (k - from) (omega arith) t
      ∙ ap (λ c. f (chunk_bit n c t) (chunk_bit n (get_or run (k - from) []) t)) (rest (from + (k - from)) (omega arith) ∙ ap (λ x. get_or first x []) (sym e))
      ∙ ap (λ c. f (chunk_bit n (get_or first k []) t) (chunk_bit n c t)) (own (k - from) (omega arith) ∙ ap (λ x. get_or others x []) (sym e))
]

-- a run of other operands
pub run_of : (others run : List (List ℕ)) (from m : ℕ) → run ≡ take m (drop from others) → (k : ℕ) → k < length run → get_or run k [] ≡ get_or others (from + k) []
run_of others run from m e k h =
    ap (λ x. get_or x k []) e ∙ get_or-take m (drop from others) k [] (omega (arith, ap length e, length-take {A = List ℕ} m (drop from others))) ∙ get_or-drop from others k []

pub run_length : (others run : List (List ℕ)) (from m : ℕ) → run ≡ take m (drop from others) → from + m ≤ length others → length run ≡ m
run_length others run from m e h = omega (arith, ap length e, length-take {A = List ℕ} m (drop from others), length-drop {A = List ℕ} from others)
