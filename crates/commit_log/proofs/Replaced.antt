-- The digest of the bytes that a list of chunks replaces, hashed chunk by chunk.
use Rattle.std.proofs.Common.{◌≡◌, ℕ, List, [], ◌∷◌, ◌++◌, Option, Some, refl, sym, ap, ◌∙◌}
use Rattle.std.specs.Hash.DefaultHasher as sip
use Rattle.std.specs.Option.{unwrap_or}
use Rattle.std.specs.declared.hash.DefaultHasher.{DefaultHasher}
use Rattle.std.proofs.lemmas.List.Concat.{flat_map-cons}
use Rattle.std.proofs.lemmas.List.Sums.{fold-append}
use Rattle.bitmap_core.specs.PrunedBits.{PrunedBits}
use Rattle.historical_bitmap.specs.Changes.{retained_bytes}
use Rattle.log_frames.specs.Digest.{digest}
use Rattle.commit_log.specs.Delta.{replaced}

write-append : (h : DefaultHasher) (a b : List ℕ) → sip.write h (a ++ b) ≡ sip.write (sip.write h a) b
unfolding sip.write
write-append h a b = fold-append sip.write_byte h a b

pub write-none : (h : DefaultHasher) → sip.write h [] ≡ h
unfolding sip.write
write-none h = refl

-- the first chunk is hashed, and then the others are
module _ (n : ℕ) (old : PrunedBits) (h : DefaultHasher) (index : ℕ) (bytes : List ℕ) (rest after : List (ℕ × List ℕ)) (first : rest ≡ (index, bytes) ∷ after) where
  hashed_first : (here : List ℕ) → unwrap_or (retained_bytes n old index) [] ≡ here → sip.write h (replaced n old rest) ≡ sip.write (sip.write h here) (replaced n old after)
  hashed_first here is =
      ap (λ (x : List (ℕ × List ℕ)). sip.write h (replaced n old x)) first
      ∙ ap (sip.write h) (flat_map-cons (λ (e : ℕ × List ℕ). unwrap_or (retained_bytes n old e.0) []) (index, bytes) after)
      ∙ write-append h (unwrap_or (retained_bytes n old index) []) (replaced n old after)
      ∙ ap (λ (x : List ℕ). sip.write (sip.write h x) (replaced n old after)) is

  pub hashed_some : (found : List ℕ) (next : DefaultHasher) → Some found ≡ retained_bytes n old index → next ≡ sip.write h found → sip.write h (replaced n old rest) ≡ sip.write next (replaced n old after)
  hashed_some found next is made =
      hashed_first found (ap (λ (o : Option (List ℕ)). unwrap_or o []) (sym is)) ∙ ap (λ (s : DefaultHasher). sip.write s (replaced n old after)) (sym made)

pub hashed_all : (n : ℕ) (old : PrunedBits) (h : DefaultHasher) (rest all : List (ℕ × List ℕ)) (value : ℕ) → rest ≡ [] → value ≡ sip.finish h → sip.write h (replaced n old rest) ≡ sip.write sip.initial (replaced n old all)
    → value ≡ digest (replaced n old all)
unfolding digest
hashed_all n old h rest all value none is same =
    let end : sip.write h (replaced n old rest) ≡ h = ap (λ (x : List (ℕ × List ℕ)). sip.write h (replaced n old x)) none ∙ write-none h in
    is ∙ ap sip.finish (sym end ∙ same)
