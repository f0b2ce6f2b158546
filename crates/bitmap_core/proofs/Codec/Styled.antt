-- Strings written one after another to a formatter, for any of its options.
use Rattle.std.proofs.Common.{◌≡◌, ℕ, List, [], ◌∷◌, ◌++◌, ◌∙◌, sym, subst}
use Rattle.std.specs.List.{FoldsTo}
use Rattle.std.specs.Fmt.{HasWrittenStyled}
use Rattle.std.specs.declared.fmt.Formatter.{Formatter}
use Rattle.std.proofs.lemmas.List.Folds.{concat-append}

module _ {W : Type 0} (took : W → List ℕ → W → Type 0) where
  -- a sequence of calls followed by another sequence
  calls_append : (w : W) (xs : List (List ℕ)) (v : W) (ys : List (List ℕ)) (u : W) → FoldsTo took w xs v → FoldsTo took v ys u
      → FoldsTo took w (xs ++ ys) u
  calls_append w [] v ys u p q = subst (λ (x : W). FoldsTo took x ys u) (sym p) q
  calls_append w (x ∷ xs) v ys u p q = (p.0, p.1, calls_append p.0 xs v ys u p.2 q)

  -- two strings, one after the other
  pub styled_two : (f g h : Formatter W) (a b all : List ℕ) → HasWrittenStyled took f a g → HasWrittenStyled took g b h
      → a ++ b ≡ all
      → HasWrittenStyled took f all h
  styled_two f g h a b all p q e = record {
    wrote = record {
      parts = p.wrote.parts ++ q.wrote.parts;
      calls = calls_append _ p.wrote.parts _ q.wrote.parts _ p.wrote.calls q.wrote.calls;
      whole = concat-append p.wrote.parts q.wrote.parts ∙ (λ i. p.wrote.whole i ++ q.wrote.whole i) ∙ e;
    };
    spec = q.spec ∙ p.spec;
    flush = q.flush;
  }
