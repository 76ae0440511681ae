-- Parts of a list, and two lists compared.
use Prim.Native.Nat.{ℕ}
use mathlib.Core.Bool.{Bool, false, ◌&&◌}
use mathlib.Core.List.{List, [], ◌∷◌, map}
use mathlib.Core.Path.{◌≡◌, refl, ap, sym, ◌∙◌}
use native.Mathlib.Omega.{arith}
use lib.Dec.{eqb}
use lib.Pointwise.{pointwise}
use lib.ListN.{length, length-map}
use Rattle.std.specs.List.{list_all, zip}
use Rattle.numbers.specs.Lists.{same}
use Rattle.numbers.proofs.Cases.{never}
use Rattle.numbers.proofs.Lists.{same_true}

-- ---- two lists compared

-- lists that are as long are the same where all their pairs are
module _ {A : Type 0} (f : A → ℕ) where
  pub pairs_same : (xs : List A) (ys : List ℕ) → length xs ≡ length ys → list_all (λ p. eqb (f p.0) p.1) (zip xs ys) ≡ same (map f xs) ys
  unfolding same
  pairs_same [] [] e = refl
  pairs_same [] (y ∷ ys) e = absurd (omega arith)
  pairs_same (x ∷ xs) [] e = absurd (omega arith)
  pairs_same (x ∷ xs) (y ∷ ys) e = ap (λ (b : Bool). eqb (f x) y && b) (pairs_same xs ys (omega arith))

  pub long_same : (xs : List A) (ys : List ℕ) → (length xs ≡ length ys → ⊥) → false ≡ same (map f xs) ys
  long_same xs ys d = sym (never (same (map f xs) ys) (λ t. d (sym (length-map xs f) ∙ ap length (same_true (map f xs) ys t))))
