-- The elements of a list that pass a test.
use Prim.Native.Nat.{ℕ, zero, suc, ◌≤◌, ◌<◌}
use mathlib.Core.Bool.{Bool, true, false, ◌&&◌, ◌||◌, or-true}
use mathlib.Core.List.{List, [], ◌∷◌, ◌++◌}
use mathlib.Core.Logic.{inl, inr}
use mathlib.Core.Path.{◌≡◌, refl, ap}
use native.Mathlib.Omega.{arith}
use lib.Dec.{ltb}
use lib.ListN.{length, get_or, length-append}
use borrow.Author.Tests.{lt-ltb}
use Rattle.numbers.specs.Lists.{Any, any, keep}
use Rattle.numbers.proofs.Cases.{cases}

module _ {A : Type 0} (f : A → Bool) where
  pub keep_append : (xs ys : List A) → keep f (xs ++ ys) ≡ keep f xs ++ keep f ys
  unfolding keep
  keep_append [] ys = refl
  keep_append (x ∷ xs) ys = cases (f x) (λ e. simp (e, keep_append xs ys)) (λ e. simp (e, keep_append xs ys))

  pub any_keep : (g : A → Bool) (l : List A) → any g (keep f l) ≡ any (λ (x : A). f x && g x) l
  unfolding any keep
  any_keep g [] = refl
  any_keep g (x ∷ xs) = cases (f x) (λ e. simp (e, any_keep g xs)) (λ e. simp (e, any_keep g xs))

  pub any_kept : (l : List A) → ltb 0 (length (keep f l)) ≡ any f l
  unfolding any keep
  any_kept [] = refl
  any_kept (x ∷ xs) = cases (f x) (λ e. simp e (lt-ltb 0 (suc (length (keep f xs))) (omega arith))) (λ e. simp (e, any_kept xs))

  -- an element may as well stand in front
  pub any_middle : (xs : List A) (y : A) (ys : List A) → any f (xs ++ (y ∷ ys)) ≡ (f y || any f (xs ++ ys))
  unfolding any
  any_middle [] y ys = refl
  any_middle (x ∷ xs) y ys = cases (f x) (λ e. simp (e, or-true)) (λ e. simp (e, any_middle xs y ys))

  pub keep_middle : (xs : List A) (y : A) (ys : List A) → length (keep f (xs ++ (y ∷ ys))) ≡ length (keep f (y ∷ (xs ++ ys)))
  unfolding keep
  keep_middle xs y ys =
      cases (f y) (λ e. simp (keep_append, e, length-append) (omega arith)) (λ e. simp (keep_append, e, length-append))

-- ---- how many they are

module _ {A : Type 0} (f g : A → Bool) (imp : (x : A) → f x ≡ true → g x ≡ true) where
  pub keep_most : (l : List A) → length (keep f l) ≤ length (keep g l)
  unfolding keep
  keep_most [] = omega arith
  keep_most (x ∷ xs) =
      let h = keep_most xs in
      cases (f x) (λ e. simp (e, imp x e) (omega arith))
      (λ e. cases (g x) (λ d. simp (e, d) (omega arith)) (λ d. simp (e, d) h))

  pub keep_less : (l : List A) → Any (λ (x : A). (f x ≡ false) × (g x ≡ true)) l → length (keep f l) < length (keep g l)
  unfolding keep
  keep_less [] a = absurd a
  keep_less (x ∷ xs) (inl p) = let h = keep_most xs in simp (p.0, p.1) (omega arith)
  keep_less (x ∷ xs) (inr a) =
      let h = keep_less xs a in
      cases (f x) (λ e. simp (e, imp x e) (omega arith))
      (λ e. cases (g x) (λ d. simp (e, d) (omega arith)) (λ d. simp (e, d) h))

pub keep_all : {A : Type 0} (l : List A) → keep (λ (x : A). true) l ≡ l
unfolding keep
keep_all [] = refl
keep_all (x ∷ xs) = ap (λ (t : List _). x ∷ t) (keep_all xs)

-- a list whose first r elements pass a test and whose others do not has r that pass
pub keep_front : {A : Type 0} (f : A → Bool) (l : List A) (d : A) (r : ℕ) → r ≤ length l
    → ((s : ℕ) → s < r → f (get_or l s d) ≡ true)
    → ((s : ℕ) → r ≤ s → s < length l → f (get_or l s d) ≡ false)
    → length (keep f l) ≡ r
unfolding keep
keep_front f [] d r h a b = omega arith
keep_front f (x ∷ xs) d zero h a b =
    simp (b 0 (omega arith) (omega arith)) (keep_front f xs d 0 (omega arith) (λ s i. absurd (omega arith)) (λ s i j. b (suc s) (omega arith) (omega arith)))
keep_front f (x ∷ xs) d (suc r) h a b =
    simp (a 0 (omega arith)) (ap suc (keep_front f xs d r (omega arith) (λ s i. a (suc s) (omega arith)) (λ s i j. b (suc s) (omega arith) (omega arith))))
