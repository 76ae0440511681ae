-- Case analysis: on a test, and on two numbers.
use Prim.Native.Nat.{ℕ, ◌+◌, ◌-◌, ◌≤◌, ◌<◌}
use mathlib.Core.Bool.{Bool, true, false, not, ◌&&◌, ◌||◌}
use mathlib.Core.Logic.{◌⊎◌, inl, inr}
use mathlib.Core.Path.{◌≡◌, refl, sym, ◌∙◌}
use native.Mathlib.Omega.{arith}
use lib.Dec.{ltb, leb, eqb}
use Rattle.std.specs.Prelude.{Option, None, Some}
use borrow.Author.Tests.{lt-ltb, le-ltb, le-leb, lt-leb, ltb-true, ltb-false, eqb-true, eqb-false}

module _ {P : Type 0} where
  pub cases : (b : Bool) → (b ≡ true → P) → (b ≡ false → P) → P
  cases true f g = f refl
  cases false f g = g refl

  pub by_lt : (m n : ℕ) → (m < n → P) → (n ≤ m → P) → P
  by_lt m n f g = cases (ltb m n) (λ e. f (ltb-true m n e)) (λ e. g (ltb-false m n e))

  pub by_eq : (m n : ℕ) → (m ≡ n → P) → ((m ≡ n → ⊥) → P) → P
  by_eq m n f g = cases (eqb m n) (λ e. f (eqb-true m n e)) (λ e. g (eqb-false m n e))

  pub by_order : (m n : ℕ) → (m < n → P) → (m ≡ n → P) → (n < m → P) → P
  by_order m n f g h = by_lt m n f (λ l. by_eq m n g (λ e. h (omega arith)))

  -- a test is not both
  pub clash : {b : Bool} → b ≡ true → b ≡ false → P
  clash t f = let z : true ≡ false = sym t ∙ f in let e : ◌≡◌ {A = ℕ} 0 1 = cc in absurd (omega arith)

-- on an option
module _ {A : Type 0} where
  pub by_answer : {P : Type 0} (o : Option A) → ((a : A) → o ≡ Some a → P) → (o ≡ None → P) → P
  by_answer None f g = g refl
  by_answer (Some a) f g = f a refl

  pub none_some : {a : A} → None ≡ Some a → ⊥
  none_some e = let z : ◌≡◌ {A = ℕ} 0 1 = cc in omega arith

  pub same_some : {a b : A} → Some a ≡ Some b → a ≡ b
  same_some e = cc

-- two tests that hold together are the same, and one that cannot hold is false
pub both_ways : (a b : Bool) → (a ≡ true → b ≡ true) → (b ≡ true → a ≡ true) → a ≡ b
both_ways true b f g = sym (f refl)
both_ways false true f g = g refl
both_ways false false f g = refl

pub never : (b : Bool) → (b ≡ true → ⊥) → b ≡ false
never true n = absurd (n refl)
never false n = refl

pub or-true : (a b : Bool) → (a || b) ≡ true → (a ≡ true) ⊎ (b ≡ true)
or-true true b e = inl refl
or-true false b e = inr e

pub or-false : (a b : Bool) → (a || b) ≡ false → (a ≡ false) × (b ≡ false)
or-false true b e = clash {b = true} refl e
or-false false b e = (refl, e)

pub and-true : (a b : Bool) → (a && b) ≡ true → (a ≡ true) × (b ≡ true)
and-true true b e = (refl, e)
and-true false b e = clash {b = false} e refl

-- not above is at most
pub not_above : (m n : ℕ) → not (ltb n m) ≡ leb m n
not_above m n = by_lt n m (λ h. rw (lt-ltb n m h, lt-leb m n h)) (λ h. rw (le-ltb n m h, le-leb m n h))

-- what is left of d is compared with b
pub left_over : (d m b : ℕ) → m ≤ d → ltb (d - m) b ≡ ltb d (m + b)
left_over d m b h =
    by_lt d (m + b) (λ l. lt-ltb (d - m) b (omega arith) ∙ sym (lt-ltb d (m + b) l))
    (λ l. le-ltb (d - m) b (omega arith) ∙ sym (le-ltb d (m + b) l))

-- a test turned round
pub true_not : {b : Bool} → true ≡ not b → b ≡ false
true_not {b = b} e = cases b (λ t. let f : true ≡ false = simp t at e in t ∙ f) (λ f. f)

pub false_not : {b : Bool} → false ≡ not b → b ≡ true
false_not {b = b} e = cases b (λ t. t) (λ f. let t : false ≡ true = simp f at e in f ∙ t)
