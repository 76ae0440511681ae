-- Some element of a list and another one: by places, as a walk forward and one back, and over lists made of others.
use Prim.Native.Nat.{ℕ, zero, suc, ◌<◌}
use mathlib.Core.Bool.{Bool, true, false, ◌||◌, or-true as or_right, or-false, or_assoc, or_comm}
use mathlib.Core.List.{List, [], ◌∷◌, ◌++◌, map, reverse, reverse-cons}
use mathlib.Core.Logic.{⊎_elim}
use mathlib.Core.Path.{◌≡◌, refl, ap, sym, ◌∙◌}
use native.Mathlib.Nat.{le_of_suc-le-suc, not-suc-le-zero}
use native.Mathlib.Omega.{arith}
use lib.ListN.{length, get_or}
use Rattle.numbers.specs.Lists.{All, any}
use Rattle.numbers.specs.Order.{precedes}
use Rattle.numbers.specs.Range.{Range}
use Rattle.settle.specs.Settle.{any_other}
use Rattle.settle.specs.Sweeping.{behind}
use Rattle.sort.specs.Sort.{insert, sorted}
use Rattle.numbers.proofs.Cases.{cases, clash, or-true}
use Rattle.numbers.proofs.Lists.{all_at, any_at, any_of, all_imp, any_true, of_any, of_none, any_append, any_map, any_same, or_swap, or_exchange}
use Rattle.sort.proofs.Laws.{test_insert, test_sorted}

-- ---- another, by places

-- two places of a list, with f of what stands there
pub record TwoPlaces {A : Type 0} (f : A → A → Bool) (l : List A) (d : A) : Type 0 where
  pub left : ℕ
  pub right : ℕ
  pub inside : left < length l
  pub inside' : right < length l
  pub apart : left ≡ right → ⊥
  pub holds : f (get_or l left d) (get_or l right d) ≡ true

module _ {A : Type 0} (f : A → A → Bool) where
  pub other_places : (l : List A) (d : A) → any_other f l ≡ true → TwoPlaces f l d
  unfolding any_other
  other_places [] d e = clash {b = false} e refl
  other_places (x ∷ xs) d e =
      ⊎_elim
      (λ u. ⊎_elim
      (λ v. let m = any_at (λ (y : A). f x y ≡ true) xs d (any_true (f x) xs v) in
      record { left = 0; right = suc m.0; inside = omega arith; inside' = omega (arith, m.1); apart = λ z. omega arith; holds = m.2 })
      (λ v. let m = any_at (λ (y : A). f y x ≡ true) xs d (any_true (λ (y : A). f y x) xs v) in
      record { left = suc m.0; right = 0; inside = omega (arith, m.1); inside' = omega arith; apart = λ z. omega arith; holds = m.2 })
      (or-true (any (f x) xs) (any (λ (y : A). f y x) xs) u))
      (λ u. let p = other_places xs d u in
      record {
        left = suc p.left;
        right = suc p.right;
        inside = omega (arith, p.inside);
        inside' = omega (arith, p.inside');
        apart = λ z. p.apart (omega arith);
        holds = p.holds;
      })
      (or-true (any (f x) xs || any (λ (y : A). f y x) xs) (any_other f xs) e)

  other_at : (l : List A) (d : A) (i j : ℕ) → i < length l → j < length l → (i ≡ j → ⊥) → f (get_or l i d) (get_or l j d) ≡ true → any_other f l ≡ true
  unfolding any_other
  other_at [] d i j a b n e = absurd (not-suc-le-zero a)
  other_at (x ∷ xs) d zero zero a b n e = absurd (n refl)
  other_at (x ∷ xs) d zero (suc j) a b n e =
      simp (of_any (f x) xs (any_of (λ (y : A). f x y ≡ true) xs j d (le_of_suc-le-suc b) e))
  other_at (x ∷ xs) d (suc i) zero a b n e =
      simp (of_any (λ (y : A). f y x) xs (any_of (λ (y : A). f y x ≡ true) xs i d (le_of_suc-le-suc a) e), or_right)
  other_at (x ∷ xs) d (suc i) (suc j) a b n e =
      simp (other_at xs d i j (le_of_suc-le-suc a) (le_of_suc-le-suc b) (λ z. n (ap suc z)) e, or_right)

  -- where f holds of no two elements
  pub other_none : (P : A → Type 0) → ((x y : A) → P x → P y → f x y ≡ false) → (l : List A) (d : A) → All P l → any_other f l ≡ false
  other_none P n l d a =
      cases (any_other f l)
      (λ e. let p = other_places l d e in
      clash p.holds (n (get_or l p.left d) (get_or l p.right d) (all_at P l p.left d a p.inside) (all_at P l p.right d a p.inside')))
      (λ e. e)

  pub places_other : (l : List A) (d : A) → TwoPlaces f l d → any_other f l ≡ true
  places_other l d p = other_at l d p.left p.right p.inside p.inside' p.apart p.holds

-- ---- one in front

module _ {A : Type 0} where
  pub any_last : (g : A → Bool) (l : List A) (y : A) → any g (l ++ (y ∷ [])) ≡ (any g l || g y)
  unfolding any
  any_last g l y = any_append g l (y ∷ []) ∙ rw or-false

  any_reverse : (g : A → Bool) (l : List A) → any g (reverse l) ≡ any g l
  unfolding any
  any_reverse g [] = refl
  any_reverse g (x ∷ l) = ap (any g) (reverse-cons x l) ∙ any_last g (reverse l) x ∙ rw (any_reverse g l) (or_comm (any g l) (g x))

  -- one more at the end
  pub behind_last : (f : A → A → Bool) (l : List A) (y : A) → behind f (l ++ (y ∷ [])) ≡ (behind f l || any (f y) l)
  unfolding any behind
  behind_last f [] y = refl
  behind_last f (x ∷ l) y =
      rw (any_last (λ (z : A). f z x) l y, behind_last f l y) (or_exchange (any (λ (z : A). f z x) l) (f y x) (behind f l) (any (f y) l))

  -- backwards, the one in front is the one behind
  pub behind_reverse : (f : A → A → Bool) (l : List A) → behind f (reverse l) ≡ behind (λ (y x : A). f x y) l
  unfolding behind
  behind_reverse f [] = refl
  behind_reverse f (x ∷ l) =
      ap (behind f) (reverse-cons x l) ∙ behind_last f (reverse l) x
      ∙ rw (behind_reverse f l, any_reverse (f x) l) (or_comm (behind (λ (y x : A). f x y) l) (any (f x) l))

  pub behind_map : {B : Type 0} (f : B → B → Bool) (h : A → B) (l : List A) → behind f (map h l) ≡ behind (λ (y x : A). f (h y) (h x)) l
  unfolding behind
  behind_map f h [] = refl
  behind_map f h (x ∷ l) = rw (any_map (λ (y : _). f y (h x)) h l, behind_map f h l)

  -- R holds of each element and each one behind it
  abbrev pub InTurn : (A → A → Type 0) → List A → Type 0
  InTurn R [] = Unit {0}
  InTurn R (x ∷ xs) = All (R x) xs × InTurn R xs

  module _ (f g : A → A → Bool) where
    -- tests that agree on each element and each one in front of it
    pub behind_turn : (R : A → A → Type 0) → ((x y : A) → R x y → f y x ≡ g y x) → (l : List A) → InTurn R l → behind f l ≡ behind g l
    unfolding behind
    behind_turn R e [] a = refl
    behind_turn R e (x ∷ xs) a = rw (any_same (λ (y : A). f y x) (R x) (λ (y : A). g y x) (e x) xs a.0, behind_turn R e xs a.1)

    module _ (P : A → Type 0) (e : (x y : A) → P x → P y → f x y ≡ g x y) where
      pub other_same : (l : List A) → All P l → any_other f l ≡ any_other g l
      unfolding any_other
      other_same [] a = refl
      other_same (x ∷ xs) a =
          rw (
            any_same (f x) P (g x) (λ y p. e x y a.0 p) xs a.1,
            any_same (λ (y : A). f y x) P (λ (y : A). g y x) (λ y p. e y x p a.0) xs a.1,
            other_same xs a.1,
          )

  -- ---- another

  -- the other one stands in front or behind
  pub other_behind : (f : A → A → Bool) (l : List A) → any_other f l ≡ (behind f l || behind (λ (y x : A). f x y) l)
  unfolding any_other behind
  other_behind f [] = refl
  other_behind f (x ∷ l) =
      rw (other_behind f l, or_comm (any (f x) l) (any (λ (y : A). f y x) l))
      (or_exchange (any (λ (y : A). f y x) l) (any (f x) l) (behind f l) (behind (λ (y x : A). f x y) l))

  pub other_map : {B : Type 0} (f : B → B → Bool) (h : A → B) (l : List A) → any_other f (map h l) ≡ any_other (λ (x y : A). f (h x) (h y)) l
  unfolding any_other
  other_map f h [] = refl
  other_map f h (x ∷ l) = rw (any_map (f (h x)) h l, any_map (λ (y : _). f y (h x)) h l, other_map f h l)

  -- some element of a and some element of b
  abbrev pub across : (A → A → Bool) → List A → List A → Bool
  across f a b = any (λ (x : A). any (f x) b) a

  pub across_none : (P Q : A → Type 0) (f : A → A → Bool) → ((x y : A) → P x → Q y → f x y ≡ false) → (a b : List A) → All P a → All Q b → across f a b ≡ false
  across_none P Q f n a b p q =
      of_none (λ (x : A). any (f x) b) a
      (all_imp P (λ (x : A). any (f x) b ≡ false) (λ x i. of_none (f x) b (all_imp Q (λ (y : A). f x y ≡ false) (λ y j. n x y i j) b q)) a p)

  pub other_append : (f : A → A → Bool) (a b : List A)
      → any_other f (a ++ b) ≡ ((any_other f a || any_other f b) || (across f a b || across (λ (x y : A). f y x) a b))
  unfolding any any_other
  other_append f [] b = sym (or-false (any_other f b))
  other_append f (x ∷ a) b =
      rw (any_append (f x) a b, any_append (λ (y : A). f y x) a b, other_append f a b)
      (shuffle (any (f x) a) (any (f x) b) (any (λ (y : A). f y x) a) (any (λ (y : A). f y x) b)
      (any_other f a) (any_other f b) (across f a b) (across (λ (x y : A). f y x) a b))
    where
      shuffle : (p q r s t u v w : Bool) → (((p || q) || (r || s)) || ((t || u) || (v || w))) ≡ ((((p || r) || t) || u) || ((q || v) || (s || w)))
      shuffle p q r s t u v w = simp (or_assoc, or_swap)

-- ---- sorted

module _ (f : Range → Range → Bool) where
  other_insert : (x : Range) (l : List Range) → any_other f (insert x l) ≡ any_other f (x ∷ l)
  unfolding any any_other insert
  other_insert x [] = refl
  other_insert x (y ∷ ys) =
      cases (precedes x y) (λ e. simp e)
      (λ e. simp (e, test_insert (f y) x ys, test_insert (λ (z : Range). f z y) x ys, other_insert x ys)
      (shuffle (f y x) (any (f y) ys) (f x y) (any (λ (z : Range). f z y) ys) (any (f x) ys) (any (λ (z : Range). f z x) ys) (any_other f ys)))
    where
      shuffle : (p q r s t u v : Bool) → (((p || q) || (r || s)) || ((t || u) || v)) ≡ (((r || t) || (p || u)) || ((q || s) || v))
      shuffle p q r s t u v = simp (or_assoc, or_swap)

  pub other_sorted : (l : List Range) → any_other f (sorted l) ≡ any_other f l
  unfolding any_other sorted
  other_sorted [] = refl
  other_sorted (x ∷ xs) = other_insert x (sorted xs) ∙ rw (test_sorted (f x) xs, test_sorted (λ (y : Range). f y x) xs, other_sorted xs)
