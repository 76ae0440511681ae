-- The halving search: how many of the first count numbers are at or below one.
use Prim.Native.Nat.{ℕ, ◌+◌, ◌-◌, ◌*◌, ◌/◌, ◌%◌, ◌^◌, ◌≤◌, ◌<◌}
use mathlib.Core.Bool.{Bool, cond}
use mathlib.Core.List.{List}
use mathlib.Core.Path.{◌≡◌}
use native.Mathlib.Omega.{arith}
use lib.Dec.{leb}
use lib.ListN.{get_or}
use borrow.Author.Tests.{lt-leb, le-leb}
use Rattle.numbers.specs.Search.{Rising, Found}
use Rattle.numbers.specs.Sums.{stop}
use Rattle.numbers.proofs.Cases.{by_lt, cases}
use mir.Val.{bool_byte}

-- from lo on, at most n more numbers are at or below p
pub record Halving (ss : List ℕ) (count p lo n : ℕ) : Type 0 where
  pub inside : lo + n ≤ count
  pub below : 0 < lo → get_or ss (lo - 1) 0 ≤ p
  pub above : Rising ss count → (j : ℕ) → lo + n ≤ j → j < count → p < get_or ss j 0

pub halving_begins : (ss : List ℕ) (count p : ℕ) → Halving ss count p 0 count
halving_begins ss count p =
    record {
      inside = omega arith;
      below = λ l. absurd (omega arith);
      above = λ r j l m. absurd (omega arith);
    }

module _ {ss : List ℕ} {count p lo n : ℕ} (g : Halving ss count p lo n) where
  module _ (l : 0 < n) where
    abbrev step : ℕ
    step = n - n / 2

    -- the number in the middle is at or below p
    up : get_or ss (lo + step - 1) 0 ≤ p → Halving ss count p (lo + step) (n / 2)
    up h =
        record {
          inside = omega (arith, g.inside);
          below = λ m. h;
          above = λ r j a b. g.above r j (omega (arith, a)) b;
        }

    -- it is above p, and so are those behind it
    down : p < get_or ss (lo + step - 1) 0 → Halving ss count p lo (n / 2)
    down h =
        record {
          inside = omega (arith, g.inside);
          below = g.below;
          above = λ r j a b. let o = r (lo + step - 1) j (omega (arith, a)) b in omega (arith, h, o);
        }

    pub halving_on : count < 2 ^ 64 → (next : ℕ) → next ≡ stop (lo + cond (leb (get_or ss (lo + step - 1) 0) p) step 0) → Halving ss count p next (n / 2)
    halving_on f next e =
        by_lt p (get_or ss (lo + step - 1) 0)
        (λ h. let d = rw (lt-leb (get_or ss (lo + step - 1) 0) p h) at e in let n : next ≡ lo = omega (arith, d, g.inside) in rw n (down h))
        (λ h. let d = rw (le-leb (get_or ss (lo + step - 1) 0) p h) at e in let n : next ≡ lo + step = omega (arith, d, g.inside) in rw n (up h))

  pub halving_ends : n ≤ 0 → Found ss count p lo
  halving_ends l =
      record {
        inside = omega (arith, g.inside);
        below = g.below;
        above = λ r j a b. g.above r j (omega (arith, a)) b;
      }

-- ---- a step, taken or not

module _ (b : Bool) where
  pub one_bit : bool_byte b < 64
  one_bit = cases b (λ e. rw e (omega arith)) (λ e. rw e (omega arith))

  -- it is shifted by one bit or by none
  pub shifted : (step : ℕ) → step < 2 ^ 63 → (step * 2 ^ bool_byte b % 2 ^ 64 ≡ step + cond b step 0) × (cond b step 0 ≤ step)
  shifted step h = cases b (λ t. rw t (omega arith, omega arith)) (λ t. rw t (omega arith, omega arith))
