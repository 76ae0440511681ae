-- A pass over the committed extents, for refusals 11 and 12.
use Prim.Native.Nat.{ℕ, ◌+◌, ◌≤◌, ◌<◌}
use mathlib.Core.Bool.{true, false, not}
use mathlib.Core.List.{List}
use mathlib.Core.Path.{◌≡◌, refl}
use lib.Dec.{eqb, ltb}
use lib.ListN.{length, get_or}
use Rattle.footprint.specs.Footprint.{outside, extent_tests}
use Rattle.footprint.specs.declared.Entry.{Entry}
use Rattle.footprint.specs.declared.Limits.{Limits}
use Rattle.numbers.specs.Range.{Range, range, blank}
use Rattle.numbers.specs.Refusals.{first, refuse}
use Rattle.numbers.specs.Sums.{top}
use Rattle.numbers.proofs.Refusals.{first_one, Walked, walk_begins, walk_outside, walk_over, walk_on, walk_ends, walk_sum}

-- the extents in front of i pass their tests, and their lengths sum to s
pub record Walking (lim : Limits) (e : Entry) (xs : List Range) (i s : ℕ) : Type 0 where
  pub walk : Walked (outside lim e) xs (length xs) i s

pub walking : (lim : Limits) (e : Entry) (xs : List Range) → Walking lim e xs 0 0
walking lim e xs = record { walk = walk_begins (outside lim e) xs (length xs) refl }

module _ {lim : Limits} {e : Entry} {xs : List Range} {i s : ℕ} (g : Walking lim e xs i s) where
  module _ {o n : ℕ} (l : i < length xs) (at : get_or xs i blank ≡ range o n) where
    pub stops_outside : outside lim e (range o n) ≡ true → first (extent_tests lim e xs) ≡ 11
    unfolding first
    stops_outside f = rw (walk_outside g.walk l (range o n) at f)

    pub stops_over : outside lim e (range o n) ≡ false → ltb top (s + n) ≡ true → first (extent_tests lim e xs) ≡ 12
    unfolding first
    stops_over f p = rw (walk_over g.walk l (range o n) at f p)

    pub goes_on : outside lim e (range o n) ≡ false → ltb top (s + n) ≡ false → Walking lim e xs (i + 1) (s + n)
    goes_on f p = record { walk = walk_on g.walk l (range o n) at f p }

  pub passed_all : length xs ≤ i → first (extent_tests lim e xs) ≡ refuse 12 (not (eqb s e.capacity))
  unfolding first
  passed_all l = rw (walk_ends g.walk l, ← walk_sum g.walk l) (first_one _)
