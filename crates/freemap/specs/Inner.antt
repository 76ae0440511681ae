-- What the steps of the calls do; no public call promises anything by these.
use Rattle.std.specs.Prelude.{◌≡◌, ℕ, ◌+◌, ◌-◌, ◌*◌, min, max, cond, List, [], ◌∷◌, ◌++◌, length, ◌==◌, nat_lt, slice_set}
use Rattle.freemap.specs.Gaps.{tail_of}
use Rattle.freemap.specs.declared.FreeMap.{FreeMap}
use Rattle.numbers.specs.Lists.{written}
use Rattle.numbers.specs.Pairs.{flat}
use Rattle.numbers.specs.Range.{Range, range, end_of}

-- The gap from a up to b, if it has a byte.
abbrev pub gap_to : ℕ → ℕ → List Range
gap_to a b = cond (nat_lt a b) (range a (b - a) ∷ []) []

-- The gaps from a up to len, given the ranges in order: of the sorted list they are `gaps_of` (`swept_of` in proofs/Sweeping).
unfoldable pub swept : ℕ → ℕ → List Range → List Range
swept len a [] = gap_to a len
swept len a (r ∷ rs) = cond (r.len == 0) (swept len a rs) (gap_to a (min r.offset len) ++ swept len (max a (end_of r)) rs)

-- A gap written behind k others, where it has a byte.
pub record Noted (gs₀ gs : List ℕ) (k a b n : ℕ) : Type 0 where
  pub count : n ≡ k + length (gap_to a b)
  pub slots : gs ≡ cond (nat_lt a b) (slice_set (slice_set gs₀ (2 * k) a) (2 * k + 1) (b - a)) gs₀

-- All gaps written.
pub record Swept (te len : ℕ) (rs : List Range) (gs₀ gs : List ℕ) (m : FreeMap) : Type 0 where
  pub count : m.count ≡ length (swept len te rs)
  pub tail : m.tail ≡ tail_of te rs
  pub slots : gs ≡ written (flat (swept len te rs)) gs₀
