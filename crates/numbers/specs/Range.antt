-- Document 01, head: ranges, their ends and bytes, and when two meet.
use Rattle.std.specs.Prelude.{ℕ, ◌+◌, ◌≤◌, ◌<◌, min, max, Bool, ◌&&◌, List, map, ltb, leb}
use Rattle.numbers.specs.Lists.{Pairwise}
use Rattle.numbers.specs.Sums.{stop, sum}

-- "A range is a pair (offset, length)".
pub record Range : Type 0 where
  pub offset : ℕ
  pub len : ℕ

abbrev pub range : ℕ → ℕ → Range
range o l = record { offset = o; len = l }

-- What a list of ranges reads past its end.
abbrev pub blank : Range
blank = range 0 0

-- "its end is min(offset + length, 2^64 - 1)"
unfoldable pub end_of : Range → ℕ
end_of r = stop (r.offset + r.len)

-- "its bytes run from offset up to, not including, its end"
pub record Has (r : Range) (b : ℕ) : Type 0 where
  pub from : r.offset ≤ b
  pub upto : b < end_of r

-- The same as a test; `has_true`, `true_has` and `has_false` (proofs/Ranges) tie it to `Has`.
unfoldable pub has : Range → ℕ → Bool
has r b = leb r.offset b && ltb b (end_of r)

-- "two ranges meet if some byte is in both"
pub record Meet (r q : Range) : Type 0 where
  pub byte : ℕ
  pub left : Has r byte
  pub right : Has q byte

-- The same as a test; `meets_true` and `meets_false` (proofs/Ranges) tie it to `Meet`.
unfoldable pub meets : Range → Range → Bool
meets r q = ltb (max r.offset q.offset) (min (end_of r) (end_of q))

-- No two ranges of a list meet; `disjoint_at` and `at_disjoint` (proofs/Disjoint) say it with their places.
abbrev pub Disjoint : List Range → Type 0
Disjoint rs = Pairwise (λ (r q : Range). Meet r q → ⊥) rs

-- A range lies from a up to b.
pub record Within (a b : ℕ) (r : Range) : Type 0 where
  pub from : a ≤ r.offset
  pub upto : r.offset + r.len ≤ b

-- The lengths of a list of ranges together, in whole numbers.
abbrev pub total : List Range → ℕ
total rs = sum (map (λ (r : Range). r.len) rs)
