-- Document 01: "Numbers are u64", and sums that stop at 2^64 - 1.
use Rattle.std.specs.Prelude.{ℕ, ◌+◌, ◌-◌, ◌^◌, min, List, [], ◌∷◌}

-- The greatest u64, 2^64 - 1.
abbrev pub top : ℕ
top = 2 ^ 64 - 1

-- A whole number that stops at 2^64 - 1.
abbrev pub stop : ℕ → ℕ
stop n = min n top

-- The sum of a list, in whole numbers. "sums stop at .. 2^64 - 1" is `stop (sum xs)`.
unfoldable pub sum : List ℕ → ℕ
sum [] = 0
sum (x ∷ xs) = x + sum xs
