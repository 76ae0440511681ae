-- A search among numbers in order.
use Rattle.std.specs.Prelude.{ℕ, ◌-◌, ◌≤◌, ◌<◌, List, get_or}

-- The first n numbers are in order.
abbrev pub Rising : List ℕ → ℕ → Type 0
Rising ss n = (i j : ℕ) → i ≤ j → j < n → get_or ss i 0 ≤ get_or ss j 0

-- The number in front of r is at or below p and, where the first n are in order, those from r on are above it.
pub record Found (ss : List ℕ) (n p r : ℕ) : Type 0 where
  pub inside : r ≤ n
  pub below : 0 < r → get_or ss (r - 1) 0 ≤ p
  pub above : Rising ss n → (j : ℕ) → r ≤ j → j < n → p < get_or ss j 0
