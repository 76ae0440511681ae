-- The decimal numbers of a text, and what reading them leaves in the lent slice.
use Rattle.std.specs.Prelude.{ℕ, ◌+◌, ◌-◌, ◌*◌, ◌^◌, ◌≤◌, min, Option, None, Some, unwrap_or, Bool, cond, ◌&&◌, List, [], ◌∷◌, ◌++◌, ◌≡◌, leb, length, take, drop}

-- '0' to '9'.
abbrev pub is_digit : ℕ → Bool
is_digit b = leb 48 b && leb b 57

-- A value with one more digit, stopping at 2^64 - 1.
abbrev pub with_digit : ℕ → ℕ → ℕ
with_digit v d = min (v * 10 + d) (2 ^ 64 - 1)

-- The number that ends where no digit follows: the one that is being read, if any.
abbrev pub finished : Option ℕ → List ℕ
finished None = []
finished (Some v) = v ∷ []

-- The numbers that the rest of a text completes, where `begun` is the value so far of the one that is being read.
unfoldable pub numbers_from : Option ℕ → List ℕ → List ℕ
numbers_from begun [] = finished begun
numbers_from begun (b ∷ bs) =
    cond (is_digit b) (numbers_from (Some (with_digit (unwrap_or begun 0) (b - 48))) bs)
    (finished begun ++ numbers_from None bs)

-- The numbers of a text: each run of digits is one.
abbrev pub numbers_in : List ℕ → List ℕ
numbers_in text = numbers_from None text

-- As many of the numbers as there are places stand in front, and the other slots keep their content.
-- `inside` follows from the two, and is stated for those who lend the front.
pub record Filled (text entry exit : List ℕ) (n : ℕ) : Type 0 where
  pub count : n ≡ min (length (numbers_in text)) (length entry)
  pub slots : exit ≡ take n (numbers_in text) ++ drop n entry
  pub inside : n ≤ length exit

-- The same of a text that is read: no contract can say which.
pub record Read (entry exit : List ℕ) (n : ℕ) : Type 0 where
  pub text : List ℕ
  pub filled : Filled text entry exit n
