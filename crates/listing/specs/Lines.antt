-- Document 01, "The listing program": the lines of the input. A line end is one byte, 10; "a last line may lack its line end".
use Rattle.std.specs.Prelude.{ℕ, cond, List, [], ◌∷◌, ◌++◌, eqb}

-- The lines that the bytes bs end, where c is what has come of the first, each without its line end.
unfoldable pub ended : List ℕ → List ℕ → List (List ℕ)
ended c [] = []
ended c (b ∷ bs) = cond (eqb b 10) (c ∷ ended [] bs) (ended (c ++ (b ∷ [])) bs)

-- What has come of the next line behind them.
unfoldable pub begun : List ℕ → List ℕ → List ℕ
begun c [] = c
begun c (b ∷ bs) = cond (eqb b 10) (begun [] bs) (begun (c ++ (b ∷ [])) bs)

-- At the end of the input it is a line, if there is any of it.
abbrev pub last_line : List ℕ → List (List ℕ)
last_line [] = []
last_line (b ∷ bs) = (b ∷ bs) ∷ []

abbrev pub lines_of : List ℕ → List (List ℕ)
lines_of input = ended [] input ++ last_line (begun [] input)
