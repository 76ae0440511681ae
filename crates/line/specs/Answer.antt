-- Document 01, "The listing program": the line that a line is answered by.
use Rattle.std.specs.Prelude.{ℕ, ◌+◌, cond, List, ◌++◌, ◌≡◌, leb, length, take, drop, codes, decimal}
use Rattle.model.specs.Listing.{Line}

-- "Each line is answered by: refusal (0 if accepted), at (byte placed or located, else 0), held, free", and its line end. `decimal`
-- writes a number without leading zeros.
unfoldable pub answer_text : Line → List ℕ
answer_text l = codes "refusal=" ++ decimal l.refusal ++ codes " at=" ++ decimal l.at ++ codes " held=" ++ decimal l.held ++ codes " free=" ++ decimal l.free ++ codes "\n"

-- A text over the slots of a list from a place on; the others keep their content.
unfoldable pub over : ℕ → List ℕ → List ℕ → List ℕ
over at text s = take at s ++ text ++ drop (at + length text) s

-- A text is written where it fits, and ends at the place that is answered.
pub record Put (at : ℕ) (text s t : List ℕ) (end : ℕ) : Type 0 where
  pub slots : t ≡ cond (leb (at + length text) (length s)) (over at text s) s
  pub place : end ≡ cond (leb (at + length text) (length s)) (at + length text) at
