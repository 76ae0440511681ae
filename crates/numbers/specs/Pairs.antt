-- Flat lists of numbers as lists of pairs: offset, length, offset, length, ..
use Rattle.std.specs.Prelude.{ℕ, ◌%◌, Bool, List, [], ◌∷◌, map, eqb, length, get_or}
use Rattle.numbers.specs.Range.{Range, range}

-- Document 01, refusal 1: "a list of pairs is odd".
abbrev pub is_odd : List ℕ → Bool
is_odd l = eqb (length l % 2) 1

-- The pairs of a list. Of an odd one the last number is left out.
unfoldable pub pairs : List ℕ → List Range
pairs [] = []
pairs (o ∷ []) = []
pairs (o ∷ l ∷ rest) = range o l ∷ pairs rest

-- A list of pairs written out.
unfoldable pub flat : List Range → List ℕ
flat [] = []
flat (r ∷ rs) = r.offset ∷ r.len ∷ flat rs

-- The pairs of a list that is lent in chunks of two (`chunk_pairs` of proofs/Chunks says that they are its pairs).
abbrev pub chunk_range : List ℕ → Range
chunk_range c = range (get_or c 0 0) (get_or c 1 0)

abbrev pub ranges_in : List (List ℕ) → List Range
ranges_in cs = map chunk_range cs
