-- The ranges in scratch; `settle` promises nothing by these.
use Rattle.std.specs.Prelude.{ℕ, ◌+◌, ◌<◌, List, ◌≡◌, length, get_or}
use Rattle.numbers.specs.Pairs.{pairs}
use Rattle.numbers.specs.Range.{Range, range, blank, end_of}
use Rattle.settle.specs.Regions.{Piece, piece}
use Rattle.sort.specs.Sort.{sorted}

abbrev pub no_piece : Piece
no_piece = piece 0 0 blank

-- Of n ranges, the pieces ps are laid from first on: the pair k is a start with k, the pair n + k an end with the region's
-- place. What is laid in front is kept.
pub record Laid (ps : List Piece) (first n : ℕ) (s₀ s : List ℕ) : Type 0 where
  pub size : length s ≡ length s₀
  pub starts : (k : ℕ) → k < length ps → get_or (pairs s) (first + k) blank ≡ range (get_or ps k no_piece).range.offset (first + k)
  pub ends : (k : ℕ) → k < length ps → get_or (pairs s) (n + (first + k)) blank ≡ range (end_of (get_or ps k no_piece).range) (get_or ps k no_piece).region
  pub old_starts : (j : ℕ) → j < first → get_or (pairs s) j blank ≡ get_or (pairs s₀) j blank
  pub old_ends : (j : ℕ) → j < first → get_or (pairs s) (n + j) blank ≡ get_or (pairs s₀) (n + j) blank

-- The pieces ps in the order of their starts: order holds each start with its place, sorted; facts hold the end and the region
-- of each place.
pub record Ordered (ps : List Piece) (order facts : List Range) : Type 0 where
  pub starts : List Range
  pub size : length starts ≡ length ps
  pub start : (k : ℕ) → k < length ps → get_or starts k blank ≡ range (get_or ps k no_piece).range.offset k
  pub sort : order ≡ sorted starts
  pub fact : (k : ℕ) → k < length ps → get_or facts k blank ≡ range (end_of (get_or ps k no_piece).range) (get_or ps k no_piece).region
