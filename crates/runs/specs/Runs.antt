-- Document 01, "Runs, same file": the runs of a list of extents.
use Rattle.std.specs.Prelude.{ℕ, ◌+◌, ◌-◌, ◌≤◌, ◌<◌, Bool, cond, ◌&&◌, ◌||◌, List, [], ◌∷◌, map, ◌≡◌, ltb, leb, eqb, length}
use Rattle.numbers.specs.Lists.{list_after}
use Rattle.numbers.specs.Pairs.{is_odd, pairs}
use Rattle.numbers.specs.Range.{Range, range}
use Rattle.numbers.specs.Refusals.{refuse, Answer, answer}
use Rattle.numbers.specs.Sums.{top, stop}
use Rattle.runs.specs.declared.Run.{Run}

-- "A run is its start .., file offset and length."
abbrev pub run : ℕ → ℕ → ℕ → Run
run s f l = record { start = s; file = f; len = l }

-- "Empty extents are skipped"
unfoldable pub not_empty : List Range → List Range
not_empty [] = []
not_empty (x ∷ xs) = cond (eqb x.len 0) (not_empty xs) (x ∷ not_empty xs)

-- "neighbours in the list join where one ends at the next's offset and neither sum (offset and length, joined length) passes 2^64 - 1"
unfoldable pub joins : Range → Range → Bool
joins r x = eqb (r.offset + r.len) x.offset && leb (r.offset + r.len) top && leb (r.len + x.len) top

-- The list with its neighbours joined, of which r is the first, joined so far.
unfoldable pub joined_to : Range → List Range → List Range
joined_to r [] = r ∷ []
joined_to r (x ∷ xs) = cond (joins r x) (joined_to (range r.offset (r.len + x.len)) xs) (r ∷ joined_to x xs)

-- No neighbours are left that join (`runs_apart` in proofs/Positions).
unfoldable pub joined : List Range → List Range
joined [] = []
joined (r ∷ rs) = joined_to r rs

-- "its start (the lengths before it, stopping at 2^64 - 1)", where the lengths before the list sum to `before`
unfoldable pub runs_from : ℕ → List Range → List Run
runs_from before [] = []
runs_from before (r ∷ rs) = run (stop before) r.offset r.len ∷ runs_from (before + r.len) rs

-- The runs of a list of extents.
abbrev pub runs_of : List Range → List Run
runs_of xs = runs_from 0 (joined (not_empty xs))

-- The byte of position p of the extents laid end to end.
unfoldable pub byte_of : List Range → ℕ → ℕ
byte_of [] p = 0
byte_of (x ∷ xs) p = cond (ltb p x.len) (x.offset + p) (byte_of xs (p - x.len))

-- What a list of runs reads past its end.
abbrev pub blank_run : Run
blank_run = run 0 0 0

-- Position p lies in a run.
pub record Holds (r : Run) (p : ℕ) : Type 0 where
  pub from : r.start ≤ p
  pub upto : p < r.start + r.len

-- "Position p in the run starting at s with file offset f is byte f + (p - s)."
abbrev pub run_byte : Run → ℕ → ℕ
run_byte r p = r.file + (p - r.start)

-- Refusal 1 of `runs`: "a list of pairs is odd", or a lent list has "fewer places than: the extents".
unfoldable pub runs_fail : List ℕ → ℕ → ℕ → ℕ → Bool
runs_fail xs s f l = is_odd xs || ltb s (length (pairs xs)) || ltb f (length (pairs xs)) || ltb l (length (pairs xs))

-- What `runs` answers.
abbrev pub runs_answer : List ℕ → ℕ → ℕ → ℕ → Answer ℕ
runs_answer xs s f l = answer (refuse 1 (runs_fail xs s f l)) (length (runs_of (pairs xs)))

-- What `runs` promises: its answer, and every slot of the three lent lists.
pub record Listed (xs s₀ s f₀ f l₀ l : List ℕ) (c : Answer ℕ) : Type 0 where
  pub answer : c ≡ runs_answer xs (length s₀) (length f₀) (length l₀)
  pub starts : s ≡ list_after (runs_fail xs (length s₀) (length f₀) (length l₀)) (map (λ (r : Run). r.start) (runs_of (pairs xs))) s₀
  pub files : f ≡ list_after (runs_fail xs (length s₀) (length f₀) (length l₀)) (map (λ (r : Run). r.file) (runs_of (pairs xs))) f₀
  pub lens : l ≡ list_after (runs_fail xs (length s₀) (length f₀) (length l₀)) (map (λ (r : Run). r.len) (runs_of (pairs xs))) l₀
