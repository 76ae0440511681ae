-- What `part_pairs` makes of a list.
use Rattle.std.specs.Prelude.{ℕ, ◌<◌, ◌≤◌, ◌≡◌, Bool, ◌||◌, List, leb, length, take, drop}
use Rattle.numbers.specs.Lists.{All, Any}
use Rattle.numbers.specs.Pairs.{is_odd, pairs}
use Rattle.numbers.specs.Range.{Range}
use Rattle.sort.specs.Sort.{sorted}

-- It is left whole: its length is odd, or it has 16 pairs at most.
unfoldable pub whole : List ℕ → Bool
whole s = is_odd s || leb (length (pairs s)) 16

-- l is rearranged to m, of which the first k pairs have offsets below one that some pair has, and the others do not.
pub record PartedAt (l m : List Range) (offset k : ℕ) : Type 0 where
  pub same : sorted m ≡ sorted l
  pub inside : k ≤ length m
  pub low : All (λ (r : Range). r.offset < offset) (take k m)
  pub high : All (λ (r : Range). offset ≤ r.offset) (drop k m)
  pub one : Any (λ (r : Range). r.offset ≡ offset) m
