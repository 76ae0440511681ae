-- What the steps of `runs` do; it promises nothing by these.
use Rattle.std.specs.Prelude.{ℕ, ◌+◌, ◌≤◌, ◌<◌, List, ◌∷◌, map, ◌≡◌, length, get_or, drop}
use Rattle.numbers.specs.Lists.{written}
use Rattle.numbers.specs.Range.{Range, range, blank}
use Rattle.runs.specs.declared.Run.{Run}
use Rattle.runs.specs.Runs.{not_empty, joined_to, joined, runs_of}

-- The run that begins with the extent i has length len, and the extent `next` is the first behind it.
pub record Reached (xs : List Range) (i len next : ℕ) : Type 0 where
  pub behind : i < next
  pub inside : next ≤ length xs
  pub goes : joined_to (get_or xs i blank) (not_empty (drop (i + 1) xs)) ≡ range (get_or xs i blank).offset len ∷ joined (not_empty (drop next xs))

-- k runs stand in the first slots of three lists.
pub record Joined (xs : List Range) (s₀ s f₀ f l₀ l : List ℕ) (k : ℕ) : Type 0 where
  pub count : k ≡ length (runs_of xs)
  pub starts : s ≡ written (map (λ (r : Run). r.start) (runs_of xs)) s₀
  pub files : f ≡ written (map (λ (r : Run). r.file) (runs_of xs)) f₀
  pub lens : l ≡ written (map (λ (r : Run). r.len) (runs_of xs)) l₀
