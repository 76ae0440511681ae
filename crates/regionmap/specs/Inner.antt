-- What the steps of the map's calls do; no public call promises anything by these.
use Rattle.std.specs.Prelude.{ℕ, ◌-◌, ◌≤◌, ◌<◌, List, map, ◌≡◌, length, get_or, drop, Result, Ok, Err}
use Rattle.runs.specs.declared.Run.{Run}
use Rattle.runs.specs.Runs.{blank_run, runs_of}
use Rattle.numbers.specs.Lists.{written}
use Rattle.numbers.specs.Range.{Range, total}
use Rattle.numbers.specs.Refusals.{each_extent, refusal_number}
use Rattle.numbers.specs.declared.refusal.Refusal.{Refusal}
use Rattle.regionmap.specs.Map.{passes_top, with_first}

-- The length of extents together, or their refusal, 11 or 12.
abbrev pub Measured : List Range → Result ℕ Refusal → Type 0
Measured xs (Ok bytes) = (each_extent passes_top 0 xs ≡ 0) × (bytes ≡ total xs)
Measured xs (Err e) = refusal_number e ≡ each_extent passes_top 0 xs

-- The runs of extents: the file offset of the first, and the later ones, count of them, in two lists.
pub record Laid (xs : List Range) (ss₀ ss fs₀ fs : List ℕ) (first count : ℕ) : Type 0 where
  pub from : first ≡ (get_or (with_first (runs_of xs)) 0 blank_run).file
  pub later : count ≡ length (runs_of xs) - 1
  pub starts : ss ≡ written (map (λ (r : Run). r.start) (drop 1 (runs_of xs))) ss₀
  pub files : fs ≡ written (map (λ (r : Run). r.file) (drop 1 (runs_of xs))) fs₀

-- Where the run k ends: where the next one starts, or at the capacity.
pub record RunEnd (ss : List ℕ) (count cap k r : ℕ) : Type 0 where
  pub early : k < count → r ≡ get_or ss k 0
  pub late : count ≤ k → r ≡ cap
