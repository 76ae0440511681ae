-- Document 01, "`first_fit`": the place of some bytes in the first gap that allows it.
use Rattle.std.specs.Prelude.{ℕ, ◌+◌, ◌-◌, Bool, cond, not, ◌&&◌, List, [], ◌∷◌, nat_le, nat_lt, Option, None, Some}
use Rattle.align.specs.Align.{up_to}
use Rattle.freemap.specs.Gaps.{gaps_in, too_few}
use Rattle.freemap.specs.declared.FreeMap.{FreeMap}
use Rattle.numbers.specs.Powers.{is_power_of_two}
use Rattle.numbers.specs.Range.{Range, end_of}
use Rattle.numbers.specs.Refusals.{Answer, answer, refuse, first}
use Rattle.numbers.specs.Sums.{top}

-- "the least at >= start with at + skew a multiple of align"; `place_least` (proofs/Places) says that it is.
unfoldable pub place_in : ℕ → ℕ → Range → ℕ
place_in align skew g = up_to (g.offset + skew) align - skew

-- "a gap whose start + skew + align - 1 passes 2^64 - 1 is skipped"
unfoldable pub skipped : ℕ → ℕ → Range → Bool
skipped align skew g = nat_lt top (g.offset + skew + (align - 1))

-- "at + len <= end"
unfoldable pub allows : ℕ → ℕ → ℕ → Range → Bool
allows len align skew g = not (skipped align skew g) && nat_le (place_in align skew g + len) (end_of g)

-- "in the first gap that allows it"; `fit_lowest` (proofs/Places) says that for a length above 0, where no gap can be skipped,
-- it is the least free span of all, and none exactly where there is none.
unfoldable pub first_fit : ℕ → ℕ → ℕ → List Range → Option ℕ
first_fit len align skew [] = None
first_fit len align skew (g ∷ gs) = cond (allows len align skew g) (Some (place_in align skew g)) (first_fit len align skew gs)

-- 1, then 2, "a free-map call's align is no power of two".
unfoldable pub fit_refusal : FreeMap → List ℕ → ℕ → ℕ
fit_refusal m gs align = first (refuse 1 (too_few m gs) ∷ refuse 2 (not (is_power_of_two align)) ∷ [])

-- What `first_fit` answers, of any record and list.
abbrev pub fit_of : FreeMap → List ℕ → ℕ → ℕ → ℕ → Answer (Option ℕ)
fit_of m gs len align skew = answer (fit_refusal m gs align) (first_fit len align skew (gaps_in m gs))
