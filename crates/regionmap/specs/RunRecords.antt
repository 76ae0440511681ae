-- Document 01, "The lookup among published runs reads a lent list of run records": what it answers, by the records alone.
use Rattle.std.specs.Prelude.{ℕ, ◌+◌, ◌-◌, ◌≤◌, ◌||◌, List, [], ◌∷◌, map, ◌≡◌, ltb, length, get_or, Result}
use Rattle.numbers.specs.Lists.{Any}
use Rattle.numbers.specs.Range.{range, end_of}
use Rattle.numbers.specs.Refusals.{refuse, first, Answer, answer, told}
use Rattle.numbers.specs.Search.{Rising}
use Rattle.numbers.specs.declared.refusal.Refusal.{Refusal}
use Rattle.runs.specs.Runs.{blank_run, run_byte}
use Rattle.runs.specs.declared.Run.{Run}
use Rattle.regionmap.specs.Map.{limit, run_of}

-- The last run, or the empty one of "a map without extents".
abbrev pub last_run : List Run → Run
last_run rs = get_or rs (length rs - 1) blank_run

-- Where it ends in the data: the capacity of runs that lie end to end from 0.
unfoldable pub data_end : List Run → ℕ
data_end rs = (last_run rs).start + (last_run rs).len

-- How much of a run the file has: a range's "end is min(offset + length, 2^64 - 1)".
abbrev pub in_file : Run → ℕ
in_file r = end_of (range r.file r.len) - r.file

-- Of a position whose run is r. 1: "a count is over its limit", which is an empty first run more than "At most 4,084 extents, and as
-- much room"; 23: "A position, length or range passes the data or capacity"; 24: "The range crosses a run's end".
unfoldable pub among_refusal : List Run → Run → ℕ → ℕ → ℕ → ℕ
among_refusal rs r len p n =
    first (refuse 1 (ltb (limit + 1) (length rs)) ∷
    refuse 23 (ltb (data_end rs) len || ltb len (p + n)) ∷
    refuse 24 (ltb (r.start + in_file r) (p + n)) ∷ [])

-- What the lookup answers. Where the runs are those of a map, this is what its `locate` answers (`among_map`, proofs/RunRecords).
abbrev pub among : List Run → Run → ℕ → ℕ → ℕ → Answer ℕ
among rs r len p n = answer (among_refusal rs r len p n) (run_byte r p)

-- The runs stand by start.
abbrev pub ByStart : List Run → Type 0
ByStart rs = Rising (map (λ (r : Run). r.start) rs) (length rs)

-- The run whose byte is answered starts at or below p and is one of the list, or "an empty first run at byte 0", as of "a map without
-- extents"; of runs by start it is the run of the position.
pub record RunFor (rs : List Run) (p : ℕ) (r : Run) : Type 0 where
  pub listed : Any (λ (q : Run). r ≡ q) (blank_run ∷ rs)
  pub from : r.start ≤ p
  pub right : ByStart rs → r ≡ run_of rs p

-- What `locate_among` promises of every list of runs, in whatever order.
pub record AnsweredAmong (rs : List Run) (len p n : ℕ) (c : Result ℕ Refusal) : Type 0 where
  pub run : Run
  pub read : RunFor rs p run
  pub answer : told c ≡ among rs run len p n
