-- How many cases of each module there are, and how many are answered alike.
use Rattle.std.specs.Prelude.{ℕ, ◌+◌, Option, None, Some, Bool, false, ◌&&◌, cond, ltb, get_or, set, replicate}
use Rattle.numbers.specs.Sums.{stop}
use Rattle.sample.specs.declared.cases.Case.{Case}
use Rattle.sample.specs.declared.tally.Count.{Count}
use Rattle.sample.specs.declared.tally.Tally.{Tally}

-- A module's place: its number, and 0 for a number that is no module's.
abbrev pub place_of : ℕ → ℕ
place_of n = cond (ltb n 9) n 0

-- No case of a module is counted yet.
abbrev pub none_yet : Count
none_yet = record { cases = 0; alike = 0 }

-- Nothing is counted yet.
abbrev pub no_cases : Tally
no_cases = record { counts = replicate 9 none_yet }

-- One case more, and one more that is alike where it is, each stopping at 2^64 - 1.
abbrev pub one_more : Bool → Count → Count
one_more alike c = record { cases = stop (c.cases + 1); alike = cond alike (stop (c.alike + 1)) c.alike }

-- With one case more of the module n; the other modules' stay.
abbrev pub with_case : ℕ → Bool → Tally → Tally
with_case n alike t = record { counts = set t.counts (place_of n) (one_more alike (get_or t.counts (place_of n) none_yet)) }

-- With one case more of its own module, alike where all of it was there and its answer is; at 0 where no module answers it.
abbrev pub with_answer : Case → Option Bool → Tally → Tally
with_answer case (Some alike) t = with_case case.kind (case.whole && alike) t
with_answer case None t = with_case 0 false t
