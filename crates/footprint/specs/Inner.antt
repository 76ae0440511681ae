-- What the steps of the check do; no public call promises anything by these.
use Rattle.std.specs.Prelude.{ℕ, ◌-◌, Bool, false, ◌||◌, List, [], ◌∷◌, ◌++◌, ◌≡◌, ltb}
use Rattle.footprint.specs.Footprint.{committed, footprint_of, entry_tests, header_tests, extent_tests}
use Rattle.footprint.specs.declared.Entry.{Entry}
use Rattle.footprint.specs.declared.Header.{Header}
use Rattle.footprint.specs.declared.Limits.{Limits}
use Rattle.numbers.specs.Pairs.{flat}
use Rattle.numbers.specs.Range.{Range}
use Rattle.numbers.specs.Refusals.{first}

-- Every refusal but 13.
unfoldable pub before_last : Limits → ℕ → Entry → Header → List ℕ → ℕ → ℕ
before_last lim id e h xs places = first (entry_tests lim e h xs places ++ header_tests id e h ++ extent_tests lim e (committed e xs))

-- Some range of a list in order begins before the one in front of it ends.
unfoldable pub neighbours_meet : List Range → Bool
neighbours_meet [] = false
neighbours_meet (r ∷ []) = false
neighbours_meet (r ∷ q ∷ rs) = ltb (q.offset - r.offset) r.len || neighbours_meet (q ∷ rs)

-- s holds the sorted footprint, and the answer is whether neighbours in it meet.
pub record LaidOut (lim : Limits) (e : Entry) (xs s : List ℕ) (meet : Bool) : Type 0 where
  pub slots : s ≡ flat (footprint_of lim e xs)
  pub answer : meet ≡ neighbours_meet (footprint_of lim e xs)
