-- `regionmap::RegionMap::runs` meets its contract: each return is a case of `Written`.
use Prim.Native.Nat.{◌+◌, ◌<◌, ◌≤◌}
use mathlib.Core.Path.{sym, ◌∙◌}
use native.Mathlib.Omega.{arith}
use lib.ListN.{length}
use borrow.Author.Tests.{lt-ltb, le-ltb}
use Rattle.numbers.specs.Pairs.{pairs}
use Rattle.regionmap.specs.Map.{runs_fail, too_few}
use Rattle.numbers.proofs.Pairs.{length_pairs}
use Rattle.regionmap.proofs.Listing.{list_refused, list_written}
use Rattle.regionmap.proofs.Lookup.{Enough, lists_pass}
use Rattle.regionmap.proofs.RegionMap.runs.Goals as goal
use Rattle.regionmap.proofs.RegionMap.runs.Goals.{Else-lists_fail, Else-out-self}

-- what the tests up to a place have shown
enough : (c : Else-lists_fail) → Enough c.args.self c.args.starts.now c.args.files.now
enough c = lists_pass _ _ _ (sym c.lists_fail.ensures ∙ c.if-lists_fail.false)

room : (c : Else-out-self) → c.args.self.count + 1 ≤ length (pairs c.args.out.now)
room c = let l = length_pairs c.args.out.now in omega (arith, c.if-out-self.false)

pub returns-then-lists_fail : goal.returns-then-lists_fail
unfolding runs_fail too_few
returns-then-lists_fail c = let a = c.args in list_refused _ _ _ _ (simp (sym c.lists_fail.ensures ∙ c.if-lists_fail.true))

pub returns-then-out-self : goal.returns-then-out-self
unfolding runs_fail too_few
returns-then-out-self c = let a = c.args in let l = length_pairs a.out.now in let h : length (pairs a.out.now) < a.self.count + 1 = omega
    (arith, c.if-out-self.true) in list_refused _ _ _ _ (simp (sym c.lists_fail.ensures ∙ c.if-lists_fail.false, lt-ltb _ _ h))

pub list_runs-requires : goal.list_runs-requires
list_runs-requires c = let e = enough (goal.at.list_runs-requires c).Else-lists_fail in let r = room (goal.at.list_runs-requires c).Else-out-self in (e.starts, e.files, omega arith)

pub returns : goal.returns
unfolding runs_fail too_few
returns c = let a = c.args in list_written a.self a.starts.now a.files.now _ (simp
    (sym c.lists_fail.ensures ∙ c.if-lists_fail.false, le-ltb _ _ (room (goal.at.returns c).Else-out-self)))
    (enough (goal.at.returns c).Else-lists_fail) _ c.list_runs.ensures
