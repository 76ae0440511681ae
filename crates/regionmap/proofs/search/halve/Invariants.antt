use Rattle.std.proofs.Common.{ℕ, ◌≡◌, ◌+◌, ◌≤◌, ◌<◌, List}
use lib.ListN.{get_or}
use Rattle.numbers.proofs.Halving.{Halving}
use Rattle.regionmap.proofs.search.halve.Given as goal

abbrev pub invariant-loop-n : goal.invariant-loop-n
invariant-loop-n g l =
    (l.lo + l.n ≤ l.count) ×
    ((ss : List ℕ) → ((i x : ℕ) → i < l.count → goal.F-post g l.start_at i x → x ≡ get_or ss i 0) → Halving ss l.count l.pos l.lo l.n)

abbrev pub decreases-loop-n : goal.decreases-loop-n
decreases-loop-n g l = l.n
