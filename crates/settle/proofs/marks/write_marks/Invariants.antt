use Prim.Native.Nat.{ℕ}
use mathlib.Core.Bool.{false}
use lib.ListN.{get_or}
use Rattle.settle.specs.Regions.{lent_of}
use Rattle.settle.specs.Naming.{outdone}
use Rattle.settle.specs.Settle.{mark_of}
use Rattle.settle.proofs.Marking.{Writing}
use Rattle.settle.proofs.marks.write_marks.Given as goal

abbrev pub invariant-loop-i : goal.invariant-loop-i
invariant-loop-i l =
    Writing (λ (k : ℕ). mark_of (get_or l.found.over k false) (outdone (lent_of l.usable.complete.records) (lent_of l.unavailable.complete.records) k)
    (get_or l.found.under k false)) l.usable.complete.records.count l.initial.marks l.marks l.i
