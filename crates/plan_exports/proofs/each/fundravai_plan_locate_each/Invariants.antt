use Prim.Native.Nat.{◌≤◌}
use mathlib.Core.Path.{◌≡◌}
use lib.ListN.{length, drop}
use Rattle.plan_exports.specs.Each.{Locate, locating, askeds}
use Rattle.flat.proofs.Chaining.{Going}
use Rattle.plan_exports.proofs.each.fundravai_plan_locate_each.Given as goal

abbrev pub invariant-loop-i : goal.invariant-loop-i
invariant-loop-i l =
    (l.located ≤ l.i) × (length l.bytes ≡ length l.initial.bytes) × Going (Locate l.plan l.starts l.files l.n) (askeds l.ids l.positions)
    (locating l.initial.bytes 0 0) (askeds (drop l.i l.ids) (drop l.i l.positions)) (locating l.bytes l.i l.located)
