use Rattle.std.specs.Prelude.{Ok, None}
use Prim.Native.Nat.{◌≤◌}
use mathlib.Core.Path.{◌≡◌}
use lib.ListN.{length, drop}
use Rattle.plan_exports.specs.Each.{Called, calling, codeds}
use Rattle.flat.proofs.Chaining.{Going}
use Rattle.plan_exports.proofs.each.fundravai_plan_call_each.Given as goal

abbrev pub invariant-loop-i : goal.invariant-loop-i
invariant-loop-i l =
    (l.accepted ≤ l.i) × (length l.extents ≡ length l.initial.extents) × (length l.starts ≡ length l.initial.starts) × (length l.files ≡ length
    l.initial.files) × Going (Called l.tag l.name) (codeds l.codes l.ids l.numbers)
    (calling l.initial.plan l.initial.extents l.initial.starts l.initial.files 0 (Ok None)) (codeds (drop l.i l.codes) (drop l.i l.ids) (drop l.i l.numbers))
    (calling l.plan l.extents l.starts l.files l.accepted l.last)
