-- `regionmap::among::locate_among` meets its contract: each return is a case of `among`.
use Rattle.std.proofs.Common.{rules, arith, refl, sym, lt-ltb, le-ltb, Fits, w64}
use mathlib.Core.Bool.{or-true}
use Rattle.regionmap.proofs.RunRecords.{among_many, among_past, among_across, among_at, among_fits}
use Rattle.regionmap.proofs.among.locate_among.Goals as goal
use Rattle.regionmap.proofs.among.locate_among.Goals.{then-end_passed-via-then-end_passed, then-end_passed-via-else-end_passed+then-passes}

pub returns-then-runs : goal.returns-then-runs
returns-then-runs c = among_many _ _ _ _ (lt-ltb _ _ c.if-runs.true)

pub returns-then-end_passed : goal.returns-then-end_passed
returns-then-end_passed c =
    among_past _ _ _ _ (le-ltb _ _ c.if-runs.false)
    (elim c.then-end_passed.branch [
      | then-end_passed-via-then-end_passed w ↦ rw (sym c.end_passed.ensures, w.if-end_passed.true) refl
      | then-end_passed-via-else-end_passed+then-passes w ↦ rw (sym w.passes.ensures, w.if-passes.true) (or-true _)
    ])

pub returns-then-pos-n : goal.returns-then-pos-n
returns-then-pos-n c = among_across _ _ _ _ (le-ltb _ _ c.if-runs.false) (search rules) _ c.run_for-run.ensures (lt-ltb _ _ (rw (← c.in_file.ensures) c.if-pos-n.true))

pub overflow_add-result : goal.overflow_add-result
overflow_add-result c =
    let f : Fits w64 c.run_for-run.result.file = search rules in
    let b = among_fits _ c.args.len _ c.args.n (le-ltb _ _ c.if-runs.false) (search rules) _ c.run_for-run.ensures (le-ltb _ _ (rw (← c.in_file.ensures) c.if-pos-n.false)) (omega (arith, f)) in
    omega (arith, b)

pub returns : goal.returns
returns c = among_at _ _ _ _ (le-ltb _ _ c.if-runs.false) (search rules) _ c.run_for-run.ensures (le-ltb _ _ (rw (← c.in_file.ensures) c.if-pos-n.false))
