-- More than 64 records are refused, and others are opened.
use native.Mathlib.Omega.{arith}
use Rattle.flat_plan.proofs.Many.{opens_many}
use Rattle.flat_plan.proofs.opening.open.Goals as goal

pub returns-then-flat-gt64 : goal.returns-then-flat-gt64
returns-then-flat-gt64 c = opens_many _ _ _ _ _ _ _ _ c.if-flat-gt64.true c.blank.ensures

pub returns : goal.returns
returns c = rw (← c.records_from-given.ensures (omega (arith, c.if-flat-gt64.false))) c.open.ensures
