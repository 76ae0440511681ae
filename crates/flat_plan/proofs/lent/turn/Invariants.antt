use Rattle.flat_plan.proofs.Alike.{Turning}
use Rattle.flat_plan.proofs.lent.turn.Given as goal

abbrev pub invariant-loop-i : goal.invariant-loop-i
invariant-loop-i g l = Turning g.B.From.from_gives l.from l.initial.to l.to l.i
