-- `settle::table::Table::above` meets its contract. The invariant is `Climbed`.
use Prim.Native.Nat.{◌+◌, ◌*◌, ◌/◌}
use mathlib.Core.Path.{sym, ◌∙◌}
use native.Mathlib.Omega.{arith}
use Rattle.settle.proofs.Tree.{Climbed, slots_above, climb_begins, climb_found, climb_on, low_reach}
use Rattle.settle.proofs.table.Table.above.Goals as goal
use Rattle.settle.proofs.table.Table.above.Goals.{In-loop-n}

climbed : (c : In-loop-n) → Climbed c.self.inside.slots c.args.rank c.args.x c.loop-n.n
climbed c = rw c.self.view_is c.loop-n.invariant

pub returns-then-self-x : goal.returns-then-self-x
returns-then-self-x c = rw (← c.self.view_is) (sym (low_reach c.self.invariant (c.args.rank + 1) _ c.if-self-x.true))

pub loop-n-init : goal.loop-n-init
loop-n-init c = rw (← c.self.view_is) (climb_begins _ _ _ c.self.invariant c.requires)

pub returns-then-some_above : goal.returns-then-some_above
returns-then-some_above c =
    let n = c.loop-n.n in
    rw (← c.self.view_is)
    (sym (climb_found (climbed (goal.at.returns-then-some_above c).In-loop-n) c.loop-n-test.true
    (sym (c.some_above.ensures ∙ slots_above c.self.inside.slots (n + 1) (n / 16 * 16 + 16) _ (omega arith)) ∙ c.if-some_above.true)))

pub loop-n-preserved : goal.loop-n-preserved
loop-n-preserved c =
    let n = c.loop-n.n in
    rw (← c.self.view_is)
    (climb_on (climbed (goal.at.loop-n-preserved c).In-loop-n) c.loop-n-test.true
    (sym (c.some_above.ensures ∙ slots_above c.self.inside.slots (n + 1) (n / 16 * 16 + 16) _ (omega arith)) ∙ c.if-some_above.false))
