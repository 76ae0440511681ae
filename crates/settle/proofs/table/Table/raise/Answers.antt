-- `settle::table::Table::raise` meets its contract. The invariant is `Raising`.
use native.Mathlib.Omega.{arith}
use Rattle.settle.proofs.Tree.{raise_begins, raise_on, raise_tree, raise_ends}
use Rattle.settle.proofs.table.Table.raise.Goals as goal

pub loop-n-init : goal.loop-n-init
loop-n-init c = raise_begins _ _ c.self.invariant c.requires

pub loop-n-preserved : goal.loop-n-preserved
loop-n-preserved c = raise_on c.loop-n.invariant c.loop-n-test.true c.if-self-n.false

pub invariant_of-self : goal.invariant_of-self
invariant_of-self c = raise_tree c.loop-n.invariant (λ p. absurd (omega (arith, p, c.loop-n-test.false)))

pub invariant_of-self-then-self-n : goal.invariant_of-self-then-self-n
invariant_of-self-then-self-n c = raise_tree c.loop-n.invariant (λ _. c.if-self-n.true)

pub returns-then-self-n : goal.returns-then-self-n
returns-then-self-n c = rw (← c.self.view_is) (raise_ends c.loop-n.invariant (λ _. c.if-self-n.true))

pub returns : goal.returns
returns c = rw (← c.self.view_is) (raise_ends c.loop-n.invariant (λ p. absurd (omega (arith, p, c.loop-n-test.false))))
