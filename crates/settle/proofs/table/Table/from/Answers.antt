-- `settle::table::Table::from` meets its contract: the leaf of the rank, or those above it.
use mathlib.Core.Path.{sym, ◌∙◌}
use Rattle.settle.proofs.Tree.{from_here, from_above}
use Rattle.settle.proofs.table.Table.from.Goals as goal

pub returns-then-self-rank : goal.returns-then-self-rank
returns-then-self-rank c = rw (← c.self.view_is) (sym (from_here c.self.invariant _ _ c.requires c.if-self-rank.true))

pub returns : goal.returns
returns c = c.above.ensures ∙ rw (← c.self.view_is) (sym (from_above c.self.invariant _ _ c.requires c.if-self-rank.false))
