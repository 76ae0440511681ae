use Rattle.std.proofs.Common.{drop}
use Rattle.exports.specs.Each.{CountRow}
use Rattle.flat.proofs.Chaining.{Going}
use Rattle.numbers.specs.Pairs.{ranges_in}
use Rattle.exports.proofs.accounts.fundravai_row_add_each.Given as goal

abbrev pub invariant-loop-logical : goal.invariant-loop-logical
invariant-loop-logical l = Going CountRow (ranges_in l.usages) l.initial.row (drop l.logical-index (ranges_in l.usages)) l.row
