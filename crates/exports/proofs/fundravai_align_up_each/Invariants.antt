use Rattle.std.proofs.Common.{drop}
use Rattle.exports.specs.Each.{AlignUp}
use Rattle.flat.proofs.Chaining.{Going}
use Rattle.numbers.specs.Pairs.{ranges_in}
use Rattle.exports.proofs.fundravai_align_up_each.Given as goal

abbrev pub invariant-loop-value : goal.invariant-loop-value
invariant-loop-value l = Going AlignUp (ranges_in l.pairs) 0 (drop l.value-index (ranges_in l.pairs)) l.highest
