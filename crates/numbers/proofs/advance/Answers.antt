-- `numbers::advance` meets its contract: the step is shifted by one bit or by none.
use native.Mathlib.Omega.{arith}
use Rattle.numbers.proofs.Halving.{one_bit, shifted}
use Rattle.numbers.proofs.advance.Goals as goal

pub overflow_shl-more : goal.overflow_shl-more
overflow_shl-more c = one_bit c.args.up

pub overflow_sub-more : goal.overflow_sub-more
overflow_sub-more c = let s = shifted c.args.up c.args.step (omega (arith, c.if-step-gt-HALF.false)) in omega (arith, s.0)

pub overflow_add-result : goal.overflow_add-result
overflow_add-result c = let s = shifted c.args.up c.args.step (omega (arith, c.if-step-gt-HALF.false)) in omega (arith, s.0, s.1, c.if-lo-gt-HALF.false, c.if-step-gt-HALF.false)

pub returns : goal.returns
returns c = let s = shifted c.args.up c.args.step (omega (arith, c.if-step-gt-HALF.false)) in omega (arith, s.0, s.1, c.if-lo-gt-HALF.false, c.if-step-gt-HALF.false)
