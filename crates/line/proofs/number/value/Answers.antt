use Rattle.std.proofs.Common.{◌∙◌, sym, arith}
use Rattle.line.proofs.Parts.{value_next, value_over, value_whole}
use Rattle.line.proofs.number.value.Goals as goal

pub returns-in_err-value : goal.returns-in_err-value
returns-in_err-value c = rw (c.from_residual.ensures) (value_over _ _ _ c.loop-digit-test.true c.loop-digit.invariant.rest c.in_err-value.ensures)

pub loop-digit-preserved : goal.loop-digit-preserved
loop-digit-preserved c =
    record {
      rest = rw (c.in_ok-value.ensures.1) (sym (value_next _ _ _ c.loop-digit-test.true) ∙ c.loop-digit.invariant.rest);
      fits = rw (c.in_ok-value.ensures.1) c.in_ok-value.ensures.0;
    }

pub returns : goal.returns
returns c = let e = value_whole _ _ _ c.loop-digit-test.false c.loop-digit.invariant.rest in let f = c.loop-digit.invariant.fits in (omega (arith, e, f), e)
