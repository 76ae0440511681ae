-- `numbers::is_power_of_two` meets its contract: the bits tell (proofs/Powers).
use mathlib.Core.Path.{◌∙◌, sym, ap}
use native.Mathlib.Omega.{arith}
use Rattle.numbers.specs.Powers.{is_power_of_two}
use Rattle.numbers.proofs.Powers.{zero_no_power, bits_tell}
use Rattle.numbers.proofs.is_power_of_two.Goals as goal

pub returns-then-n-eq0 : goal.returns-then-n-eq0
returns-then-n-eq0 c = sym (ap is_power_of_two c.if-n-eq0.true ∙ zero_no_power 64)

pub returns : goal.returns
returns c = bits_tell 64 c.args.n (omega arith) c.ranges.n.fits
