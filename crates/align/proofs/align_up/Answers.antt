-- `align::align_up` meets its contract: each return is the case of `align_up` that its tests chose.
use Prim.Native.Nat.{◌+◌, ◌-◌, ◌≤◌, ◌<◌}
use mathlib.Core.Bool.{true}
use mathlib.Core.Path.{◌≡◌, ◌∙◌, sym}
use native.Mathlib.Omega.{arith}
use lib.Bits.{and_le_l}
use borrow.Author.Tests.{le-leb, lt-leb}
use Rattle.align.specs.Align.{align_up}
use Rattle.numbers.specs.Powers.{is_power_of_two}
use Rattle.numbers.specs.Sums.{top}
use Rattle.align.proofs.Least.{power_pos, masked}
use Rattle.align.proofs.align_up.Goals as goal
use Rattle.align.proofs.align_up.Goals.{Else-not-is_power_of_two}

power : (c : Else-not-is_power_of_two) → is_power_of_two c.args.align ≡ true
power c = sym c.is_power_of_two.ensures ∙ c.if-not-is_power_of_two.false

pub returns-then-not-is_power_of_two : goal.returns-then-not-is_power_of_two
unfolding align_up
returns-then-not-is_power_of_two c = simp (sym c.is_power_of_two.ensures ∙ c.if-not-is_power_of_two.true)

pub overflow_sub-mask : goal.overflow_sub-mask
overflow_sub-mask c = omega (arith, power_pos 64 _ (power (goal.at.overflow_sub-mask c).Else-not-is_power_of_two))

pub returns-then-reach-from : goal.returns-then-reach-from
unfolding align_up
returns-then-reach-from c =
    let a = c.args in
    let h : top < a.value + (a.align - 1) = omega arith in
    simp (power (goal.at.returns-then-reach-from c).Else-not-is_power_of_two, lt-leb _ _ h)

pub overflow_sub-result : goal.overflow_sub-result
overflow_sub-result c = and_le_l _ _

pub returns : goal.returns
unfolding align_up
returns c =
    let a = c.args in
    let h : a.value + (a.align - 1) ≤ top = omega (arith, c.from.ensures, c.from-2.ensures, c.from-3.ensures, c.if-reach-from.false) in
    let p = power (goal.at.returns c).Else-not-is_power_of_two in
    rw (c.from.ensures, c.from-2.ensures) (simp (p, le-leb _ _ h, masked 64 _ p))
