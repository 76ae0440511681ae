-- `freemap::FreeMap::first_fit` meets its contract: each refusal in order, then the search in the gaps that the record counts.
use Rattle.std.proofs.Common.{rules, ◌≡◌, true, sym, ◌∙◌, arith}
use Rattle.numbers.specs.Powers.{is_power_of_two}
use Rattle.numbers.specs.Refusals.{told, refused}
use Rattle.align.proofs.Least.{power_pos}
use Rattle.freemap.proofs.Reading.{fit_few, fit_no_power, fit_searched, unmasked}
use Rattle.freemap.proofs.FreeMap.first_fit.Goals as goal
use Rattle.freemap.proofs.FreeMap.first_fit.Goals.{Else-not-is_power_of_two}

power : (c : Else-not-is_power_of_two) → is_power_of_two c.args.align ≡ true
power c = sym c.is_power_of_two.ensures ∙ c.if-not-is_power_of_two.false

pub returns-in_err-gaps : goal.returns-in_err-gaps
returns-in_err-gaps c = let e : told c.from_residual.result ≡ refused 1 = search rules in e ∙ fit_few _ _ _ _ _ c.in_err-gaps.ensures.0

pub returns-then-not-is_power_of_two : goal.returns-then-not-is_power_of_two
returns-then-not-is_power_of_two c = fit_no_power _ _ _ _ _ c.in_ok-gaps.ensures.0 (sym c.is_power_of_two.ensures ∙ c.if-not-is_power_of_two.true)

pub overflow_sub-align : goal.overflow_sub-align
overflow_sub-align c = omega (arith, power_pos 64 _ (power (goal.at.overflow_sub-align c).Else-not-is_power_of_two))

pub search-requires : goal.search-requires
search-requires c = rw (unmasked _ (power (goal.at.search-requires c).Else-not-is_power_of_two)) (power (goal.at.search-requires c).Else-not-is_power_of_two)

pub returns : goal.returns
returns c = let k = c.in_ok-gaps.ensures in fit_searched _ _ _ _ _ k.0 (power (goal.at.returns c).Else-not-is_power_of_two) _ (rw (sym k.1) c.search.ensures)
