use Rattle.std.proofs.Common.{◌≡◌, ◌≤◌, drop}
use Rattle.line.specs.Reading.{value, value_from}
use Rattle.line.proofs.number.value.Given as goal
use Rattle.numbers.specs.Sums.{top}

-- the digits that are left say the rest of it
abbrev pub invariant-loop-digit : goal.invariant-loop-digit
invariant-loop-digit l = record {
  rest : value_from l.value (drop l.digit-index l.digits) ≡ value l.digits;
  fits : l.value ≤ top;
}
