use Rattle.std.proofs.Common.{length, take, map, ◌≡◌}
use Rattle.flat.specs.Flat.{row_from}
use Rattle.flat.proofs.AccountingFromFlatAccounting.from.Given as goal

abbrev pub invariant-loop-i : goal.invariant-loop-i
invariant-loop-i l = record {
  long : length l.accounts.rows ≡ 96;
  turned : take l.i l.accounts.rows ≡ map row_from (take l.i l.flat.rows);
}
