use Rattle.std.proofs.Common.{length, take, map, ◌≡◌}
use Rattle.flat.specs.Flat.{flat_row}
use Rattle.flat.proofs.FlatAccountingFromAccounting.from.Given as goal

abbrev pub invariant-loop-i : goal.invariant-loop-i
invariant-loop-i l = record {
  long : length l.flat.rows ≡ 96;
  count : l.flat.count ≡ l.accounts.count;
  reserved : l.flat.reserved ≡ l.accounts.reserved;
  turned : take l.i l.flat.rows ≡ map flat_row (take l.i l.accounts.rows);
}
