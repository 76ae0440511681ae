-- The rows are turned one by one, and the rest stays.
use Rattle.std.proofs.Common.{rules, ◌≡◌, length}
use Rattle.flat.specs.Flat.{flat_row, flat_accounts}
use Rattle.flat.proofs.Turning.{turned}
use Rattle.flat.proofs.FlatAccountingFromAccounting.from.Goals as goal

pub returns : goal.returns
unfolding flat_accounts
returns c =
    let l : length c.args.accounts.rows ≡ 96 = search rules in
    rw (← turned flat_row _ _ l c.loop-i.invariant.long c.loop-i-test.false c.loop-i.invariant.turned, ← c.loop-i.invariant.count, ← c.loop-i.invariant.reserved)
