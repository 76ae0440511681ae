-- The rows are turned one by one, and the rest stays.
use Rattle.std.proofs.Common.{rules, ◌≡◌, length}
use Rattle.flat.specs.Flat.{row_from, accounts_from}
use Rattle.flat.proofs.Turning.{turned}
use Rattle.flat.proofs.AccountingFromFlatAccounting.from.Goals as goal

pub returns : goal.returns
unfolding accounts_from
returns c =
    let l : length c.args.flat.rows ≡ 96 = search rules in
    rw (turned row_from _ _ l c.loop-i.invariant.long c.loop-i-test.false c.loop-i.invariant.turned)
