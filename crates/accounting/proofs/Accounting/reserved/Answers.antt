-- `accounting::Accounting::reserved` meets its contract: it is the total of the table.
use mathlib.Core.Path.{refl}
use Rattle.accounting.specs.Table.{table_of}
use Rattle.accounting.proofs.Accounting.reserved.Goals as goal

pub returns : goal.returns
unfolding table_of
returns c = refl
