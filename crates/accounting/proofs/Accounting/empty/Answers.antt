-- `accounting::Accounting::empty` meets its contract: ninety-six copies of a blank row.
use mathlib.Core.Path.{refl}
use native.Mathlib.Omega.{arith}
use Rattle.accounting.specs.Entries.{no_tags}
use Rattle.accounting.specs.Table.{accounts_of}
use Rattle.accounting.proofs.Tables.{accounts_valid}
use Rattle.accounting.proofs.Accounting.empty.Goals as goal

pub returns : goal.returns
unfolding accounts_of
returns c = rw c.blank-blank.ensures (refl, accounts_valid no_tags (omega arith) tt)
