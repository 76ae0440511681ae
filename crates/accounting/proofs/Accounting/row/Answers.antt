-- `accounting::Accounting::row` meets its contract: the row that was found, or a blank one.
use Rattle.std.proofs.Common.{sym, ◌∙◌}
use Rattle.accounting.proofs.Handing.{found_row, no_row}
use Rattle.accounting.proofs.Accounting.row.Goals as goal

pub returns-in-Ok : goal.returns-in-Ok
returns-in-Ok c = λ v. sym (found_row _ v _ _ c.in-Ok.ensures)

pub returns-in-Err : goal.returns-in-Err
returns-in-Err c = λ v. c.blank.ensures ∙ sym (no_row _ v _ _ c.in-Err.ensures)
