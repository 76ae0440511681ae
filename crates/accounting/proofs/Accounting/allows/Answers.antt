-- `accounting::Accounting::allows` meets its contract: a known row is asked; an unknown one has no cap, and no room behind 96 others.
use native.Mathlib.Omega.{arith}
use Rattle.accounting.proofs.Handing.{allows_asked, asks_known, allows_full, allows_room}
use Rattle.accounting.proofs.Accounting.allows.Goals as goal

pub returns-in-Ok : goal.returns-in-Ok
returns-in-Ok c = allows_asked _ _ _ 0 _ (asks_known _ _ _ _ c.in-Ok.ensures _ c.fits.ensures)

pub returns-in-Err : goal.returns-in-Err
returns-in-Err c = allows_full _ _ _ _ c.in-Err.ensures (omega arith)

pub returns-in-Err-2 : goal.returns-in-Err-2
returns-in-Err-2 c = allows_room _ _ _ _ c.in-Err-2.ensures (omega arith)
