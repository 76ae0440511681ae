-- `accounting::Accounting::ask` meets its contract: a known row is asked, and a new one, which has no cap, put in.
use Rattle.std.proofs.Common.{rules, ◌≡◌, true}
use Rattle.accounting.specs.Table.{answering}
use Rattle.accounting.proofs.Handing.{asks_known, asks_unknown}
use Rattle.accounting.proofs.Accounting.ask.Goals as goal

pub returns-in-Ok : goal.returns-in-Ok
returns-in-Ok c = asks_known _ _ _ _ c.in-Ok.ensures _ c.fits.ensures

pub returns-in-Err : goal.returns-in-Err
returns-in-Err c =
    let e : c.map.result ≡ answering true c.insert.result = search rules in
    rw e (asks_unknown _ _ _ _ c.in-Err.ensures _ c.blank.ensures _ c.insert.ensures)
