-- `exports::fundravai_check_region` meets its contract: the records are put together, and the answer is told.
use Rattle.std.proofs.Common.{length, refl, ap}
use Rattle.exports.proofs.Told.{checked_flat, usable}
use Rattle.exports.proofs.fundravai_check_region.Goals as goal

pub returns-in-Ok : goal.returns-in-Ok
returns-in-Ok c =
    let r = c.in-Ok.ensures.checked in
    rw (← c.limits_of-limits.ensures, ← c.entry_of-entry.ensures, ← c.header_of-header.ensures)
    (checked_flat _ _ _ _ _ _ _ _ _ _ _ r.answer c.tell.ensures (rw (usable c.in-Ok.extra) (ap length r.filled)))

pub returns-in-Err : goal.returns-in-Err
returns-in-Err c =
    rw (← c.limits_of-limits.ensures, ← c.entry_of-entry.ensures, ← c.header_of-header.ensures)
    (checked_flat _ _ _ _ _ _ _ _ _ _ _ c.in-Err.ensures.checked (record { number = c.number.ensures; handed = refl }) refl)
