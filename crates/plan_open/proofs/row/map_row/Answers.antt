-- `plan_open::row::map_row` meets its contract: the extents are mappable, and a row has the room, so that neither call refuses.
use Rattle.plan_open.proofs.Mapping.{row_made, map_never}
use Rattle.plan_open.proofs.row.map_row.Goals as goal

pub returns-in-Ok : goal.returns-in-Ok
returns-in-Ok c =
    let a = c.from_extents.auto in
    rw c.unwrap_or.ensures (row_made _ _ _ _ _ _ c.requires a.starts a.files _ c.in-Ok.ensures _ c.with_room.ensures)

pub returns-in-Err : goal.returns-in-Err
returns-in-Err c =
    let a = c.from_extents.auto in
    map_never _ _ _ _ _ _ c.requires a.starts a.files _ c.in-Err.ensures
