-- `plan_open::open` meets its contract: a refusal changes nothing, and what is built is promised.
use Rattle.std.proofs.Common.{refl}
use Rattle.plan_open.proofs.Answering.{accepts, open_refused, open_accepted}
use Rattle.plan_open.proofs.open.Goals as goal

pub returns-in-Err : goal.returns-in-Err
returns-in-Err c = open_refused _ _ _ c.args.scratch.now _ _ _ _ _ c.places-room.ensures c.in-Err.ensures _ refl _ c.blank.ensures

pub build-requires : goal.build-requires
build-requires c = accepts _ _ _ c.args.scratch.now _ _ _ _ _ c.places-room.ensures c.in-Ok.ensures refl

pub returns-in-Ok : goal.returns-in-Ok
returns-in-Ok c =
    open_accepted _ _ _ c.args.scratch.now _ _ _ _ _ c.places-room.ensures c.in-Ok.ensures refl _ _ _ _ c.build.ensures
