-- The records are turned, over 64 blank ones.
use Rattle.flat_plan.specs.Record.{record_from}
use Rattle.flat_plan.proofs.Alike.{turned_front}
use Rattle.flat_plan.proofs.record.records_from.Goals as goal

pub returns : goal.returns
returns c h = turned_front record_from _ _ _ c.turn.ensures h (λ x y e. e)
