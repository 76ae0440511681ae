use mathlib.Core.Path.{refl}
use Rattle.plan_record.specs.Plan.{world_of}
use Rattle.plan_record.proofs.Plan.last_number.Goals as goal

pub returns : goal.returns
unfolding world_of
returns c = record { told = λ xs. refl }
