use mathlib.Core.Path.{refl}
use native.Mathlib.Omega.{arith}
use Rattle.plan_record.proofs.Naming.{named_told}
use Rattle.plan_record.proofs.Plan.named.Goals as goal

pub returns-then-name-gt24 : goal.returns-then-name-gt24
returns-then-name-gt24 c = record { told = λ l. absurd (omega arith); long = λ l. refl }

pub returns : goal.returns
returns c = named_told c.args.self.now _ _ _ c.counted.ensures.0 c.any_named.ensures (omega arith)
