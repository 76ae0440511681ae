use mathlib.Core.Path.{ap, ◌∙◌}
use Rattle.tagspace.specs.declared.TagSpace.{TagSpace}
use Rattle.plan_record.proofs.Plan.logical.Goals as goal

pub returns : goal.returns
returns c = record { told = λ xs ss fs v. ap (λ (r : TagSpace). r.logical) (c.row.ensures v.accounts ∙ v.accounted _) }
