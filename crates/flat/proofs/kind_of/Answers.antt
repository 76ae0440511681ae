use mathlib.Core.Path.{ap, ◌∙◌}
use Rattle.footprint.specs.Footprint.{kind_in}
use Rattle.footprint.specs.declared.RegionKind.TheVariants.{Append}
use Rattle.std.specs.Result.{result_unwrap_or}
use Rattle.flat.proofs.Turning.{kind_told}
use Rattle.flat.proofs.kind_of.Goals as goal

pub returns : goal.returns
returns c = c.unwrap_or.ensures ∙ ap (λ r. result_unwrap_or r Append) (c.try_from.ensures ∙ ap kind_in c.from.ensures) ∙ kind_told c.args.code
