-- What is true of a plan's regions.
use mathlib.Core.Path.{sym, subst}
use lib.ListN.{drop, take-append-drop}
use Rattle.numbers.specs.Lists.{All}
use Rattle.plan_record.specs.Plan.{regions_of}
use Rattle.plan_record.specs.declared.Plan.{Plan}
use Rattle.plan_record.specs.declared.Region.{Region}
use Rattle.numbers.proofs.Lists.{all_left}

-- what all 64 have, those that are counted have
pub all_counted : (P : Region → Type 0) (p : Plan) → All P p.regions → All P (regions_of p)
all_counted P p a = all_left P (regions_of p) (drop p.count p.regions) (subst (All P) (sym (take-append-drop p.count p.regions)) a)
