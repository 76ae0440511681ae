-- `plan_open::build::build` meets its contract: the parts of the plan make up the world.
use Rattle.plan_open.proofs.Whole.{build_few, build_log, build_fits, built}
use Rattle.plan_open.proofs.build.build.Goals as goal

pub fill-requires : goal.fill-requires
fill-requires c = (build_few c.requires, build_fits c.requires)

pub accounts_of-requires : goal.accounts_of-requires
accounts_of-requires c = (build_log c.requires, build_few c.requires)

pub returns : goal.returns
returns c = built c.requires c.fill.ensures _ c.highest_seq.ensures c.accounts_of.ensures
