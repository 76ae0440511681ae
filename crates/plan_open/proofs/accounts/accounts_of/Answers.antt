-- `plan_open::accounts::accounts_of` meets its contract: the lists stand for the usages of the records, the last first.
use lib.ListN.{length-map}
use Rattle.plan_record.specs.Record.{record_of}
use Rattle.plan_open.proofs.Usages.{posted}
use Rattle.plan_open.proofs.accounts.accounts_of.Goals as goal

pub list_usage-requires : goal.list_usage-requires
list_usage-requires c = let h = c.requires.1 in (c.requires.0, record { few = h; for_tags = h; for_logical = h; for_physical = h })

pub returns : goal.returns
returns c = posted c.list_usage.ensures _ (length-map c.args.records.now record_of) c.requires.1 _ c.from_usage.ensures
