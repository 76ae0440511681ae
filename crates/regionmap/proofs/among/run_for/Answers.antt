-- `regionmap::among::run_for` meets its contract.
use Rattle.std.proofs.Common.{rules}
use Rattle.regionmap.proofs.RunRecords.{empty_read, found_read, none_read}
use Rattle.regionmap.proofs.among.run_for.Goals as goal

pub returns-in_default : goal.returns-in_default
returns-in_default c = empty_read _ _ (search rules)

pub returns-then-pos-run : goal.returns-then-pos-run
returns-then-pos-run c = rw c.in-Some.ensures.cases.0 (none_read _ _ _ _ c.find_run.ensures (rw (← c.in-Some.ensures.cases.0) c.if-pos-run.true))

pub returns : goal.returns
returns c = rw c.in-Some.ensures.cases.0 (found_read _ _ _ _ c.find_run.ensures (rw (← c.in-Some.ensures.cases.0) c.if-pos-run.false))
