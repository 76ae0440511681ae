-- `plan_settled::lay::lay` meets its contract: both header blocks, and the committed extents behind them.
use Rattle.std.proofs.Common.{arith, ◌+◌, ◌≤◌, ◌∙◌, length, length-set}
use Rattle.numbers.proofs.Copying.{copied_rest}
use Rattle.plan_record.specs.Record.{record_of}
use Rattle.plan_record.proofs.Holding.{block_small}
use Rattle.plan_settled.proofs.Laying.{headed, laid}
use Rattle.plan_settled.proofs.lay.lay.Goals as goal

pub returns : goal.returns
returns c =
    let r = record_of c.args.one in
    let own = c.args.own.now in
    let four = headed c.args.limits r own c.block_of-block.result c.args.s.now in
    let l : length four ≤ length own + 4 = simp length-set (omega (arith, c.requires.1, c.requires.2)) in
    laid c.args.limits r own c.block_of-block.result c.args.s.now _
    (block_small c.block_of-block.ensures.0 (omega (arith, c.requires.0))) c.requires.1 c.requires.2 (c.copy.ensures ∙ copied_rest own four 4 l)
