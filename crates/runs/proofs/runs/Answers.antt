-- `runs::runs` meets its contract: refusal 1 by its test, and the runs as `join` writes them.
use Rattle.std.proofs.Common.{rules, ◌≡◌, ap, sym, ◌∙◌, length}
use Rattle.numbers.specs.Refusals.{told}
use Rattle.numbers.proofs.Chunks.{length_ranges}
use Rattle.numbers.specs.Refusals.{refused}
use Rattle.runs.proofs.Joining.{runs_refused, runs_accepted, odd_fails, short_fails, enough}
use Rattle.runs.proofs.runs.Goals as goal

pub returns-in_err-pairs : goal.returns-in_err-pairs
returns-in_err-pairs c =
    let e : told c.from_residual.result ≡ refused 1 = search rules in
    rw e (runs_refused (odd_fails _ _ _ _ c.in_err-pairs.ensures.0))

pub returns-then-starts-n : goal.returns-then-starts-n
returns-then-starts-n c = let k = c.in_ok-pairs.ensures in runs_refused (short_fails _ _ _ _ _ (ap length (sym k.1) ∙ length_ranges _) k.0 c.then-starts-n.either)

pub returns : goal.returns
returns c = let k = c.in_ok-pairs.ensures in runs_accepted (enough _ _ _ _ _ (ap length (sym k.1) ∙ length_ranges _) k.0 c.if-starts-n.false
    c.if-files-n.false c.if-lens-n.false) (rw (sym k.1) c.join.ensures)
