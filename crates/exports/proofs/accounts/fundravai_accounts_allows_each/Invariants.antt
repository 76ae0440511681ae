use Rattle.std.proofs.Common.{◌≤◌, drop}
use Rattle.exports.specs.Each.{Allow, questions}
use Rattle.flat.proofs.Chaining.{Going}
use Rattle.exports.proofs.accounts.fundravai_accounts_allows_each.Given as goal

abbrev pub invariant-loop-i : goal.invariant-loop-i
invariant-loop-i l =
    (l.fit ≤ l.i) × Going (Allow l.accounts) (questions l.tags l.extra) 0 (questions (drop l.i l.tags) (drop l.i l.extra)) l.fit
