use Rattle.std.proofs.Common.{◌≤◌, drop, length}
use Rattle.exports.specs.Each.{Ask, asking, questions}
use Rattle.flat.proofs.Chaining.{Going}
use Rattle.exports.proofs.accounts.fundravai_accounts_fits_each.Given as goal

abbrev pub invariant-loop-tag : goal.invariant-loop-tag
invariant-loop-tag l =
    (l.fit ≤ length l.yielded)
    × Going Ask (questions l.tags l.extra) (asking l.initial.asked 0)
    (questions (drop (length l.yielded) l.tags) (drop (length l.yielded) l.extra)) (asking l.asked l.fit)
