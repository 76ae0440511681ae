use Rattle.std.proofs.Common.{drop}
use Rattle.accounting.specs.Entries.{usages}
use Rattle.exports.specs.Each.{Post}
use Rattle.flat.proofs.Chaining.{Going}
use Rattle.exports.proofs.accounts.fundravai_accounts_post_each.Given as goal

abbrev pub invariant-loop-i : goal.invariant-loop-i
invariant-loop-i l =
    Going (Post l.remove) (usages l.tags l.logical l.physical) l.initial.posted
    (usages (drop l.i l.tags) (drop l.i l.logical) (drop l.i l.physical)) l.posted
