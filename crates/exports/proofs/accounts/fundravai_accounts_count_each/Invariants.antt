use Rattle.std.proofs.Common.{drop}
use Rattle.accounting.specs.Entries.{usages}
use Rattle.accounting.specs.Table.{leaving}
use Rattle.exports.specs.Each.{Post, unposted}
use Rattle.flat.proofs.Chaining.{Going}
use Rattle.exports.proofs.accounts.fundravai_accounts_count_each.Given as goal

abbrev pub invariant-loop-i : goal.invariant-loop-i
invariant-loop-i l =
    Going (Post l.remove) (usages l.tags l.logical l.physical) (unposted l.initial.accounts)
    (usages (drop l.i l.tags) (drop l.i l.logical) (drop l.i l.physical)) (leaving l.answer l.accounts)
