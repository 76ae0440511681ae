use mathlib.Core.Path.{sym}
use native.Mathlib.Omega.{arith}
use borrow.Author.Rules.{rules}
use Rattle.accounting.proofs.Handing.{inserted_many, inserted_full, inserted_room}
use Rattle.accounting.proofs.Shifting.{rows_shifted}
use Rattle.accounting.proofs.Accounting.insert.Goals as goal

pub returns-then-count-gt-MOST : goal.returns-then-count-gt-MOST
returns-then-count-gt-MOST c = sym (inserted_many _ _ _ c.if-count-gt-MOST.true)

pub returns-then-count-eq-MOST : goal.returns-then-count-eq-MOST
returns-then-count-eq-MOST c = sym (inserted_full _ _ _ c.if-count-eq-MOST.true)

pub returns : goal.returns
returns c =
    let h = c.if-count-gt-MOST.false in
    let d = c.if-count-eq-MOST.false in
    let a = c.args.self.now in
    rw (c.copy_within.ensures.after, rows_shifted a.rows a.count c.args.at c.args.row c.requires (search rules))
    (sym (inserted_room _ _ _ (omega arith)))
