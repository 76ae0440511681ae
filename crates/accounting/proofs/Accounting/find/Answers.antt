-- `accounting::Accounting::find` meets its contract: a row in front of those with higher tags has this one, or none has.
use mathlib.Core.Path.{◌≡◌}
use native.Mathlib.Omega.{arith}
use Rattle.accounting.proofs.Tables.{sought_none, known, belongs}
use Rattle.accounting.proofs.Accounting.find.Goals as goal

pub returns-then-self-gt-MOST : goal.returns-then-self-gt-MOST
returns-then-self-gt-MOST c = sought_none _ _ c.if-self-gt-MOST.true

pub returns-then-at-eq0 : goal.returns-then-at-eq0
returns-then-at-eq0 c =
    let e : c.up_to-at.result ≡ 0 = omega arith in
    belongs _ _ (omega arith) 0 (rw e at c.up_to-at.ensures) (λ h. absurd (omega arith))

pub returns-then-self-at : goal.returns-then-self-at
returns-then-self-at c = belongs _ _ (omega arith) _ c.up_to-at.ensures (λ h. c.if-self-at.true)

pub returns : goal.returns
returns c = known _ _ (omega arith) _ c.up_to-at.ensures (omega arith) c.if-self-at.false
