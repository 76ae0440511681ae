-- `regionmap::meets` meets its contract: a run ends at a byte exactly where their distance is its length.
use Prim.Native.Nat.{◌-◌, ◌+◌}
use mathlib.Core.Path.{sym, ◌∙◌}
use native.Mathlib.Omega.{arith}
use borrow.Author.Tests.{eq-eqb, ne_eqb}
use Rattle.numbers.proofs.Cases.{by_eq}
use Rattle.regionmap.proofs.meets.Goals as goal

pub returns-then-file-at : goal.returns-then-file-at
returns-then-file-at c = let a = c.args in sym (ne_eqb (a.at + a.len) _ (λ e. absurd (omega (arith, c.if-file-at.true))))

pub returns : goal.returns
returns c = let a = c.args in by_eq (a.at + a.len) _ (λ e. eq-eqb (a.file - a.at) _ (omega (arith, c.if-file-at.false, e)) ∙ sym (eq-eqb _ _ e))
    (λ d. ne_eqb (a.file - a.at) _ (λ e. d (omega (arith, c.if-file-at.false, e))) ∙ sym (ne_eqb _ _ d))
