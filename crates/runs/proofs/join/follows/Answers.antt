-- `runs::join::follows` meets its contract: each return is the case of `joins` that its tests chose.
use Prim.Native.Nat.{◌+◌, ◌≤◌}
use mathlib.Core.Bool.{not}
use mathlib.Core.Path.{◌≡◌, ap, ◌∙◌}
use native.Mathlib.Omega.{arith}
use borrow.Author.Tests.{eq-eqb, ne_eqb, le-leb}
use Rattle.runs.specs.Runs.{joins}
use Rattle.numbers.specs.Sums.{top}
use Rattle.numbers.proofs.Cases.{not_above}
use Rattle.runs.proofs.join.follows.Goals as goal

pub returns-in_default : goal.returns-in_default
unfolding joins
returns-in_default c = let a = c.args in
    let d : a.file + a.len ≡ a.next → ⊥ = λ e. absurd (omega (arith, c.in_default.ensures, c.ranges.next.fits)) in
    simp (ne_eqb _ _ d)

pub returns-then-end-next : goal.returns-then-end-next
unfolding joins
returns-then-end-next c = let a = c.args in
    let s = c.in-Some.ensures in
    let t = c.if-end-next.true in
    let e : a.file + a.len ≡ a.next = omega (arith, s.1) in
    let b : a.file + a.len ≤ top = omega (arith, s.0) in
    ap not c.passes.ensures ∙ simp (eq-eqb _ _ e, le-leb _ _ b) (not_above (a.len + a.more) top)

pub returns-else-end-next : goal.returns-else-end-next
unfolding joins
returns-else-end-next c = let a = c.args in
    let s = c.in-Some.ensures in
    let t = c.if-end-next.false in
    let d : a.file + a.len ≡ a.next → ⊥ = λ e. t (omega (arith, s.1)) in
    let n : c.in-Some.end ≡ a.next → ⊥ = t in
    simp (ne_eqb _ _ d, ne_eqb _ _ n)
