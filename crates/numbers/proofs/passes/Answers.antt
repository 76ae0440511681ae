-- `numbers::passes` meets its contract: where limit is at least a, what is left of it is compared with b.
use Prim.Native.Nat.{◌+◌, ◌<◌}
use mathlib.Core.Path.{sym}
use native.Mathlib.Omega.{arith}
use borrow.Author.Tests.{lt-ltb}
use Rattle.numbers.proofs.Cases.{left_over}
use Rattle.numbers.proofs.passes.Goals as goal

pub returns-then-limit-a : goal.returns-then-limit-a
returns-then-limit-a c =
    let a = c.args in
    let h : a.limit < a.a + a.b = omega (arith, c.if-limit-a.true) in
    sym (lt-ltb _ _ h)

pub returns : goal.returns
returns c = let a = c.args in left_over a.limit a.a a.b c.if-limit-a.false
