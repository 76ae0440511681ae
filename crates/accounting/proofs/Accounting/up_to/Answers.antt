-- `accounting::Accounting::up_to` meets its contract: the invariant is that of a search by halving.
use Prim.Native.Nat.{◌+◌, ◌-◌, ◌/◌}
use native.Mathlib.Omega.{arith}
use lib.Dec.{leb}
use lib.ListN.{get_or, get_or-map}
use Rattle.accounting.specs.Table.{tag_of}
use Rattle.tagspace.specs.Row.{blank}
use Rattle.numbers.proofs.Halving.{halving_on, shifted}
use Rattle.accounting.proofs.Accounting.up_to.Goals as goal

pub loop-n-preserved : goal.loop-n-preserved
loop-n-preserved c =
    let step = c.loop-n.n - c.loop-n.n / 2 in
    let tag = (get_or c.args.self.now.rows (c.loop-n.lo + step - 1) (blank 0)).tag in
    let s = shifted (leb tag c.args.tag) step (omega arith) in
    halving_on c.loop-n.invariant (omega arith) (omega arith) _ (rw (get_or-map tag_of c.args.self.now.rows _ (blank 0)) (omega (arith, s.0, s.1, c.requires)))
