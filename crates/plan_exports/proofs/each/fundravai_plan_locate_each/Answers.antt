use Prim.Native.Nat.{ℕ, ◌+◌}
use mathlib.Core.Path.{refl, ap}
use native.Mathlib.Omega.{arith}
use lib.Dec.{eqb}
use lib.ListN.{length-set}
use borrow.Author.Rules.{rules}
use Rattle.plan_exports.specs.Each.{Locate}
use Rattle.flat.proofs.Chaining.{bit_is, bit_low, going_on}
use Rattle.plan_exports.proofs.Chaining.{askeds_next}
use Rattle.plan_exports.proofs.each.fundravai_plan_locate_each.Goals as goal

pub loop-i-preserved : goal.loop-i-preserved
loop-i-preserved c =
    let v = c.loop-i.invariant in
    let b = bit_low (eqb c.from-told.result.kind 1) in (
      omega (arith, v.0, b),
      simp length-set v.1,
      going_on (Locate _ _ _ _) _ _ v.2 (askeds_next c.args.ids.now c.args.positions.now c.loop-i.i (search rules))
          (record {
            reply = c.locate.result;
            promise = c.locate.ensures;
            bytes = rw (← c.from-told.ensures) refl;
            next = refl;
            count = rw (← c.from-told.ensures) (ap (λ (k : ℕ). c.loop-i.located + k) (bit_is (eqb c.from-told.result.kind 1)));
          }),
    )
