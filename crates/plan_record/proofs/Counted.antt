-- The regions of a plan are as many of its first as it counts.
use Prim.Native.Nat.{ℕ}
use mathlib.Core.List.{List}
use mathlib.Core.Path.{◌≡◌, ap, sym, ◌∙◌}
use native.Mathlib.Omega.{arith}
use lib.ListN.{length, take}
use lib.Seq.{take_all, length-take-le}
use Rattle.plan_record.specs.Plan.{regions_of}
use Rattle.plan_record.specs.declared.Plan.{Plan}
use Rattle.plan_record.specs.declared.Region.{Region}
use Rattle.numbers.proofs.Cases.{by_lt}

front : (c : ℕ) (rs : List Region) → take (length (take c rs)) rs ≡ take c rs
front c rs =
    by_lt c (length rs) (λ l. ap (λ (k : ℕ). take k rs) (length-take-le c rs (omega arith)))
    (λ l. ap (λ (t : List Region). take (length t) rs) (take_all c rs l) ∙ take_all (length rs) rs (omega arith) ∙ sym (take_all c rs l))

pub counted_are : (p : Plan) (n : ℕ) → n ≡ length (regions_of p) → take n p.regions ≡ regions_of p
counted_are p n e = ap (λ (k : ℕ). take k p.regions) e ∙ front p.count p.regions
