use mathlib.Core.Path.{refl}
use native.Mathlib.Omega.{arith}
use Rattle.numbers.proofs.Pairs.{length_pairs}
use Rattle.plan_record.proofs.Plan.place.Goals as goal

pub returns-then-extents-lt7680 : goal.returns-then-extents-lt7680
returns-then-extents-lt7680 c = record { fits = record { told = λ ss fs v pos. absurd (omega (arith, v.extents, length_pairs c.args.extents.now)) }; short = λ h. refl }

pub invariant_of-fit_by_count : goal.invariant_of-fit_by_count
invariant_of-fit_by_count c = record { roomy = omega (arith, length_pairs c.args.extents.now, c.if-extents-lt7680.false) }

pub returns : goal.returns
returns c =
    record { fits = c.fit_by_count.ensures; short = λ h. absurd (omega (arith, h, length_pairs c.args.extents.now, c.if-extents-lt7680.false)) }
