-- `plan_settled::fields::list_fields` meets its contract: the fields of the first i records are listed.
use Rattle.std.proofs.Common.{refl, arith}
use Rattle.plan_settled.proofs.Listing.{fields_on, fields_end}
use Rattle.plan_settled.proofs.fields.list_fields.Goals as goal

pub loop-i-init : goal.loop-i-init
loop-i-init c = record { all_seqs = refl; all_counts = refl; all_lens = refl; all_names = refl; wide = tt }

pub loop-i-preserved : goal.loop-i-preserved
loop-i-preserved c =
    let h = c.loop-i-test.true in
    let r = c.requires in
    fields_on _ _ _ h c.loop-i.invariant (omega (arith, h, r.0)) (omega (arith, h, r.1))
    (omega (arith, h, r.2)) (omega (arith, h, r.3)) _ c.name_of.ensures

pub returns : goal.returns
returns c = fields_end _ _ c.loop-i-test.false c.loop-i.invariant
