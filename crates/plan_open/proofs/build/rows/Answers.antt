-- `plan_open::build::rows` meets its contract: the call at i makes the region of row i.
use Rattle.std.proofs.Common.{rules, ◌≡◌, get_or, ap}
use Rattle.plan_record.specs.Plan.{blank_region, past_region}
use Rattle.plan_record.specs.declared.Region.{Region}
use Rattle.plan_open.proofs.build.rows.Goals as goal

pub returns : goal.returns
returns c =
    record {
      full = search rules;
      row =
          λ i h.
          let t = c.from_fn.ensures.items.at i past_region h in
          let e : get_or c.from_fn.result i past_region ≡ blank_region i = search rules in
          ap (λ (r : Region). r.row) e;
    }
