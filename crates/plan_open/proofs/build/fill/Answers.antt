-- `plan_open::build::fill` meets its contract: the first records stand in their rows.
use Rattle.std.proofs.Common.{rules}
use Rattle.plan_open.proofs.Placing.{place_begins, place_fit, place_parts, place_on, place_ended}
use Rattle.plan_open.proofs.build.fill.Goals as goal

pub loop-i-init : goal.loop-i-init
loop-i-init c = place_begins _ _ _ _ _ _ _ _ _ (search rules) (search rules) (search rules) c.requires.0 c.requires.1 c.rows-regions.ensures

pub fill_row-region-requires : goal.fill_row-region-requires
fill_row-region-requires c =
    let g = c.loop-i.invariant in
    let s = c.in-Some.ensures.steps in
    let p = place_parts g s.0 _ s.1 in
    (place_fit g s.0 _ s.1, p.0, p.1, p.2)

pub loop-i-preserved : goal.loop-i-preserved
loop-i-preserved c =
    let s = c.in-Some.ensures.steps in
    let a = c.fill_row-region.auto in
    place_on c.loop-i.invariant s.0 _ s.1 _ _ _ a.extents a.starts a.files _ c.fill_row-region.ensures _ s.2

pub returns : goal.returns
returns c = place_ended c.loop-i.invariant c.in-None.ensures.steps.0
