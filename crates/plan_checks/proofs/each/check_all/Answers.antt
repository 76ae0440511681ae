-- `plan_checks::each::check_all` meets its contract: no check of the first records fails.
use Rattle.std.proofs.Common.{rules, ◌≡◌, ◌∙◌}
use lib.Seq.{length_front}
use Rattle.numbers.specs.Refusals.{refusal_in, refusal_number}
use Rattle.numbers.proofs.Refusals.{reason_above}
use Rattle.plan_checks.proofs.Checking.{own_room, own_scratch, check_fails, check_on, check_ends, usable_none}
use Rattle.plan_checks.proofs.each.check_all.Goals as goal

pub slice_bounds-fill_footprint-end : goal.slice_bounds-fill_footprint-end
slice_bounds-fill_footprint-end c = own_room c.loop-one.invariant c.in-Some.ensures.steps

pub slice_bounds-fill_footprint-end-in-loop-one : goal.slice_bounds-fill_footprint-end-in-loop-one
slice_bounds-fill_footprint-end-in-loop-one c = own_scratch c.loop-one.invariant c.in-Some.ensures.steps

pub returns-in_err-fill_footprint : goal.returns-in_err-fill_footprint
returns-in_err-fill_footprint c =
    let r : refusal_in c.from_residual.result ≡ refusal_number c.in_err-fill_footprint.field-0.0 = search rules in
    r ∙ check_fails c.loop-one.invariant c.in-Some.ensures.steps c.in_err-fill_footprint.ensures.answer (reason_above _)

pub loop-one-preserved : goal.loop-one-preserved
loop-one-preserved c =
    check_on c.loop-one.invariant c.in-Some.ensures.steps c.in_ok-fill_footprint.ensures.answer
    (usable_none c.in_ok-fill_footprint.field-0)
    _ (length_front c.loop-one.scratch _ _ c.fill_footprint.auto.scratch)

pub returns : goal.returns
returns c = check_ends c.loop-one.invariant c.in-None.ensures.steps
