use mathlib.Core.Path.{◌≡◌, refl, ap}
use borrow.Author.Rules.{rules}
use Rattle.std.specs.Prelude.{Err, Ok}
use Rattle.numbers.specs.declared.refusal.Refusal.TheVariants.{NoRoom}
use Rattle.plan.proofs.Creating.{create_refused, create_lost, create_no_room, create_never, create_done}
use Rattle.plan.proofs.created.Goals as goal

pub returns-in_err-create_test : goal.returns-in_err-create_test
returns-in_err-create_test c ss fs =
    let e : c.from_residual.result ≡ Err c.in_err-create_test.field-0.0 = search rules in
    rw e (create_refused c.args.plan.now _ ss fs _ _ _ _ c.in_err-create_test.ensures)

pub returns-in_err-place : goal.returns-in_err-place
returns-in_err-place c ss fs =
    let e : c.from_residual-in_err-place.result ≡ Err c.in_err-place.field-0.0 = search rules in
    rw e (create_lost c.args.plan.now _ ss fs _ _ _ c.in_ok-create_test.ensures _ c.block_of-two.ensures.0 _ c.place.ensures.fits _ c.in_err-place.was)

pub returns-in_err-at : goal.returns-in_err-at
returns-in_err-at c ss fs =
    let e : c.from_residual-in_err-at.result ≡ Err NoRoom = search rules in
    rw e (create_no_room c.args.plan.now _ ss fs _ _ _ c.in_ok-create_test.ensures _ c.block_of-two.ensures.0 _ c.in_ok-place.ensures.fits (ap Ok c.in_err-at.ensures.ok_part))

pub returns-in_err-count_usage : goal.returns-in_err-count_usage
returns-in_err-count_usage c ss fs =
    let e : c.from_residual-in_err-count_usage.result ≡ Err c.in_err-count_usage.field-0.0 = search rules in
    rw (e, c.count_usage.ensures.refused _ c.in_err-count_usage.was)
    (create_never c.args.plan.now _ ss fs _ _ _ c.in_ok-create_test.ensures _ c.block_of-two.ensures.0 _ c.in_ok-place.ensures.fits _
    (ap Ok c.in_ok-at.ensures.ok_part) _ c.count_usage.ensures _ c.in_err-count_usage.was)

pub add_region-requires : goal.add_region-requires
add_region-requires c =
    let t = c.in_ok-create_test.ensures in (t.few refl, t.below refl, t.short refl)

pub returns : goal.returns
returns c ss fs =
    create_done c.args.plan.now _ ss fs _ _ _ c.in_ok-create_test.ensures _ c.block_of-two.ensures.0 _ c.in_ok-place.ensures.fits _
    (ap Ok c.in_ok-at.ensures.ok_part) _ c.count_usage.ensures _ c.add_region.ensures
