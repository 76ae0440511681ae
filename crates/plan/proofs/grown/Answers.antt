use Prim.Native.Nat.{ℕ, ◌/◌, ◌≤◌, ◌<◌}
use mathlib.Core.Path.{◌≡◌, ap, sym, refl, subst, ◌∙◌}
use native.Mathlib.Omega.{arith}
use lib.ListN.{length}
use borrow.Author.Rules.{rules}
use Rattle.std.specs.Prelude.{IfSome, Option, Err, Ok, Some}
use Rattle.numbers.specs.declared.refusal.Refusal.TheVariants.{Unknown, NoRoom}
use Rattle.plan_record.specs.Plan.{place_in, places}
use Rattle.plan_record.proofs.Places.{found_is}
use Rattle.plan.proofs.Growing.{grows_refused, len-at, grow_unknown, grow_refused, grow_lost, grow_no_room, grow_never, grow_stuck, grow_done}
use Rattle.plan.proofs.Refusing.{long_enough}
use Rattle.plan.proofs.grown.Goals as goal
use Rattle.plan.proofs.grown.Goals.{Start, In_ok-i}

found : (c : In_ok-i) → place_in c.args.plan.now c.args.id ≡ Some c.in_ok-i.i
found c = sym c.find.ensures.place ∙ c.in_ok-i.ensures.ok_part

long : (c : Start) → (places ≤ length c.args.starts.now) × (places ≤ length c.args.files.now) × (3840 ≤ length c.args.extents.now / 2)
long c = long_enough c.args.extents.now c.args.starts.now c.args.files.now c.requires

pub returns-in_err-i : goal.returns-in_err-i
returns-in_err-i c =
    let e : c.from_residual.result ≡ Err Unknown = search rules in
    rw e (grows_refused _ _ _ _ _ c.requires (grow_unknown c.args.plan.now _ _ _ _ (sym c.find.ensures.place ∙ c.in_err-i.ensures.ok_part)))

pub grow_test-requires : goal.grow_test-requires
grow_test-requires c = (
  subst (λ (o : Option ℕ). IfSome o (λ i. i < 64)) c.in_ok-i.ensures.ok_part c.find.ensures.below,
  (found_is c.args.plan.now _ _ (found (goal.at.grow_test-requires c).In_ok-i)).1,
  len-at c.args.plan.now c.in_ok-i.i c.step_at.ensures.0
      c.block_of.ensures.0,
)

pub returns-in_err-grow_test : goal.returns-in_err-grow_test
returns-in_err-grow_test c =
    let e : c.from_residual-in_err-grow_test.result ≡ Err c.in_err-grow_test.field-0.0 = search rules in
    rw e (grows_refused _ _ _ _ _ c.requires (grow_refused c.args.plan.now _ _ _ _ _ (found (goal.at.returns-in_err-grow_test c).In_ok-i) _ c.in_err-grow_test.ensures))

pub returns-in_err-place : goal.returns-in_err-place
returns-in_err-place c =
    let e : c.from_residual-in_err-place.result ≡ Err c.in_err-place.field-0.0 = search rules in
    rw e
    (grows_refused _ _ _ _ _ c.requires
    (grow_lost c.args.plan.now _ _ _ _ _ (found (goal.at.returns-in_err-place c).In_ok-i) c.in_ok-grow_test.ensures _
    (len-at c.args.plan.now c.in_ok-i.i c.step_at.ensures.0 c.block_of.ensures.0) _ c.place.ensures.fits _ c.in_err-place.was))

pub returns-in_err-at : goal.returns-in_err-at
returns-in_err-at c =
    let e : c.from_residual-in_err-at.result ≡ Err NoRoom = search rules in
    rw e
    (grows_refused _ _ _ _ _ c.requires
    (grow_no_room c.args.plan.now _ _ _ _ _ (found (goal.at.returns-in_err-at c).In_ok-i) c.in_ok-grow_test.ensures _
    (len-at c.args.plan.now c.in_ok-i.i c.step_at.ensures.0 c.block_of.ensures.0) _ c.in_ok-place.ensures.fits (ap Ok c.in_err-at.ensures.ok_part)))

pub returns-in_err-count_usage : goal.returns-in_err-count_usage
returns-in_err-count_usage c =
    let e : c.from_residual-in_err-count_usage.result ≡ Err c.in_err-count_usage.field-0.0 = search rules in
    rw e
    (grows_refused _ _ _ _ _ c.requires
    (grow_never c.args.plan.now _ _ _ _ _ (found (goal.at.returns-in_err-count_usage c).In_ok-i) c.in_ok-grow_test.ensures _
    (len-at c.args.plan.now c.in_ok-i.i c.step_at.ensures.0 c.block_of.ensures.0) _ c.in_ok-place.ensures.fits _ (ap Ok c.in_ok-at.ensures.ok_part) _
    c.count_usage.ensures _ c.in_err-count_usage.was))

pub slice_bounds-extend-end : goal.slice_bounds-extend-end
slice_bounds-extend-end c =
    omega (arith, (long (goal.at.slice_bounds-extend-end c).Start).0, c.own_row-a.ensures)

pub slice_bounds-extend-end-2 : goal.slice_bounds-extend-end-2
slice_bounds-extend-end-2 c =
    omega (arith, (long (goal.at.slice_bounds-extend-end-2 c).Start).1, c.own_row-a.ensures)

pub returns-in_err-next : goal.returns-in_err-next
returns-in_err-next c =
    let e : c.from_residual-in_err-next.result ≡ Err c.in_err-next.field-0.0 = search rules in
    rw e
    (grow_stuck c.args.plan.now _ _ _ _ _ (found (goal.at.returns-in_err-next c).In_ok-i) c.in_ok-grow_test.ensures _
    (len-at c.args.plan.now c.in_ok-i.i c.step_at.ensures.0 c.block_of.ensures.0) _ c.in_ok-place.ensures.fits _ (ap Ok c.in_ok-at.ensures.ok_part) _
    c.count_usage.ensures _ c.own_row-a.ensures (long (goal.at.returns-in_err-next c).Start).0 (long (goal.at.returns-in_err-next c).Start).1 _ _
    _ c.extend.ensures _ c.in_err-next.was c.requires)

pub returns : goal.returns
returns c =
    rw c.stretch.ensures
    (grow_done c.args.plan.now _ _ _ _ _ (found (goal.at.returns c).In_ok-i) c.in_ok-grow_test.ensures _
    (len-at c.args.plan.now c.in_ok-i.i c.step_at.ensures.0 c.block_of.ensures.0) _ c.in_ok-place.ensures.fits _ (ap Ok c.in_ok-at.ensures.ok_part) _
    c.count_usage.ensures _ c.own_row-a.ensures (long (goal.at.returns c).Start).0 (long (goal.at.returns c).Start).1 _ _ _ c.extend.ensures _
    c.in_ok-next.was _ _ refl c.put_pair.ensures c.find.ensures.full c.requires)
