-- `settle::settle` meets its contract: behind the refusal every list is long enough.
use Prim.Native.Nat.{ℕ}
use mathlib.Core.Path.{refl, sym, ◌∙◌}
use native.Mathlib.Omega.{arith}
use lib.ListN.{length}
use Rattle.settle.specs.Inner.{Accepted}
use Rattle.settle.specs.Regions.{lent_of, Lent}
use Rattle.settle.proofs.Namesakes.{short_at}
use Rattle.settle.proofs.Settling.{accepted, array_room, roomy, count_few, count_space, settled_refused, settled_marked}
use Rattle.settle.proofs.settle.Goals as goal
use Rattle.settle.proofs.settle.Goals.{Else-settle_fails}

abbrev ours : (c : Else-settle_fails) → Lent
ours c = lent_of c.args.usable

abbrev theirs : (c : Else-settle_fails) → Lent
theirs c = lent_of c.args.unavailable

ok : (c : Else-settle_fails) → Accepted (ours c) (theirs c) (length c.args.marks.now) (length c.args.scratch.now)
ok c = accepted (ours c) (theirs c) _ _ (sym c.settle_fails.ensures ∙ c.if-settle_fails.false)

pub returns-then-settle_fails : goal.returns-then-settle_fails
returns-then-settle_fails c = settled_refused (lent_of c.args.usable) (lent_of c.args.unavailable) _ _ (sym c.settle_fails.ensures ∙ c.if-settle_fails.true)

pub range_count-requires : goal.range_count-requires
range_count-requires c = (ok (goal.at.range_count-requires c).Else-settle_fails).ours.counts

pub range_count-requires-2 : goal.range_count-requires-2
range_count-requires-2 c = (ok (goal.at.range_count-requires-2 c).Else-settle_fails).theirs.counts

pub overflow_add-n : goal.overflow_add-n
overflow_add-n c = omega (arith, count_few (ok (goal.at.overflow_add-n c).Else-settle_fails) _ _ c.range_count.ensures c.range_count-2.ensures)

pub overflow_mul-n : goal.overflow_mul-n
overflow_mul-n c = omega (arith, count_few (ok (goal.at.overflow_mul-n c).Else-settle_fails) _ _ c.range_count.ensures c.range_count-2.ensures)

pub slice_bounds-strike-end : goal.slice_bounds-strike-end
slice_bounds-strike-end c = omega (arith, count_space (ok (goal.at.slice_bounds-strike-end c).Else-settle_fails) _ _ c.range_count.ensures c.range_count-2.ensures)

pub strike-found-requires : goal.strike-found-requires
strike-found-requires c = roomy (ok (goal.at.strike-found-requires c).Else-settle_fails) _ _ c.range_count.ensures c.range_count-2.ensures _ refl

pub invariant_of-usable : goal.invariant_of-usable
invariant_of-usable c = record { enough = (ok (goal.at.invariant_of-usable c).Else-settle_fails).ours }

pub invariant_of-unavailable : goal.invariant_of-unavailable
invariant_of-unavailable c = record { enough = (ok (goal.at.invariant_of-unavailable c).Else-settle_fails).theirs }

pub hash_names-requires : goal.hash_names-requires
hash_names-requires c = array_room {A = ℕ} 0 (ours (goal.at.hash_names-requires c).Else-settle_fails) (ok (goal.at.hash_names-requires c).Else-settle_fails).ours

pub hash_names-requires-2 : goal.hash_names-requires-2
hash_names-requires-2 c = array_room {A = ℕ} 0 (theirs (goal.at.hash_names-requires-2 c).Else-settle_fails) (ok (goal.at.hash_names-requires-2 c).Else-settle_fails).theirs

pub write_marks-requires : goal.write_marks-requires
write_marks-requires c = let g = ok (goal.at.write_marks-requires c).Else-settle_fails in
    record { in_bounds = (g.ours.few, g.room); named = λ i h. short_at (ours (goal.at.write_marks-requires c).Else-settle_fails) g.ours i h g.names }

pub returns : goal.returns
returns c = settled_marked _ _ _ _ (ok (goal.at.returns c).Else-settle_fails) _ _ c.strike-found.ensures _ _ c.write_marks.ensures
