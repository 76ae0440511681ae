-- `Piece::lowest` meets its contract, and ends: the depth falls at each call.
use Rattle.std.proofs.Common.{ℕ, ◌*◌, ◌≤◌, length, ◌∙◌, refl, ap, sym, Ok, arith}
use Rattle.numbers.specs.Pairs.{pairs}
use Rattle.plan_record.specs.Inner.{Cuts}
use Rattle.plan_record.proofs.Searching.{room, found_told, behind_told, passed_told, refused_told}
use Rattle.plan_record.proofs.search.Piece.+lowest.Goals as goal
use Rattle.plan_record.proofs.search.Piece.+lowest.Goals.{In-Some}

cuts : (t : ℕ) (c : In-Some t) → Cuts (pairs c.args.ranges.now) (pairs c.parted.new.ranges) c.args.depth c.in-Some.cut
cuts t c = rw c.in-Some.is at c.parted.ensures

inside : (t : ℕ) (c : In-Some t) → 2 * c.in-Some.cut.front ≤ length c.parted.new.ranges
inside t c = room _ _ _ refl (cuts t c).parted.inside

pub returns-then-crowded : goal.returns-then-crowded
returns-then-crowded t c =
    passed_told _ _ _ _ _ _ _ _ (cuts t (goal.at.returns-then-crowded t c).In-Some).parted (sym c.crowded.ensures ∙ c.if-crowded.true) _ c.lowest.ensures

pub overflow_mul-front : goal.overflow_mul-front
overflow_mul-front t c = let h = inside t (goal.at.overflow_mul-front t c).In-Some in omega arith

pub slice_bounds-crowded-end : goal.slice_bounds-crowded-end
slice_bounds-crowded-end t c = inside t (goal.at.slice_bounds-crowded-end t c).In-Some

pub returns-in-Ok-None : goal.returns-in-Ok-None
returns-in-Ok-None t c =
    behind_told _ _ _ _ _ _ _ _ (cuts t (goal.at.returns-in-Ok-None t c).In-Some).parted _ c.lowest-2.ensures
    (c.in-Ok-None.is ∙ ap Ok c.in-Ok-None.field-0-is) c.lowest-2.new.ranges c.lowest-2.auto.ranges _ c.in_order-in-Ok-None.ensures

pub returns-in-Ok-Some : goal.returns-in-Ok-Some
returns-in-Ok-Some t c =
    found_told _ _ _ _ _ _ _ _ (cuts t (goal.at.returns-in-Ok-Some t c).In-Some).parted _ c.lowest-2.ensures _ (c.in-Ok-Some.is ∙ ap Ok c.in-Ok-Some.field-0-is)

pub returns-in-Err : goal.returns-in-Err
returns-in-Err t c =
    refused_told _ _ _ _ _ _ _ _ (cuts t (goal.at.returns-in-Err t c).In-Some).parted _ c.lowest-2.ensures _ c.in-Err.is _
