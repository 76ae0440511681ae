-- `regionmap::RegionMap::with_room` meets its contract: each return is a case of `Roomed`.
use mathlib.Core.Path.{sym, ◌∙◌}
use borrow.Author.Tests.{lt-ltb, le-ltb}
use Rattle.numbers.specs.Refusals.{refuse}
use Rattle.regionmap.specs.Map.{room_refusal, too_few}
use Rattle.regionmap.proofs.Records.{room_refused, room_given}
use Rattle.regionmap.proofs.RegionMap.with_room.Goals as goal

pub returns-then-room-gt-MOST : goal.returns-then-room-gt-MOST
unfolding room_refusal too_few refuse
returns-then-room-gt-MOST c = let a = c.args in room_refused _ _ _ _ (simp (lt-ltb _ _ c.if-room-gt-MOST.true))

pub returns-then-too_few : goal.returns-then-too_few
unfolding room_refusal too_few refuse
returns-then-too_few c = let a = c.args in room_refused _ _ _ _ (simp (le-ltb _ _ c.if-room-gt-MOST.false, sym c.max-most.ensures, sym c.too_few.ensures ∙ c.if-too_few.true))

pub returns : goal.returns
unfolding room_refusal too_few refuse
returns c = let a = c.args in room_given _ _ _ _ (simp (
  le-ltb _ _ c.if-room-gt-MOST.false,
  sym c.max-most.ensures,
  sym c.too_few.ensures ∙
      c.if-too_few.false,
)) c.if-room-gt-MOST.false _ c.max-most.ensures
