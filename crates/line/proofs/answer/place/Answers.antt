use Rattle.std.proofs.Common.{arith}
use Rattle.line.proofs.Writing.{is_put}
use Rattle.line.proofs.answer.place.Goals as goal

pub returns : goal.returns
returns c = rw (c.copy_from_slice.ensures.after) (is_put _ _ _ (omega (arith, c.if-at-out.false, c.if-out-at.false)))
