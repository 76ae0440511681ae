use Rattle.std.proofs.Common.{arith}
use Rattle.line.proofs.Parts.{or_is, within, beyond}
use Rattle.line.specs.Meaning.{command_of}
use Rattle.line.proofs.command.read.Goals as goal

pub returns-then-line-gt128 : goal.returns-then-line-gt128
returns-then-line-gt128 c = beyond _ c.if-line-gt128.true

pub returns : goal.returns
returns c =
    let is = or_is command_of in
    within _ _ (omega (arith, c.if-line-gt128.false)) (is _ _ _ _ _ c.or-6.ensures (is _ _ _ _ _ c.or-5.ensures (is _ _ _ _ _ c.or-4.ensures
    (is _ _ _ _ _ c.or-3.ensures (is _ _ _ _ _ c.or-2.ensures (is _ _ _ _ _ c.or.ensures c.locate.ensures c.grow.ensures) c.publish.ensures)
    c.create.ensures) c.drop.ensures) c.cap.ensures) c.open.ensures)
