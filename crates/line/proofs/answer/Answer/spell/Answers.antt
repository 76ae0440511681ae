use Rattle.std.proofs.Common.{arith, length, ◌-◌}
use Rattle.line.proofs.Writing.{spelled, last_stored}
use Rattle.line.proofs.answer.Answer.spell.Goals as goal

pub returns-clause-text : goal.returns-clause-text
returns-clause-text c =
    spelled _ _ _ _ _ _ _ _ _ (last_stored c.args.text.now (length c.args.text.now - 1) 10 (omega (arith, c.requires)))
    c.put_field-start.ensures.text c.put_field-start-2.ensures.text c.put_field-start-3.ensures.text c.put_field.ensures.text
