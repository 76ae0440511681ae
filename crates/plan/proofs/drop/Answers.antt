use mathlib.Core.Path.{sym, ◌∙◌}
use Rattle.plan.proofs.Refusing.{short_is, leaves_short, leaves_long}
use Rattle.plan.proofs.drop.Goals as goal

pub returns-then-lists_short : goal.returns-then-lists_short
returns-then-lists_short c = (leaves_short _ _ _ _ _ (short_is _ _ _ ∙ sym c.lists_short.ensures ∙ c.if-lists_short.true))

pub returns : goal.returns
returns c =
    (leaves_long (short_is _ _ _ ∙ sym c.lists_short.ensures ∙ c.if-lists_short.false) (c.dropped.ensures.called c.args.extents.now c.args.starts.now c.args.files.now))
