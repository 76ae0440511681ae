use mathlib.Core.Path.{sym, ◌∙◌}
use Rattle.plan.proofs.Growing.{grows_short}
use Rattle.plan.proofs.Refusing.{short_is}
use Rattle.plan.proofs.grow.Goals as goal

pub returns-then-lists_short : goal.returns-then-lists_short
returns-then-lists_short c = (grows_short _ _ _ _ _ (short_is _ _ _ ∙ sym c.lists_short.ensures ∙ c.if-lists_short.true))

pub grown-requires : goal.grown-requires
grown-requires c = short_is _ _ _ ∙ sym c.lists_short.ensures ∙ c.if-lists_short.false

pub returns : goal.returns
returns c = c.grown.ensures
