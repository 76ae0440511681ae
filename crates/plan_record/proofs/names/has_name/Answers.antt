use mathlib.Core.Path.{sym, ◌∙◌}
use borrow.Author.Rules.{rules}
use borrow.Author.Tests.{ne_eqb}
use Rattle.plan_record.proofs.Naming.{other_length, same_length}
use Rattle.plan_record.proofs.names.has_name.Goals as goal

pub returns-then-region-name : goal.returns-then-region-name
returns-then-region-name c = c.starts_with.ensures.value ∙ same_length _ _ _ (search rules) c.requires (search rules)

pub returns-else-region-name : goal.returns-else-region-name
returns-else-region-name c = simp (ne_eqb _ _ c.if-region-name.false) (sym (other_length _ _ _ c.if-region-name.false))
