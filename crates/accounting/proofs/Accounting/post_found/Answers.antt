-- `accounting::Accounting::post_found` meets its contract: the row that was found is changed, or a new one put at its place.
use Rattle.std.proofs.Common.{ap, ◌∙◌}
use Rattle.accounting.proofs.Handing.{posts_known, posts_unknown}
use Rattle.accounting.proofs.Accounting.post_found.Goals as goal

pub returns-in-Ok : goal.returns-in-Ok
returns-in-Ok g c f keeps is = posts_known _ _ _ f keeps _ (rw c.in-Ok.is at c.requires.1) (is _ _ c.rule.ensures)

pub returns-in-Err : goal.returns-in-Err
returns-in-Err g c f keeps is = posts_unknown _ _ _ f keeps _ (rw c.in-Err.is at c.requires.1) (is _ _ c.rule-in-Err.ensures ∙ ap f c.blank.ensures) _ c.insert.ensures
