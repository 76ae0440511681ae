-- `exports::map::fundravai_locate_among_each` meets its contract: each lookup promises what the single call does.
use Rattle.std.proofs.Common.{rules}
use Rattle.exports.proofs.Chaining.{located_as}
use Rattle.exports.proofs.map.fundravai_locate_among_each.Goals as goal

pub returns : goal.returns
returns c = located_as _ _ (λ p r h. search rules) _ _ _ _ c.locate_each.ensures
