-- `settle::complete::Complete::rival` meets its contract: each test that fails decides, and the bytes do where none fails.
use mathlib.Core.Path.{sym, ◌∙◌}
use Rattle.settle.specs.Regions.{lent_of}
use Rattle.numbers.proofs.Lists.{pointwise_same}
use Rattle.settle.proofs.Naming.{rival_itself, rival_lower, rival_longer, rival_same}
use Rattle.settle.proofs.complete.Complete.rival.Goals as goal

pub returns-then-j-wanted : goal.returns-then-j-wanted
returns-then-j-wanted c = sym (rival_itself (lent_of c.args.self.records) _ _ _ _ c.if-j-wanted.true)

pub returns-then-self-j : goal.returns-then-self-j
returns-then-self-j c = sym (rival_lower (lent_of c.args.self.records) _ _ _ _ c.if-self-j.true)

pub returns-then-len-wanted : goal.returns-then-len-wanted
returns-then-len-wanted c = sym (rival_longer (lent_of c.args.self.records) _ _ _ _ c.if-len-wanted.true)

pub returns : goal.returns
returns c = c.eq.ensures ∙ pointwise_same _ _ ∙ rival_same (lent_of c.args.self.records) _ _ _ _ c.if-j-wanted.false c.if-self-j.false c.if-len-wanted.false
