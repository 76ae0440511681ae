-- `settle::sweep::Way::next` meets its contract: on the way back the last range comes first.
use mathlib.Core.Path.{◌∙◌}
use native.Mathlib.Omega.{arith}
use Rattle.numbers.specs.Pairs.{pairs}
use Rattle.numbers.proofs.Pairs.{length_pairs}
use Rattle.settle.proofs.Sweeping.{next_forth, next_back}
use Rattle.settle.proofs.sweep.Way.next.Goals as goal

pub overflow_sub-self : goal.overflow_sub-self
overflow_sub-self c = let l = length_pairs c.args.self.order.now in let h = c.requires in omega arith

pub overflow_sub-self-then-back : goal.overflow_sub-self-then-back
overflow_sub-self-then-back c = let l = length_pairs c.args.self.order.now in let h = c.requires in omega arith

pub read-requires : goal.read-requires
read-requires c = let l = length_pairs c.args.self.order.now in let h = c.requires in omega arith

pub returns-then-back : goal.returns-then-back
returns-then-back c = c.mirror.ensures ∙ next_back _ (pairs _) _ _ c.requires c.if-back.true _ c.read.ensures

pub returns : goal.returns
returns c = next_forth _ (pairs _) _ _ c.requires c.if-back.false _ c.read-2.ensures
