-- `settle::marks::write_marks` meets its contract: the first i marks are written.
use mathlib.Core.Bool.{false, Bool}
use mathlib.Core.Path.{◌∙◌, ap}
use lib.ListN.{get_or}
use Rattle.settle.specs.Settle.{mark_of}
use Rattle.settle.proofs.Marking.{writing_begins, writing_on}
use Rattle.settle.proofs.marks.write_marks.Goals as goal

pub loop-i-init : goal.loop-i-init
loop-i-init c = writing_begins _ _ _ c.requires.in_bounds.1

pub loop-i-preserved : goal.loop-i-preserved
loop-i-preserved c = let a = c.args in let i = c.loop-i.i in
    writing_on c.loop-i.invariant _ c.loop-i-test.true (c.mark_of.ensures ∙ ap (λ (b : Bool). mark_of (get_or a.found.now.over i false) b (get_or a.found.now.under i false)) c.renamed.ensures)
