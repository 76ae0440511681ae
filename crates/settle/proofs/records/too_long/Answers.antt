-- `settle::records::too_long` meets its contract, at each way through its tests.
use mathlib.Core.Path.{refl, ◌∙◌}
use borrow.Author.Tests.{le-ltb}
use Rattle.settle.proofs.Refusing.{name_short, name_none, name_long}
use Rattle.settle.proofs.records.too_long.Goals as goal
use Rattle.settle.proofs.records.too_long.Goals.{then-unnamed, else-unnamed}

pub returns-after-unnamed : goal.returns-after-unnamed
returns-after-unnamed c =
    elim c.if-unnamed.branch [
      | then-unnamed w ↦ rw w.result-is (name_none _ _ c.if-len-gt24.true w.if-unnamed.true)
      | else-unnamed w ↦ rw (w.result-is, w.if-unnamed.false) (name_long _ _ c.if-len-gt24.true refl)
    ]

pub returns-else-len-gt24 : goal.returns-else-len-gt24
returns-else-len-gt24 c = le-ltb _ _ c.if-len-gt24.false ∙ name_short _ _ c.if-len-gt24.false
