use Rattle.numbers.specs.Pairs.{ranges_in}
use Rattle.regionmap.proofs.Building.{Building}
use Rattle.regionmap.proofs.build.lay.Given as goal

abbrev pub invariant-loop-file : goal.invariant-loop-file
invariant-loop-file l = Building (ranges_in l.extents) l.initial.starts l.starts l.initial.files l.files l.first l.count l.at l.end l.file-index
