use Rattle.std.proofs.Common.{length}
use Rattle.numbers.specs.Pairs.{ranges_in}
use Rattle.regionmap.specs.Map.{passes_top}
use Rattle.numbers.proofs.Refusals.{Walked}
use Rattle.regionmap.proofs.build.measure.Given as goal

abbrev pub invariant-loop-file : goal.invariant-loop-file
invariant-loop-file l = Walked passes_top (ranges_in l.extents) (length (ranges_in l.extents)) l.file-index l.bytes
