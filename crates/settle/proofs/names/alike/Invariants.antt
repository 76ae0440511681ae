use mathlib.Core.Path.{◌≡◌}
use lib.ListN.{take}
use Rattle.std.specs.List.{count_by}
use Rattle.settle.proofs.Naming.{is}
use Rattle.settle.proofs.names.alike.Given as goal

abbrev pub invariant-loop-other : goal.invariant-loop-other
invariant-loop-other l = l.n ≡ count_by (is l.hash) (take l.other-index l.hashes)
