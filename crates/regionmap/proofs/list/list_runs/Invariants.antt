use Rattle.regionmap.proofs.Listing.{Listing}
use Rattle.regionmap.proofs.list.list_runs.Given as goal

abbrev pub invariant-loop-i : goal.invariant-loop-i
invariant-loop-i l = Listing l.map l.starts l.files l.initial.out l.out l.start l.file l.i
