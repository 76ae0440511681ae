use Rattle.std.proofs.Common.{◌≡◌, length, ◌-◌}
use Rattle.listing.proofs.Running.{Passing}
use Rattle.listing.proofs.program.pass.Given as goal

-- so many bytes are taken, and their answers written
abbrev pub invariant-loop-at : goal.invariant-loop-at
invariant-loop-at g l =
    let contents = g.W.Write.contents in
    record {
      passing : Passing l.fn.listing l.fn.block l.listing (contents l.fn.writer) (contents l.writer) l.at;
      places : length l.out ≡ length l.fn.out;
    }

abbrev pub decreases-loop-at : goal.decreases-loop-at
decreases-loop-at g l = length l.block - l.at
