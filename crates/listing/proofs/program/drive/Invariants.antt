use Rattle.std.proofs.Common.{◌≡◌, length}
use Rattle.listing.proofs.Running.{Driving}
use Rattle.listing.proofs.program.drive.Given as goal

-- what was read so far is answered
abbrev pub invariant-loop : goal.invariant-loop
invariant-loop g l =
    let remaining = g.R.Read.remaining in
    let contents = g.W.Write.contents in
    record {
      driving : Driving l.fn.listing l.listing (remaining l.fn.reader) (remaining l.reader) (contents l.fn.writer) (contents l.writer);
      block : length l.block ≡ length l.fn.block;
      out : length l.out ≡ length l.fn.out;
    }
