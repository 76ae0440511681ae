use Rattle.std.proofs.Common.{◌≤◌, length, take}
use Rattle.std.specs.Io.KnownBytes.{Appends}
use Rattle.streams.proofs.send.Given as goal

-- so many bytes are written
abbrev pub invariant-loop : goal.invariant-loop
invariant-loop g l =
    let contents = g.W.Write.contents in
    record {
      within : l.at ≤ length l.text;
      wrote : Appends (contents l.fn.writer) (contents l.writer) (take l.at l.text);
    }
