use Rattle.std.specs.Io.KnownBytes.{Keeps}
use Rattle.streams.proofs.receive.Given as goal

-- nothing is read yet
abbrev pub invariant-loop : goal.invariant-loop
invariant-loop g l = record { kept : Keeps (g.R.Read.remaining l.fn.reader) (g.R.Read.remaining l.reader) }
