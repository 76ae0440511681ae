use Rattle.std.proofs.Common.{length, ◌-◌}
use Rattle.listing.specs.Feeding.{Front}
use Rattle.listing.proofs.listing.Listing.fill.Given as goal

-- so many bytes are taken, and their answers written
abbrev pub invariant-loop-bytes : goal.invariant-loop-bytes
invariant-loop-bytes l = record { front : Front l.fn.self l.fn.block l.fn.out l.self l.out l.bytes l.text }

abbrev pub decreases-loop-bytes : goal.decreases-loop-bytes
decreases-loop-bytes l = length l.block - l.bytes
