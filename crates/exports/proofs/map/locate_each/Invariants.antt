use Rattle.std.proofs.Common.{◌≡◌, ◌≤◌, length, drop}
use Rattle.exports.specs.Each.{Locate, locating}
use Rattle.flat.proofs.Chaining.{Going}
use Rattle.exports.proofs.map.locate_each.Given as goal

abbrev pub invariant-loop-i : goal.invariant-loop-i
invariant-loop-i g l =
    (l.located ≤ l.i) × (length l.bytes ≡ length l.initial.bytes)
    × Going (Locate (λ p r. goal.F-post g l.locate p r)) l.positions
    (locating l.initial.bytes 0 0) (drop l.i l.positions) (locating l.bytes l.i l.located)
