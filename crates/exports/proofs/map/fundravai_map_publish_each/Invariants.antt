use Rattle.std.proofs.Common.{◌≤◌, drop}
use Rattle.exports.specs.Each.{Publish, publishing}
use Rattle.flat.proofs.Chaining.{Going}
use Rattle.exports.proofs.map.fundravai_map_publish_each.Given as goal

abbrev pub invariant-loop-len : goal.invariant-loop-len
invariant-loop-len l =
    (l.accepted ≤ l.len-index)
    × Going Publish l.lens (publishing l.initial.map 0) (drop l.len-index l.lens) (publishing l.map l.accepted)
