use Rattle.std.proofs.Common.{◌≡◌, ◌≤◌, length, drop}
use Rattle.exports.specs.Each.{Extend, extending}
use Rattle.numbers.specs.Pairs.{ranges_in}
use Rattle.flat.proofs.Chaining.{Going}
use Rattle.exports.proofs.map.fundravai_map_extend_each.Given as goal

abbrev pub invariant-loop-file : goal.invariant-loop-file
invariant-loop-file l =
    (l.accepted ≤ l.file-index) × (length l.starts ≡ length l.initial.starts) × (length l.files ≡ length l.initial.files)
    × Going Extend (ranges_in l.pairs) (extending l.initial.map l.initial.starts l.initial.files 0)
    (drop l.file-index (ranges_in l.pairs)) (extending l.map l.starts l.files l.accepted)
