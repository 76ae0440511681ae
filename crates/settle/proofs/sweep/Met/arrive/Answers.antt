-- `settle::sweep::Met::arrive` meets its contract: an empty range, an unavailable one, a usable one.
use Prim.Native.Nat.{◌+◌}
use mathlib.Core.Bool.{false, ◌||◌}
use mathlib.Core.Path.{◌≡◌}
use borrow.Author.Rules.{rules}
use lib.ListN.{length, get_or, set}
use Rattle.settle.specs.Inner.{reach}
use Rattle.settle.proofs.Sweeping.{mark_new, mark_kept, arrives_held}
use Rattle.settle.proofs.sweep.Met.arrive.Goals as goal
use Rattle.settle.proofs.sweep.Met.arrive.Goals.{then-found-i, else-found-i, then-found-i-2, else-found-i-2}

pub returns : goal.returns
returns c =
    let p = c.requires in
    let x = c.args.x in
    let o = c.args.found.now.over in
    let u = c.args.found.now.under in
    let a : length o ≡ 1024 = search rules in
    let b : length u ≡ 1024 = search rules in
    let m : set o x.owner c.if-found-i.found ≡ set o x.owner (get_or o x.owner false || reach c.args.self.now.usable c.args.rank x.start) =
    elim c.if-found-i.branch [
      | then-found-i w ↦ rw w.found-is (mark_kept o x.owner _ w.if-found-i.true)
      | else-found-i w ↦ rw w.found-is (mark_new o x.owner _ _ w.if-found-i.false w.from.ensures)
    ] in
    let n : set u x.owner c.if-found-i-2.found ≡ set u x.owner (get_or u x.owner false || reach c.args.self.now.unavailable (c.args.rank + 1) x.start) =
    elim c.if-found-i-2.branch [
      | then-found-i-2 w ↦ rw w.found-is (mark_kept u x.owner _ w.if-found-i-2.true)
      | else-found-i-2 w ↦ rw w.found-is (mark_new u x.owner _ _ w.if-found-i-2.false w.above.ensures)
    ] in
    arrives_held c.if-x.false c.if-x-usable.false p.1 a b m n c.raise-2.ensures
