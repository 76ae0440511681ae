-- `footprint::layout::lay_out` meets its contract: the slots are filled, sorted, and their neighbours looked at.
use Prim.Native.Nat.{ℕ, ◌+◌, ◌-◌, ◌≤◌}
use borrow.Rule.Slice.PartMut.{put_mid, same_len_mid}
use mathlib.Core.List.{List}
use mathlib.Core.Path.{◌≡◌, ◌∙◌}
use native.Mathlib.Omega.{arith}
use lib.ListN.{length-set, set, length}
use Rattle.numbers.proofs.Copying.{copied_rest}
use Rattle.footprint.proofs.Blocks.{exact}
use Rattle.footprint.proofs.Laying.{copied_behind, filled, in_order, laid_apart, laid_out}
use Rattle.footprint.proofs.layout.lay_out.Goals as goal
use Rattle.footprint.proofs.layout.lay_out.Goals.{After-copy}

module _ (c : After-copy) where
  abbrev a : ℕ
  a = c.args.entry.header_a

  abbrev b : ℕ
  b = c.args.entry.header_b

  abbrev block : ℕ
  block = c.block_of-block.result

  abbrev four : List ℕ
  four = set (set (set (set c.args.s.now 0 a) 1 block) 2 b) 3 block

  filling : put_mid 4 (length four - 4) four c.copy.new.to ≡ filled a block b block c.args.entry.extent_count c.args.extents.now c.args.s.now
  filling =
      let xs = c.args.extents.now in
      let l : length four ≤ length xs + 4 = simp length-set (omega (arith, c.requires.1, c.requires.2)) in
      copied_behind four xs _ (simp length-set (omega (arith, c.requires.1))) l (c.copy.ensures ∙ copied_rest xs four 4 l)

pub bounds-s-0 : goal.bounds-s-0
bounds-s-0 c = omega (arith, c.requires.1)

pub bounds-s-1 : goal.bounds-s-1
bounds-s-1 c = rw length-set (omega (arith, c.requires.1))

pub bounds-s-2 : goal.bounds-s-2
bounds-s-2 c = rw (length-set, length-set) (omega (arith, c.requires.1))

pub bounds-s-3 : goal.bounds-s-3
bounds-s-3 c = rw (length-set, length-set, length-set) (omega (arith, c.requires.1))

pub overlapping-requires : goal.overlapping-requires
overlapping-requires c =
    in_order c.args.limits c.args.entry _ _ c.args.s.now _ (exact _ c.block_of-block.ensures.0 c.requires.0) c.requires.1 c.requires.2
    (filling (goal.at.overlapping-requires c).After-copy) _ _ c.sort_pairs-sorted.ensures

pub shape_of-s : goal.shape_of-s
shape_of-s c =
    let t = four (goal.at.shape_of-s c).After-copy in
    let l : length t ≡ length c.args.s.now = simp length-set in
    c.sort_pairs-sorted.auto.s ∙ same_len_mid 4 (length t - 4) t c.copy.new.to c.copy.auto.to ∙ l

pub returns-then-apart : goal.returns-then-apart
returns-then-apart c =
    laid_apart c.args.limits c.args.entry _ _ c.args.s.now _ (exact _ c.block_of-block.ensures.0 c.requires.0) c.requires.1 c.requires.2
    (filling (goal.at.returns-then-apart c).After-copy) (c.apart.ensures c.if-apart.true)

pub returns : goal.returns
returns c =
    laid_out c.args.limits c.args.entry _ _ c.args.s.now _ (exact _ c.block_of-block.ensures.0 c.requires.0) c.requires.1 c.requires.2
    (filling (goal.at.returns c).After-copy) _ _ _ c.sort_pairs-sorted.ensures c.overlapping.ensures
