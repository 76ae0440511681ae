-- `footprint::records::entry_fails` meets its contract: each return is the case that its tests chose.
use Rattle.numbers.proofs.Chunks.{any_first, chunk_pairs}
use Rattle.numbers.specs.Pairs.{ranges_in}
use Rattle.numbers.specs.Range.{Range}
use Rattle.numbers.specs.Lists.{any}
use Rattle.std.proofs.Common.{◌==◌}
use lib.ListN.{take}
use mathlib.Core.List.{List}
use mathlib.Core.Bool.{Bool, false, ◌||◌}
use mathlib.Core.Path.{◌≡◌, sym, ◌∙◌, ap}
use borrow.Author.Tests.{lt-ltb, le-ltb}
use Rattle.footprint.specs.Footprint.{block_of, entry_fails, span_fails, block_fails, near}
use Rattle.footprint.specs.declared.Entry.{Entry}
use Rattle.footprint.specs.declared.Limits.{Limits}
use Rattle.footprint.proofs.Blocks.{exact}
use Rattle.footprint.proofs.records.entry_fails.Goals as goal
use Rattle.footprint.proofs.records.entry_fails.Goals.{After-misplaced, After-misplaced-2, After-near, Else-entry-limits, Else-near}

-- what the tests up to a place have shown
span : (c : Else-entry-limits) → span_fails c.args.limits c.args.entry ≡ false
unfolding span_fails
span c = simp (le-ltb _ _ c.if-limits-entry.false, le-ltb _ _ c.if-entry.false, le-ltb _ _ c.if-entry-limits.false)

told_a : (c : After-misplaced) → block_fails (block_of c.args.limits) c.args.entry c.args.entry.header_a ≡ c.misplaced.result
told_a c = rw (← exact _ c.block_of-block.ensures.0 c.requires) (sym c.misplaced.ensures)

told_b : (c : After-misplaced-2) → block_fails (block_of c.args.limits) c.args.entry c.args.entry.header_b ≡ c.misplaced-2.result
told_b c = rw (← exact _ c.block_of-block.ensures.0 c.requires) (sym c.misplaced-2.ensures)

told_near : (c : After-near) → near (block_of c.args.limits) c.args.entry.header_a c.args.entry.header_b ≡ c.near.result
told_near c = rw (← exact _ c.block_of-block.ensures.0 c.requires) (sym c.near.ensures)

abbrev headers_fail : Limits → Entry → Bool
headers_fail lim e = span_fails lim e || block_fails (block_of lim) e e.header_a || block_fails (block_of lim) e e.header_b || near (block_of lim) e.header_a e.header_b

placed : (c : Else-near) → headers_fail c.args.limits c.args.entry ≡ false
unfolding span_fails
placed c =
    let inside : span_fails c.args.limits c.args.entry ≡ false = simp (le-ltb _ _ c.if-limits-entry.false, le-ltb _ _ c.if-entry.false, le-ltb _ _ c.if-entry-limits.false) in
    let a : block_fails (block_of c.args.limits) c.args.entry c.args.entry.header_a ≡ c.misplaced.result = rw (← exact _ c.block_of-block.ensures.0 c.requires) (sym c.misplaced.ensures) in
    let b : block_fails (block_of c.args.limits) c.args.entry c.args.entry.header_b ≡ c.misplaced-2.result = rw (← exact _ c.block_of-block.ensures.0 c.requires) (sym c.misplaced-2.ensures) in
    let n : near (block_of c.args.limits) c.args.entry.header_a c.args.entry.header_b ≡ c.near.result = rw (← exact _ c.block_of-block.ensures.0 c.requires) (sym c.near.ensures) in
    simp (inside, a ∙ c.if-misplaced.false, b ∙ c.if-misplaced-2.false, n ∙ c.if-near.false)

pub returns-then-limits-entry : goal.returns-then-limits-entry
unfolding entry_fails span_fails
returns-then-limits-entry c = simp (lt-ltb _ _ c.if-limits-entry.true)

pub returns-then-entry : goal.returns-then-entry
unfolding entry_fails span_fails
returns-then-entry c = simp (le-ltb _ _ c.if-limits-entry.false, lt-ltb _ _ c.if-entry.true)

pub returns-then-entry-limits : goal.returns-then-entry-limits
unfolding entry_fails span_fails
returns-then-entry-limits c = simp (le-ltb _ _ c.if-limits-entry.false, le-ltb _ _ c.if-entry.false, lt-ltb _ _ c.if-entry-limits.true)

pub misplaced-requires : goal.misplaced-requires
misplaced-requires c = c.block_of-block.ensures.2

pub returns-then-misplaced : goal.returns-then-misplaced
unfolding entry_fails
returns-then-misplaced c =
    simp (span (goal.at.returns-then-misplaced c).Else-entry-limits, told_a (goal.at.returns-then-misplaced c).After-misplaced ∙ c.if-misplaced.true)

pub misplaced-requires-2 : goal.misplaced-requires-2
misplaced-requires-2 c = c.block_of-block.ensures.2

pub returns-then-misplaced-2 : goal.returns-then-misplaced-2
unfolding entry_fails
returns-then-misplaced-2 c =
    simp (
      span (goal.at.returns-then-misplaced-2 c).Else-entry-limits,
      told_a
          (goal.at.returns-then-misplaced-2 c).After-misplaced ∙ c.if-misplaced.false,
      told_b
          (goal.at.returns-then-misplaced-2 c).After-misplaced-2 ∙ c.if-misplaced-2.true,
    )

pub returns-then-near : goal.returns-then-near
unfolding entry_fails
returns-then-near c =
    simp (
      span (goal.at.returns-then-near c).Else-entry-limits,
      told_a (goal.at.returns-then-near c).After-misplaced ∙ c.if-misplaced.false,
      told_b
          (goal.at.returns-then-near c).After-misplaced-2 ∙ c.if-misplaced-2.false,
      told_near (goal.at.returns-then-near c).After-near ∙ c.if-near.true,
    )

pub returns-then-entry-2 : goal.returns-then-entry-2
unfolding entry_fails
returns-then-entry-2 c = simp (placed (goal.at.returns-then-entry-2 c).Else-near, lt-ltb _ _ c.if-entry-2.true)

pub returns : goal.returns
unfolding entry_fails
returns c =
    let none : Range → _ = λ (x : Range). x.len == 0 in
    let k = any_first none c.args.entry.extent_count c.as_chunks.result.0.now ∙ ap (λ (xs : List Range). any none (take c.args.entry.extent_count xs))
    (ap ranges_in c.as_chunks.ensures.front ∙ chunk_pairs c.args.extents.now) in
    c.some_empty.ensures ∙ k ∙ simp (placed (goal.at.returns c).Else-near, le-ltb _ _ c.if-entry-2.false)
