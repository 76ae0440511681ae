-- `runs::join::reach` meets its contract: the extents from i up to j are one run.
use Rattle.std.proofs.Common.{sym, ◌∙◌, arith}
use Rattle.numbers.proofs.Chunks.{chunk_at, length_ranges}
use Rattle.runs.proofs.Joining.{joins_true, reach_begins, reach_skips, reach_joins, reach_stops, reach_ends}
use Rattle.runs.proofs.join.reach.Goals as goal
use Rattle.runs.proofs.join.reach.Goals.{else-more-gt0-via-then-more-gt0+else-not-follows, else-more-gt0-via-else-more-gt0}

pub loop-j-init : goal.loop-j-init
loop-j-init c = reach_begins (omega (arith, length_ranges c.args.extents.now)) (chunk_at c.args.extents.now c.args.i)

pub returns-then-not-follows : goal.returns-then-not-follows
returns-then-not-follows c =
    let m = c.if-more-gt0.true in
    reach_stops c.loop-j.invariant (omega (arith, length_ranges c.args.extents.now)) (chunk_at c.args.extents.now c.loop-j.j)
    (λ e. absurd (omega arith)) (sym c.follows.ensures ∙ c.if-not-follows.true)

pub overflow_add-len : goal.overflow_add-len
overflow_add-len c =
    elim c.else-more-gt0.branch [
      | else-more-gt0-via-then-more-gt0+else-not-follows w ↦
          let h = joins_true _ _ (sym w.follows.ensures ∙ w.if-not-follows.false) in
          omega (arith, h.short)
      | else-more-gt0-via-else-more-gt0 w ↦ let m = w.if-more-gt0.false in omega arith
    ]

pub loop-j-preserved : goal.loop-j-preserved
loop-j-preserved c =
    let g = c.loop-j.invariant in
    let l = length_ranges c.args.extents.now in
    let x = chunk_at c.args.extents.now c.loop-j.j in
    elim c.else-more-gt0.branch [
      | else-more-gt0-via-then-more-gt0+else-not-follows w ↦
          let m = w.if-more-gt0.true in
          reach_joins g (omega (arith, l)) x (λ e. absurd (omega arith)) (sym w.follows.ensures ∙ w.if-not-follows.false)
      | else-more-gt0-via-else-more-gt0 w ↦ let m = w.if-more-gt0.false in reach_skips g (omega (arith, l)) x (omega arith)
    ]

pub returns : goal.returns
returns c = rw (sym (length_ranges c.args.extents.now)) (reach_ends c.loop-j.invariant (omega (arith, length_ranges c.args.extents.now)))
