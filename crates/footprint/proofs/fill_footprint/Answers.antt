-- `footprint::fill_footprint` meets its contract: the answer is the tests' first refusal, or what the laid-out footprint decides.
use Prim.Native.Nat.{◌+◌, ◌-◌, ◌*◌, ◌≤◌}
use mathlib.Core.Path.{◌≡◌, sym}
use native.Mathlib.Omega.{arith}
use lib.ListN.{length}
use lib.Seq.{length-take-le}
use borrow.Author.Rules.{rules}
use Rattle.numbers.specs.Sums.{top}
use Rattle.footprint.specs.Footprint.{answer_of}
use Rattle.numbers.specs.Refusals.{refused, refusal_number}
use Rattle.footprint.proofs.Answer.{all_listed, extra_in, refused_early, refused_last, ahead, usable}
use Rattle.footprint.proofs.Passed.{Passed, all_pass}
use Rattle.numbers.proofs.Pairs.{length_pairs}
use mir.Syntax.{w64}
use mir.Val.{Fits}
use Rattle.footprint.proofs.fill_footprint.Goals as goal
use Rattle.footprint.proofs.fill_footprint.Goals.{In_ok-check_before_overlap, Start}

bounded : (c : Start) → c.args.entry.span_end ≤ top
bounded c = let f : Fits w64 c.args.entry.span_end = search rules in omega (arith, f)

ready : (c : In_ok-check_before_overlap) → Passed c.args.limits c.args.entry c.args.header c.args.extents.now (length c.args.scratch.now)
ready c =
    let a = c.args in
    all_pass _ _ _ _ _ (length a.scratch.now) (sym c.in_ok-check_before_overlap.ensures)

pub returns-in_err-check_before_overlap : goal.returns-in_err-check_before_overlap
returns-in_err-check_before_overlap c =
    let e : answer_of c.from_residual.result ≡ refused (refusal_number c.in_err-check_before_overlap.field-0.0) = search rules in
    rw e (refused_early _ _ _ _ _ _ _ c.in_err-check_before_overlap.ensures)

pub slice_bounds-lay_out-end : goal.slice_bounds-lay_out-end
slice_bounds-lay_out-end c = let p = (ready (goal.at.slice_bounds-lay_out-end c).In_ok-check_before_overlap).lists.room in omega arith

pub lay_out-requires : goal.lay_out-requires
lay_out-requires c = let p = ready (goal.at.lay_out-requires c).In_ok-check_before_overlap in
    let e = length_pairs c.args.extents.now in
    let n = c.args.entry.extent_count in
    let l = length-take-le (2 * n + 4 - 0) c.args.scratch.now (omega (arith, p.lists.room)) in
    (p.logs.high, omega (arith, l), omega (arith, all_listed p))

pub returns-then-lay_out : goal.returns-then-lay_out
returns-then-lay_out c =
    refused_last _ _ _ _ _ _ (sym c.in_ok-check_before_overlap.ensures) (bounded (goal.at.returns-then-lay_out c).Start) c.lay_out.ensures
    c.if-lay_out.true

pub bounds-extents-committed : goal.bounds-extents-committed
bounds-extents-committed c = let h = extra_in (ready (goal.at.bounds-extents-committed c).In_ok-check_before_overlap) c.if-header-entry.true in omega arith

pub bounds-extents-committed-then-header-entry : goal.bounds-extents-committed-then-header-entry
bounds-extents-committed-then-header-entry c = let h = extra_in (ready (goal.at.bounds-extents-committed-then-header-entry c).In_ok-check_before_overlap) c.if-header-entry.true in omega arith

pub returns-then-header-entry : goal.returns-then-header-entry
returns-then-header-entry c =
    ahead _ _ _ _ _ _ (sym c.in_ok-check_before_overlap.ensures) (bounded (goal.at.returns-then-header-entry c).Start) c.lay_out.ensures
    c.if-lay_out.false c.if-header-entry.true

pub returns : goal.returns
returns c = usable _ _ _ _ _ _ (sym c.in_ok-check_before_overlap.ensures) (bounded (goal.at.returns c).Start) c.lay_out.ensures c.if-lay_out.false c.if-header-entry.false
