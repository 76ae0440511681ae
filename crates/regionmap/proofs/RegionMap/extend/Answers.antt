-- `regionmap::RegionMap::extend` meets its contract: each return is a case of `Extended`.
use Rattle.numbers.specs.declared.refusal.Refusal.TheVariants.{Lists, Outside, ExtentSum, Full}
use Rattle.std.specs.Prelude.{Err}
use borrow.Author.Rules.{rules}
use Prim.Native.Nat.{◌+◌, ◌≤◌}
use mathlib.Core.Bool.{false, ◌||◌}
use mathlib.Core.Path.{◌≡◌, sym, ◌∙◌}
use native.Mathlib.Omega.{arith}
use lib.Dec.{eqb}
use borrow.Author.Tests.{eq-eqb, ne_eqb, ltb-false}
use Rattle.numbers.proofs.Sums.{Within, checked_over, checked_within}
use Rattle.numbers.specs.Range.{range}
use Rattle.numbers.specs.Sums.{top}
use Rattle.regionmap.specs.Map.{placement_of, passes_top}
use Rattle.regionmap.proofs.Growing.{extend_few, extend_outside, extend_over, extend_full, extend_refused, extend_joins, extend_takes}
use Rattle.regionmap.proofs.Lookup.{Enough, lists_pass, lists-fail, runs_length}
use Rattle.regionmap.proofs.RegionMap.extend.Goals as goal
use Rattle.regionmap.proofs.RegionMap.extend.Goals.{Else-lists_fail, Else-passes, In_ok-capacity}

-- what the tests up to a place have shown
enough : (c : Else-lists_fail) → Enough c.args.self c.args.starts.now c.args.files.now
enough c = lists_pass _ _ _ (sym c.lists_fail.ensures ∙ c.if-lists_fail.false)

below : (c : Else-passes) → (eqb c.args.n 0 || passes_top (range c.args.file c.args.n)) ≡ false
unfolding passes_top
below c = simp (ne_eqb _ _ c.if-n-eq0.false, sym c.passes.ensures ∙ c.if-passes.false)

ends : (c : Else-passes) → c.args.file + c.args.n ≤ top
ends c = ltb-false _ _ (sym c.passes.ensures ∙ c.if-passes.false)

sums : (c : In_ok-capacity) → Within c.args.self.capacity c.args.n c.in_ok-capacity.capacity
sums c = checked_within _ _ c.checked_add.ensures c.in_ok-capacity.ensures.ok_part

whole : (c : In_ok-capacity) → c.args.self.capacity + c.args.n ≤ top
whole c = ltb-false _ _ (sums c).fits

pub returns-then-lists_fail : goal.returns-then-lists_fail
returns-then-lists_fail c = let a = c.args in extend_refused _ _ _ _ _ Lists (λ v. extend_few (placement_of a.self _ _) _ _ _ _ (lists-fail _ _ _ v (sym c.lists_fail.ensures ∙ c.if-lists_fail.true)))

pub returns-then-n-eq0 : goal.returns-then-n-eq0
returns-then-n-eq0 c = let a = c.args in extend_refused a.self a.file _ _ _ Outside
    (λ v. extend_outside (placement_of a.self _ _) _ _ _ _ (enough (goal.at.returns-then-n-eq0 c).Else-lists_fail).places
    (simp (eq-eqb _ _ c.if-n-eq0.true)))

pub returns-then-passes : goal.returns-then-passes
unfolding passes_top
returns-then-passes c = let a = c.args in extend_refused a.self a.file _ _ _ Outside
    (λ v. extend_outside (placement_of a.self _ _) _ _ _ _ (enough (goal.at.returns-then-passes c).Else-lists_fail).places
    (simp (ne_eqb _ _ c.if-n-eq0.false, sym c.passes.ensures ∙ c.if-passes.true)))

pub returns-in_err-capacity : goal.returns-in_err-capacity
returns-in_err-capacity c =
    let a = c.args in
    let e : c.from_residual.result ≡ Err ExtentSum = search rules in
    rw e
    (extend_refused a.self a.file _ _ _ ExtentSum (λ v.
    extend_over (placement_of a.self _ _) _ _ _ _ (enough (goal.at.returns-in_err-capacity c).Else-lists_fail).places
    (below (goal.at.returns-in_err-capacity c).Else-passes) (checked_over _ _ c.checked_add.ensures c.in_err-capacity.ensures.ok_part)))

pub ends_at-requires : goal.ends_at-requires
ends_at-requires c = let e = enough (goal.at.ends_at-requires c).Else-lists_fail in (e.starts, e.files)

pub returns-then-ends_at : goal.returns-then-ends_at
returns-then-ends_at c =
    let a = c.args in
    rw (sums (goal.at.returns-then-ends_at c).In_ok-capacity).is
    (extend_joins a.self a.file a.n _ _ (enough (goal.at.returns-then-ends_at c).Else-lists_fail) (below (goal.at.returns-then-ends_at c).Else-passes)
    (sums (goal.at.returns-then-ends_at c).In_ok-capacity).fits (ends (goal.at.returns-then-ends_at c).Else-passes)
    (whole (goal.at.returns-then-ends_at c).In_ok-capacity) (sym c.ends_at.ensures ∙ c.if-ends_at.true))

pub returns-then-count-self : goal.returns-then-count-self
returns-then-count-self c = let a = c.args in extend_refused a.self a.file _ _ _ Full
    (λ v. extend_full (placement_of a.self _ _) _ _ _ _ (enough (goal.at.returns-then-count-self c).Else-lists_fail).places
    (below (goal.at.returns-then-count-self c).Else-passes) (sums (goal.at.returns-then-count-self c).In_ok-capacity).fits
    (sym c.ends_at.ensures ∙ c.if-ends_at.false) (omega (arith, runs_length _ _ _ v, c.if-count-self.true)))

pub offset_bounds-starts-count : goal.offset_bounds-starts-count
offset_bounds-starts-count c = let e = enough (goal.at.offset_bounds-starts-count c).Else-lists_fail in omega (arith, e.room, e.wide.0, e.wide.1, c.if-count-self.false)

pub bounds-starts-count : goal.bounds-starts-count
bounds-starts-count c = let e = enough (goal.at.bounds-starts-count c).Else-lists_fail in omega (arith, e.room, e.wide.0, e.wide.1, c.if-count-self.false)

pub offset_bounds-files-count : goal.offset_bounds-files-count
offset_bounds-files-count c = let e = enough (goal.at.offset_bounds-files-count c).Else-lists_fail in omega (arith, e.room, e.wide.0, e.wide.1, c.if-count-self.false)

pub bounds-files-count : goal.bounds-files-count
bounds-files-count c = let e = enough (goal.at.bounds-files-count c).Else-lists_fail in omega (arith, e.room, e.wide.0, e.wide.1, c.if-count-self.false)

pub returns : goal.returns
returns c =
    let a = c.args in
    let e = enough (goal.at.returns c).Else-lists_fail in
    rw (sums (goal.at.returns c).In_ok-capacity).is
    (extend_takes a.self a.file a.n _ _ e (below (goal.at.returns c).Else-passes) (sums (goal.at.returns c).In_ok-capacity).fits
    (ends (goal.at.returns c).Else-passes) (whole (goal.at.returns c).In_ok-capacity) (sym c.ends_at.ensures ∙ c.if-ends_at.false)
    c.if-count-self.false (omega (arith, e.room, e.wide.0, c.if-count-self.false)) (omega (arith, e.room, e.wide.1, c.if-count-self.false)))
