-- `regionmap::RegionMap::locate` meets its contract: each return is a case of `locate_of`.
use Prim.Native.Nat.{ℕ, suc, ◌+◌, ◌-◌, ◌≤◌}
use mathlib.Core.Bool.{Bool, false}
use mathlib.Core.List.{List}
use mathlib.Core.Path.{◌≡◌, ap, sym, subst, ◌∙◌}
use native.Mathlib.Omega.{arith}
use lib.Dec.{ltb}
use borrow.Author.Tests.{ltb-false}
use Rattle.numbers.specs.Search.{Found}
use Rattle.regionmap.specs.declared.RegionMap.{RegionMap}
use Rattle.regionmap.specs.Map.{placement_of, Valid, run_of}
use Rattle.regionmap.proofs.Lookup.{Enough, lists_pass, lists-fail, found_end, found_first, found_later, locate_few, locate_past, locate_across, locate_at}
use Rattle.regionmap.proofs.RegionMap.locate.Goals as goal
use Rattle.regionmap.proofs.RegionMap.locate.Goals.{After-passes-2, Else-lists_fail, Else-passes}

within : (e p n : ℕ) → ltb e (p + n) ≡ false → p ≤ e
within e p n h = let l : p + n ≤ e = ltb-false _ _ h in omega arith

one_less : (k : ℕ) → (k ≡ 0 → ⊥) → k ≡ suc (k - 1)
one_less k d = omega (arith, d)

-- what the tests up to a place have shown
enough : (c : Else-lists_fail) → Enough c.args.self c.args.starts.now c.args.files.now
enough c = lists_pass _ _ _ (sym c.lists_fail.ensures ∙ c.if-lists_fail.false)

in_data : (c : Else-passes) → ltb c.args.self.len (c.args.pos + c.args.n) ≡ false
in_data c = sym c.passes.ensures ∙ c.if-passes.false

-- the test of the run's end, which is that of the position's run
abbrev crossing : RegionMap → List ℕ → List ℕ → ℕ → ℕ → Bool
crossing m ss fs p n = ltb ((run_of (placement_of m ss fs).runs p).start + (run_of (placement_of m ss fs).runs p).len) (p + n)

crosses : (c : After-passes-2) → Valid c.args.self c.args.starts.now c.args.files.now → crossing c.args.self c.args.starts.now c.args.files.now c.args.pos c.args.n ≡ c.passes-2.result
crosses c v = ap (λ (e : ℕ). ltb e (c.args.pos + c.args.n)) (found_end _ _ _ v _ _ _ c.find-k.ensures c.run_end.ensures) ∙ sym c.passes-2.ensures

pub returns-then-lists_fail : goal.returns-then-lists_fail
returns-then-lists_fail c = let a = c.args in record { answer = λ v. locate_few (placement_of a.self _ _) _ _ _ _ (lists-fail _ _ _ v (sym c.lists_fail.ensures ∙ c.if-lists_fail.true)) }

pub returns-then-passes : goal.returns-then-passes
returns-then-passes c = let a = c.args in record {
  answer = λ v. locate_past (placement_of a.self a.starts.now a.files.now) _ _ _ _
      (enough (goal.at.returns-then-passes c).Else-lists_fail).places (sym c.passes.ensures ∙ c.if-passes.true);
}

pub find-k-requires : goal.find-k-requires
find-k-requires c = (enough (goal.at.find-k-requires c).Else-lists_fail).starts

pub run_end-requires : goal.run_end-requires
run_end-requires c = (enough (goal.at.run_end-requires c).Else-lists_fail).starts

pub returns-then-passes-2 : goal.returns-then-passes-2
returns-then-passes-2 c = let a = c.args in record {
  answer = λ v. locate_across (placement_of a.self a.starts.now a.files.now) a.pos a.n a.starts.now
      a.files.now (enough (goal.at.returns-then-passes-2 c).Else-lists_fail).places (in_data (goal.at.returns-then-passes-2 c).Else-passes)
      (crosses (goal.at.returns-then-passes-2 c).After-passes-2 v ∙ c.if-passes-2.true);
}

pub returns-then-k-eq0 : goal.returns-then-k-eq0
returns-then-k-eq0 c = let a = c.args in record {
  answer = λ v. rw c.saturating_add.ensures
      (locate_at (placement_of a.self a.starts.now a.files.now) a.pos a.n a.starts.now a.files.now
      (enough (goal.at.returns-then-k-eq0 c).Else-lists_fail).places (in_data (goal.at.returns-then-k-eq0 c).Else-passes)
      (crosses (goal.at.returns-then-k-eq0 c).After-passes-2 v ∙ c.if-passes-2.false) _
      (found_first a.self a.starts.now a.files.now v _ (subst (Found _ _ _) c.if-k-eq0.true c.find-k.ensures)
      (within _ _ _ (crosses (goal.at.returns-then-k-eq0 c).After-passes-2 v ∙ c.if-passes-2.false))));
}

pub overflow_sub-k : goal.overflow_sub-k
overflow_sub-k c = let e = enough (goal.at.overflow_sub-k c).Else-lists_fail in omega (arith, e.starts, e.files, c.find-k.ensures.inside, c.if-k-eq0.false)

pub offset_bounds-files-k : goal.offset_bounds-files-k
offset_bounds-files-k c = let e = enough (goal.at.offset_bounds-files-k c).Else-lists_fail in omega (arith, e.starts, e.files, c.find-k.ensures.inside, c.if-k-eq0.false)

pub bounds-files-k : goal.bounds-files-k
bounds-files-k c = let e = enough (goal.at.bounds-files-k c).Else-lists_fail in omega (arith, e.starts, e.files, c.find-k.ensures.inside, c.if-k-eq0.false)

pub overflow_sub-k-2 : goal.overflow_sub-k-2
overflow_sub-k-2 c = let e = enough (goal.at.overflow_sub-k-2 c).Else-lists_fail in omega (arith, e.starts, e.files, c.find-k.ensures.inside, c.if-k-eq0.false)

pub offset_bounds-starts-k : goal.offset_bounds-starts-k
offset_bounds-starts-k c = let e = enough (goal.at.offset_bounds-starts-k c).Else-lists_fail in omega (arith, e.starts, e.files, c.find-k.ensures.inside, c.if-k-eq0.false)

pub bounds-starts-k : goal.bounds-starts-k
bounds-starts-k c = let e = enough (goal.at.bounds-starts-k c).Else-lists_fail in omega (arith, e.starts, e.files, c.find-k.ensures.inside, c.if-k-eq0.false)

pub overflow_sub-pos : goal.overflow_sub-pos
overflow_sub-pos c = c.find-k.ensures.below (omega (arith, c.if-k-eq0.false))

pub returns : goal.returns
returns c = let a = c.args in record {
  answer = λ v. rw c.saturating_add-2.ensures
      (locate_at (placement_of a.self a.starts.now a.files.now) a.pos a.n a.starts.now a.files.now (enough (goal.at.returns c).Else-lists_fail).places
      (in_data (goal.at.returns c).Else-passes) (crosses (goal.at.returns c).After-passes-2 v ∙ c.if-passes-2.false) _
      (found_later a.self a.starts.now a.files.now v _ _ (omega (arith, c.find-k.ensures.inside, c.if-k-eq0.false))
      (subst (Found _ _ _) (one_less _ c.if-k-eq0.false) c.find-k.ensures) (within _ _ _
      (crosses (goal.at.returns c).After-passes-2 v ∙ c.if-passes-2.false))));
}
