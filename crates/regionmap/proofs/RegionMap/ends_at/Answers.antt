-- `regionmap::RegionMap::ends_at` meets its contract: the last run is the first one, or the last of the lists.
use Prim.Native.Nat.{ℕ, ◌<◌}
use mathlib.Core.Path.{ap, sym, ◌∙◌}
use native.Mathlib.Omega.{arith}
use lib.Dec.{eqb}
use Rattle.regionmap.proofs.Means.{end_first, end_later}
use Rattle.regionmap.proofs.RegionMap.ends_at.Goals as goal

pub returns-then-count-eq0 : goal.returns-then-count-eq0
returns-then-count-eq0 c = let a = c.args in c.meets.ensures ∙ ap (λ (e : ℕ). eqb e a.file) (sym (rw c.if-count-eq0.true (end_first _ _ a.starts.now a.files.now)))

pub overflow_sub-count : goal.overflow_sub-count
overflow_sub-count c = let h = c.requires in omega (arith, c.if-count-eq0.false, h.0, h.1)

pub offset_bounds-files-count : goal.offset_bounds-files-count
offset_bounds-files-count c = let h = c.requires in omega (arith, c.if-count-eq0.false, h.0, h.1)

pub bounds-files-count : goal.bounds-files-count
bounds-files-count c = let h = c.requires in omega (arith, c.if-count-eq0.false, h.0, h.1)

pub offset_bounds-starts-count : goal.offset_bounds-starts-count
offset_bounds-starts-count c = let h = c.requires in omega (arith, c.if-count-eq0.false, h.0, h.1)

pub bounds-starts-count : goal.bounds-starts-count
bounds-starts-count c = let h = c.requires in omega (arith, c.if-count-eq0.false, h.0, h.1)

pub returns : goal.returns
returns c = let a = c.args in let h = c.requires in let p : 0 < a.self.count = omega (arith, c.if-count-eq0.false) in c.meets-2.ensures ∙ ap
    (λ (e : ℕ). eqb e a.file) (rw c.saturating_sub.ensures (sym (end_later _ _ _ _ _ p h.0 h.1)))
