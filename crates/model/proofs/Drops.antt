-- An accepted drop: the region is unknown then, and its bytes are free.
use Prim.Native.Nat.{ℕ}
use mathlib.Core.Bool.{true, false}
use mathlib.Core.List.{List, [], ◌∷◌, ◌++◌, map}
use mathlib.Core.Logic.{⊎_elim}
use mathlib.Core.Path.{◌≡◌, ap, sym, subst, ◌∙◌}
use native.Mathlib.Omega.{arith}
use borrow.Author.Tests.{eq-eqb, ne_eqb}
use Rattle.freemap.specs.Gaps.{Covered}
use Rattle.model.specs.Calls.{drop, known, region_in, refusal_to, accept, dropped, next}
use Rattle.model.specs.Region.{Region, footprint, footprints, id_of, without}
use Rattle.model.specs.World.{World, held_ranges}
use Rattle.numbers.specs.Keyed.{HasKey}
use Rattle.numbers.specs.Lists.{Distinct}
use Rattle.numbers.specs.Range.{Range, Has, Disjoint}
use Rattle.numbers.specs.Refusals.{first, refuse}
use Rattle.model.proofs.Regions.{known_true, split, held_split, held_dropped}
use Rattle.model.proofs.Sound.{Sound}
use Rattle.model.proofs.Steps.{next_accepted, next_refused}
use Rattle.numbers.proofs.Cases.{cases, by_eq, never}
use Rattle.numbers.proofs.Disjoint.{MeetsNone, all_shared, disjoint_left, disjoint_between}
use Rattle.numbers.proofs.Lists.{all_imp, all_none, all_right, any_parts, map_all}
use Rattle.numbers.proofs.Refusals.{none_first, pass_none}

-- no other region has the number
without_none : (id : ℕ) (rs : List Region) → Distinct (map id_of rs) → HasKey id_of id (without id rs) → ⊥
unfolding without
without_none id [] d = λ h. h
without_none id (r ∷ rs) d =
    by_eq r.number id
    (λ e.
    let a = map_all (λ (n : ℕ). r.number ≡ n → ⊥) id_of rs d.0 in
    simp (eq-eqb _ _ e)
    (all_none (λ (q : Region). q.number ≡ id) rs
    (all_imp (λ (q : Region). r.number ≡ q.number → ⊥) (λ (q : Region). q.number ≡ id → ⊥) (λ q n f. n (e ∙ sym f)) rs a)))
    (λ e. simp (ne_eqb _ _ e) (⊎_elim e (without_none id rs d.1)))

module _ (w : World) (s : Sound w) (id : ℕ) (k : known w id ≡ true) where
  h : HasKey id_of id w.regions
  h = known_true w id k

  pub drop_next : next w (drop id) ≡ dropped w id
  unfolding refusal_to accept
  drop_next = next_accepted w (drop id) (none_first _ (pass_none 16 _ (rw k), tt))

  -- its number is free for another region
  pub drop_forgets : known (next w (drop id)) id ≡ false
  drop_forgets = rw drop_next (never _ (λ e. without_none id w.regions s.numbers (known_true (dropped w id) id e)))

  -- "its bytes are free for the next call"
  pub drop_frees : (b : ℕ) → Covered (footprint w.limits (region_in w id)) b → Covered (held_ranges (next w (drop id))) b → ⊥
  drop_frees b c =
      let t = split id w.regions h in
      let xs = footprints w.limits t.front in
      let fs = footprint w.limits (region_in w id) in
      let ys = footprints w.limits t.behind in
      let d : Disjoint ((xs ++ fs) ++ ys) = subst Disjoint (held_split w.limits id w.regions t) s.apart in
      rw (drop_next, held_dropped w.limits id w.regions t)
      (λ a.
      ⊎_elim (λ g. all_shared xs fs (disjoint_between xs fs (disjoint_left (xs ++ fs) ys d)) b g c)
      (all_shared fs ys (all_right (λ (x : Range). MeetsNone x ys) xs fs (disjoint_between (xs ++ fs) ys d)) b c)
      (any_parts (λ (x : Range). Has x b) xs ys a))

-- after a drop, accepted or refused, the number is unknown
pub drop_unknown : (w : World) → Sound w → (id : ℕ) → known (next w (drop id)) id ≡ false
unfolding refusal_to first refuse
drop_unknown w s id =
    cases (known w id) (λ k. drop_forgets w s id k)
    (λ k. let e : refusal_to w (drop id) ≡ 16 = simp k in ap (λ (v : World). known v id) (next_refused w (drop id) (λ z. omega (arith, e, z))) ∙ k)
