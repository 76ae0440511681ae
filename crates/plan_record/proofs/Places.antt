-- The region of a number by its place: which it is, and what changing or dropping it leaves.
use Rattle.std.proofs.lemmas.Iterator.Adapters.{position_from-zero}
use Rattle.std.specs.List.{position_from}
use Rattle.std.specs.Prelude.{Option, Some, None}
use Prim.Native.Nat.{ℕ, suc, ◌+◌, ◌≤◌, ◌<◌}
use mathlib.Core.Bool.{true-or, false-or}
use mathlib.Core.List.{List, [], ◌∷◌, ◌++◌, map}
use mathlib.Core.Path.{◌≡◌, refl, ap, sym, ◌∙◌}
use native.Mathlib.Omega.{arith}
use lib.Dec.{ltb, eqb}
use lib.ListN.{length, take, drop, set, get_or}
use borrow.Author.Tests.{eq-eqb, ne_eqb, lt-ltb, le-ltb}
use Rattle.model.specs.Region.{Region, no_region, id_of, region_of, on_region, without}
use Rattle.numbers.specs.Keyed.{has_key, keyed}
use Rattle.numbers.specs.Lists.{any}
use Rattle.plan_record.specs.Plan.{regions_of, number_of, place_of, spot_of, place_in}
use Rattle.plan_record.specs.declared.Region as plan
use Rattle.plan_record.specs.declared.Plan.{Plan}
use Rattle.numbers.proofs.Cases.{by_eq, by_lt, none_some, same_some}

-- ---- the search

module _ (id : ℕ) where
  pub place_most : (ns : List ℕ) → place_of id ns ≤ length ns
  unfolding place_of
  place_most [] = omega arith
  place_most (n ∷ ns) =
      let l = place_most ns in by_eq n id (λ e. simp (eq-eqb _ _ e) (omega arith)) (λ d. simp (ne_eqb _ _ d) (omega arith))

  abbrev place : List plan.Region → ℕ
  place gs = place_of id (map number_of gs)

  abbrev from : ℕ → List plan.Region → Option ℕ
  from n gs = position_from (λ (r : plan.Region). eqb r.number id) n gs

  found_from : (n i : ℕ) (gs : List plan.Region) → from n gs ≡ Some i → (i ≡ n + place gs) × (place gs < length gs)
  unfolding place_of
  found_from n i [] e = absurd (none_some e)
  found_from n i (g ∷ gs) e =
      by_eq g.number id
      (λ q. let h : Some n ≡ Some i = simp (eq-eqb _ _ q) at e in simp (eq-eqb _ _ q) (omega (arith, same_some h), omega arith))
      (λ d. let h : from (n + 1) gs ≡ Some i = simp (ne_eqb _ _ d) at e in let r = found_from (n + 1) i gs h in simp (ne_eqb _ _ d) (omega (arith, r.0), omega (arith, r.1)))

  none_from : (n : ℕ) (gs : List plan.Region) → from n gs ≡ None → place gs ≡ length gs
  unfolding place_of
  none_from n [] e = refl
  none_from n (g ∷ gs) e =
      by_eq g.number id
      (λ q. let h : Some n ≡ None = simp (eq-eqb _ _ q) at e in absurd (none_some (sym h)))
      (λ d. let h : from (n + 1) gs ≡ None = simp (ne_eqb _ _ d) at e in simp (ne_eqb _ _ d) (ap suc (none_from (n + 1) gs h)))

-- what `find` tells
pub found_is : (p : Plan) (id i : ℕ) → place_in p id ≡ Some i → (i ≡ spot_of p id) × (i < length (regions_of p))
found_is p id i e = let r = found_from id 0 i (regions_of p) (sym (position_from-zero (λ (g : plan.Region). eqb g.number id) (regions_of p)) ∙ e) in (omega (arith, r.0), omega (arith, r.0, r.1))

pub none_is : (p : Plan) (id : ℕ) → place_in p id ≡ None → spot_of p id ≡ length (regions_of p)
none_is p id e = none_from id 0 (regions_of p) (sym (position_from-zero (λ (g : plan.Region). eqb g.number id) (regions_of p)) ∙ e)

-- ---- the region at that place

ltb_suc : (m n : ℕ) → ltb m n ≡ ltb (suc m) (suc n)
ltb_suc m n = by_lt m n (λ l. lt-ltb _ _ l ∙ sym (lt-ltb (suc m) (suc n) (omega arith))) (λ l. le-ltb _ _ l ∙ sym (le-ltb (suc m) (suc n) (omega arith)))

module _ (id : ℕ) where
  abbrev pub spot : List Region → ℕ
  spot rs = place_of id (map id_of rs)

  pub known_place : (rs : List Region) → has_key id_of id rs ≡ ltb (spot rs) (length rs)
  unfolding place_of has_key any
  known_place [] = refl
  known_place (r ∷ rs) =
      by_eq r.number id (λ e. simp (eq-eqb _ _ e, true-or) (sym (lt-ltb 0 (length (r ∷ rs)) (omega arith))))
      (λ d. simp (ne_eqb _ _ d, false-or) (known_place rs ∙ ltb_suc (spot rs) (length rs)))

  pub region_place : (rs : List Region) → region_of id rs ≡ get_or rs (spot rs) no_region
  unfolding place_of keyed
  region_place [] = refl
  region_place (r ∷ rs) =
      by_eq r.number id (λ e. simp (eq-eqb _ _ e)) (λ d. simp (ne_eqb _ _ d) (region_place rs))

  pub on_place : (f : Region → Region) (rs : List Region) → on_region id f rs ≡ set rs (spot rs) (f (get_or rs (spot rs) no_region))
  unfolding place_of on_region
  on_place f [] = refl
  on_place f (r ∷ rs) =
      by_eq r.number id (λ e. simp (eq-eqb _ _ e)) (λ d. simp (ne_eqb _ _ d) (ap (λ (l : List Region). r ∷ l) (on_place f rs)))

  pub without_place : (rs : List Region) → without id rs ≡ take (spot rs) rs ++ drop (suc (spot rs)) rs
  unfolding place_of without
  without_place [] = refl
  without_place (r ∷ rs) =
      by_eq r.number id (λ e. simp (eq-eqb _ _ e)) (λ d. simp (ne_eqb _ _ d) (ap (λ (l : List Region). r ∷ l) (without_place rs)))
