-- Held and free bytes, and the totals of tags.
use Prim.Native.Nat.{ℕ, ◌+◌, ◌-◌, ◌*◌, ◌≤◌}
use mathlib.Core.List.{List, [], ◌∷◌, map}
use mathlib.Core.Path.{◌≡◌, refl}
use native.Mathlib.Omega.{arith}
use lib.Dec.{eqb}
use Rattle.footprint.specs.Footprint.{block_of}
use Rattle.footprint.specs.declared.Limits.{Limits}
use Rattle.model.specs.Calls.{region_in}
use Rattle.model.specs.Region.{Region, capacity, footprint, footprint_len, id_of}
use Rattle.model.specs.World.{World, block, held_ranges, held, free, of_tag, physical, logical}
use Rattle.numbers.specs.Keyed.{HasKey}
use Rattle.numbers.specs.Lists.{All}
use Rattle.numbers.specs.Range.{Within}
use Rattle.numbers.specs.Sums.{top, sum}
use Rattle.model.proofs.Regions.{all_footprints, footprints_total, if_tag, sum_tag, sum_without}
use Rattle.model.proofs.Sound.{Regular, Sound}
use Rattle.numbers.proofs.Cases.{cases}
use Rattle.numbers.proofs.Lists.{all_imp}
use Rattle.freemap.proofs.Held as bytes

-- a footprint is two blocks and the capacity
pub footprint-len : (lim : Limits) (r : Region) → footprint_len lim r ≡ 2 * block_of lim + capacity r
unfolding sum
footprint-len lim r = omega arith

-- sums of what is no greater are no greater
sum_le : (f g : Region → ℕ) (rs : List Region) → All (λ (r : Region). f r ≤ g r) rs → sum (map f rs) ≤ sum (map g rs)
unfolding sum
sum_le f g [] a = omega arith
sum_le f g (r ∷ rs) a = let i = sum_le f g rs a.1 in let l = a.0 in omega arith

tag_le : (f g : Region → ℕ) (tag : ℕ) (rs : List Region) → All (λ (r : Region). f r ≤ g r) rs → sum (map f (of_tag tag rs)) ≤ sum (map g rs)
tag_le f g tag rs a =
    let h : Region → ℕ = λ r. if_tag r.tag tag (f r) in
    let e = sum_tag f tag rs in
    let i = sum_le h g rs
    (all_imp (λ (r : Region). f r ≤ g r) (λ (r : Region). h r ≤ g r) (λ r l. cases (eqb r.tag tag) (λ t. simp t l) (λ t. simp t (omega arith))) rs a) in
    omega arith

-- held bytes from two blocks and the capacity of each region
pub held_by_capacity : (w : World) → held w ≡ sum (map (λ (r : Region). 2 * block w + capacity r) w.regions)
unfolding sum
held_by_capacity w = by_region w.regions
  where
    by_region : (rs : List Region) → sum (map (footprint_len w.limits) rs) ≡ sum (map (λ (r : Region). 2 * block w + capacity r) rs)
    by_region [] = refl
    by_region (r ∷ rs) = let i = by_region rs in let e = footprint-len w.limits r in omega arith

module _ (w : World) (s : Sound w) where
  -- footprints lie between table end and length
  pub held_within : All (Within w.limits.table_end w.limits.file_len) (held_ranges w)
  held_within =
      all_footprints (Within w.limits.table_end w.limits.file_len) w.limits w.regions
      (all_imp (Regular w.limits) (λ (r : Region). All (Within w.limits.table_end w.limits.file_len) (footprint w.limits r))
      (λ r q.
      all_imp (Within r.span-start r.span-end) (Within w.limits.table_end w.limits.file_len)
      (λ x i. record { from = omega (arith, i.from, q.table); upto = omega (arith, i.upto, q.file) }) (footprint w.limits r) q.inside)
      w.regions s.regular)

  pub held_and_free : held w + free w ≡ w.limits.file_len - w.limits.table_end
  held_and_free =
      let e = footprints_total w.limits w.regions in
      let h = bytes.held_and_free w.limits.table_end w.limits.file_len (omega (arith, s.container.file)) (held_ranges w) held_within s.apart in
      omega arith

  pub held_most : held w ≤ top
  held_most = let e = held_and_free in omega (arith, e, s.container.file)

  -- no total of a tag passes 2^64 - 1
  pub physical_most : (tag : ℕ) → physical w tag ≤ held w
  physical_most tag =
      tag_le (footprint_len w.limits) (footprint_len w.limits) tag w.regions
      (all_imp (Regular w.limits) (λ (r : Region). footprint_len w.limits r ≤ footprint_len w.limits r) (λ r q. omega arith) w.regions s.regular)

  pub logical_most : (tag : ℕ) → logical w tag ≤ held w
  logical_most tag =
      tag_le (λ (r : Region). r.published) (footprint_len w.limits) tag w.regions
      (all_imp (Regular w.limits) (λ (r : Region). r.published ≤ footprint_len w.limits r)
      (λ r q. let e = footprint-len w.limits r in omega (arith, q.size, e)) w.regions s.regular)

  -- nor a capacity
  pub capacity_most : (id : ℕ) → HasKey id_of id w.regions → capacity (region_in w id) ≤ top
  capacity_most id k =
      let e = sum_without (footprint_len w.limits) id w.regions k in
      let f = footprint-len w.limits (region_in w id) in
      let h = held_most in
      omega arith
