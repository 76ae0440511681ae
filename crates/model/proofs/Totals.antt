-- What each accepted call adds to the held bytes and to the totals of tags, and takes away.
use Prim.Native.Nat.{ℕ, ◌+◌, max}
use mathlib.Core.List.{List, [], ◌∷◌, ◌++◌, map, map-append}
use mathlib.Core.Path.{◌≡◌, ap, ◌∙◌}
use native.Mathlib.Omega.{arith}
use lib.Dec.{eqb}
use Rattle.footprint.specs.declared.Limits.{Limits}
use Rattle.model.specs.Calls.{region_in, header_len, created, created_at, step_len, grown, grown_at, published_to, published_at, dropped}
use Rattle.model.specs.Region.{Region, footprint_len, id_of, region_of, on_region, without}
use Rattle.model.specs.World.{World, held, of_tag, physical, logical}
use Rattle.numbers.specs.Keyed.{HasKey}
use Rattle.numbers.specs.Range.{range}
use Rattle.numbers.specs.Sums.{sum}
use Rattle.model.proofs.Figures.{footprint-len}
use Rattle.model.proofs.Regions.{if_tag, sum_tag, sum_on, sum_without}
use Rattle.numbers.proofs.Cases.{cases}
use Rattle.numbers.proofs.Sums.{sum_append, total_one}

-- ---- of any figure of a region

module _ (h : Region → ℕ) where
  sum_behind : (rs : List Region) (q : Region) → sum (map h (rs ++ (q ∷ []))) ≡ sum (map h rs) + h q
  unfolding sum
  sum_behind rs q = let e = sum_append (map h rs) (h q ∷ []) in ap sum (map-append h rs (q ∷ [])) ∙ omega arith

module _ (h : Region → ℕ) (t : ℕ) where
  -- what a region counts for the tag
  abbrev own : Region → ℕ
  own r = if_tag r.tag t (h r)

  tag_behind : (rs : List Region) (q : Region) → sum (map h (of_tag t (rs ++ (q ∷ [])))) ≡ sum (map h (of_tag t rs)) + own q
  tag_behind rs q = let a = sum_tag h t rs in let b = sum_tag h t (rs ++ (q ∷ [])) in let c = sum_behind own rs q in omega arith

  module _ (id : ℕ) (rs : List Region) (k : HasKey id_of id rs) where
    tag_on : (f : Region → Region) → sum (map h (of_tag t (on_region id f rs))) + own (region_of id rs) ≡ sum (map h (of_tag t rs)) + own (f (region_of id rs))
    tag_on f =
        let a = sum_tag h t rs in
        let b = sum_tag h t (on_region id f rs) in
        let c = sum_on own id f rs k in
        omega arith

    tag_without : sum (map h (of_tag t (without id rs))) + own (region_of id rs) ≡ sum (map h (of_tag t rs))
    tag_without =
        let a = sum_tag h t rs in
        let b = sum_tag h t (without id rs) in
        let c = sum_without own id rs k in
        omega arith

if_add : (tag t m n : ℕ) → if_tag tag t (m + n) ≡ if_tag tag t m + if_tag tag t n
if_add tag t m n = cases (eqb tag t) (λ e. simp e) (λ e. simp e)

-- ---- of footprints

created_len : (w : World) (id tag : ℕ) (name : List ℕ) (a : ℕ) → footprint_len w.limits (created w id tag name a) ≡ header_len w
unfolding sum
created_len w id tag name a = let e = footprint-len w.limits (created w id tag name a) in omega arith

grown_len : (lim : Limits) (a n : ℕ) (r : Region) → footprint_len lim (grown a n r) ≡ footprint_len lim r + n
grown_len lim a n r =
    let e = footprint-len lim r in
    let f = footprint-len lim (grown a n r) in
    let g = total_one r.extents (range a n) in
    omega arith

-- ---- create

module _ (w : World) (id tag : ℕ) (name : List ℕ) (a : ℕ) where
  abbrev next : World
  next = created_at w id tag name a

  pub create_held : held next ≡ held w + header_len w
  create_held =
      let e = sum_behind (footprint_len w.limits) w.regions (created w id tag name a) in let f = created_len w id tag name a in omega arith

  pub create_physical : (t : ℕ) → physical next t ≡ physical w t + if_tag tag t (header_len w)
  create_physical t =
      tag_behind (footprint_len w.limits) t w.regions (created w id tag name a)
      ∙ ap (λ (n : ℕ). physical w t + if_tag tag t n) (created_len w id tag name a)

  pub create_logical : (t : ℕ) → logical next t ≡ logical w t
  create_logical t =
      let e = tag_behind (λ (r : Region). r.published) t w.regions (created w id tag name a) in
      let z : if_tag tag t 0 ≡ 0 = cases (eqb tag t) (λ e. simp e) (λ e. simp e) in
      omega arith

-- ---- grow, publish and drop

module _ (w : World) (id : ℕ) (k : HasKey id_of id w.regions) where
  abbrev r : Region
  r = region_in w id

  abbrev len : Region → ℕ
  len q = footprint_len w.limits q

  abbrev published : Region → ℕ
  published q = q.published

  pub grow_held : (a : ℕ) → held (grown_at w id a) ≡ held w + step_len w r
  grow_held a =
      let e = sum_on len id (grown a (step_len w r)) w.regions k in let f = grown_len w.limits a (step_len w r) r in omega arith

  pub grow_physical : (a t : ℕ) → physical (grown_at w id a) t ≡ physical w t + if_tag r.tag t (step_len w r)
  grow_physical a t =
      let n : ℕ = step_len w r in
      let e = tag_on len t id w.regions k (grown a n) in
      let f = ap (if_tag r.tag t) (grown_len w.limits a n r) ∙ if_add r.tag t (len r) n in
      omega arith

  pub grow_logical : (a t : ℕ) → logical (grown_at w id a) t ≡ logical w t
  grow_logical a t = let e = tag_on published t id w.regions k (grown a (step_len w r)) in omega arith

  pub publish_held : (n : ℕ) → held (published_at w id n) ≡ held w
  publish_held n = let e = sum_on len id (published_to n) w.regions k in omega arith

  pub publish_physical : (n t : ℕ) → physical (published_at w id n) t ≡ physical w t
  publish_physical n t = let e = tag_on len t id w.regions k (published_to n) in omega arith

  pub publish_logical : (n t : ℕ) → logical (published_at w id n) t + if_tag r.tag t r.published ≡ logical w t + if_tag r.tag t (max r.published n)
  publish_logical n t = tag_on published t id w.regions k (published_to n)

  pub drop_held : held (dropped w id) + len r ≡ held w
  drop_held = sum_without len id w.regions k

  pub drop_physical : (t : ℕ) → physical (dropped w id) t + if_tag r.tag t (len r) ≡ physical w t
  drop_physical t = tag_without len t id w.regions k

  pub drop_logical : (t : ℕ) → logical (dropped w id) t + if_tag r.tag t r.published ≡ logical w t
  drop_logical t = tag_without published t id w.regions k
