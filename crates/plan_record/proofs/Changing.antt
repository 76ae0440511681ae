-- A plan with one region changed in its place.
use Prim.Native.Nat.{ℕ, ◌≤◌, ◌<◌}
use mathlib.Core.List.{List, map}
use mathlib.Core.Path.{◌≡◌, refl, ap, sym, subst, ◌∙◌}
use native.Mathlib.Omega.{arith}
use lib.ListN.{length, set, get_or, length-map, length-set, length-take}
use lib.Seq.{get_or-take, get_or-set_same, get_or-set_other, take-set-lt, map-set_same, ext_get_or}
use Rattle.accounting.specs.declared.Accounting.{Accounting}
use Rattle.model.specs.Calls.{with_regions}
use Rattle.model.specs.World.{account_of}
use Rattle.numbers.specs.Lists.{All, Distinct}
use Rattle.numbers.specs.Pairs.{pairs}
use Rattle.plan_record.specs.Plan.{row_in, places, region_of, regions_of, rows_of, row_of, cap_of, world_of, Mapped, Valid, spot_of, place_of, past_region}
use Rattle.plan_record.specs.declared.Plan.{Plan}
use Rattle.plan_record.specs.declared.Region.{Region}
use Rattle.model.proofs.Sound.{Sound}
use Rattle.numbers.proofs.Cases.{by_eq}
use Rattle.numbers.proofs.Lists.{all_set, map_set, all_at, all_of}
use Rattle.plan_record.proofs.Known.{region_at, numbers_same, world_at, counted_is, mapped_is}
use Rattle.plan_record.proofs.Places.{on_place}
use Rattle.accounting.specs.Table as accounting
use Rattle.model.specs.Region as model

-- ---- rows that stay

-- The rows of a region are the same in other lists.
pub record Stays (xs ss fs xs' ss' fs' : List ℕ) (r : Region) : Type 0 where
  pub extents : row_in r.row (pairs xs') ≡ row_in r.row (pairs xs)
  pub starts : row_in r.row ss' ≡ row_in r.row ss
  pub files : row_in r.row fs' ≡ row_in r.row fs

module _ {xs ss fs xs' ss' fs' : List ℕ} {r : Region} (s : Stays xs ss fs xs' ss' fs' r) where
  pub region_stays : region_of xs' r ≡ region_of xs r
  region_stays = rw s.extents

  pub mapped_stays : Mapped xs ss fs r → Mapped xs' ss' fs' r
  mapped_stays m = record { count = m.count; room = m.room; valid = rw (s.starts, s.files) m.valid; lays = rw (s.starts, s.files, s.extents) m.lays }

pub stays_same : {xs ss fs : List ℕ} {r : Region} → Stays xs ss fs xs ss fs r
stays_same = record { extents = refl; starts = refl; files = refl }

-- ---- the plan with another region at place i

abbrev pub with_region : Plan → ℕ → Region → Accounting → Plan
with_region p i g a = record { limits = p.limits; last = p.last; count = p.count; regions = set p.regions i g; accounts = a }

module _ (p : Plan) (xs ss fs : List ℕ) (v : Valid p xs ss fs) (i : ℕ) (h : i < length (regions_of p)) (g : Region) (a : Accounting) (xs' ss' fs' : List ℕ)
    (others : (k : ℕ) → k < length (regions_of p) → (k ≡ i → ⊥) → Stays xs ss fs xs' ss' fs' (region_at p k)) where
  below : i < p.count
  below = let m = length-take p.count p.regions in omega arith

  -- the regions of its world
  pub regions_changed : (id : ℕ) (f : model.Region → model.Region) → i ≡ spot_of p id → region_of xs' g ≡ f (region_of xs (region_at p i))
      → map (region_of xs') (regions_of (with_region p i g a)) ≡ model.on_region id f (map (region_of xs) (regions_of p))
  regions_changed id f e w =
      let rs = map (region_of xs) (regions_of p) in
      let rs' = map (region_of xs') (regions_of p) in
      let l = length-map (regions_of p) (region_of xs) in
      let l' = length-map (regions_of p) (region_of xs') in
      let s : place_of id (map model.id_of rs) ≡ i = ap (place_of id) (numbers_same xs (regions_of p)) ∙ sym e in
      let z = f (region_of xs (region_at p i)) in
      let t : set rs' i z ≡ set rs i z =
      ext_get_or model.no_region (set rs' i z) (set rs i z) (rw (length-set, length-set) (omega arith))
      (λ k m.
      let n = length-set rs' i z in
      let q : k < length (regions_of p) = omega arith in
      by_eq k i
      (λ d. rw d (get_or-set_same rs' i z model.no_region (omega arith) ∙ sym (get_or-set_same rs i z model.no_region (omega arith))))
      (λ d.
      get_or-set_other rs' i k z model.no_region d ∙ world_at p xs' k q ∙ region_stays (others k q d) ∙ sym (world_at p xs k q)
      ∙ sym (get_or-set_other rs i k z model.no_region d))) in
      ap (map (region_of xs')) (take-set-lt p.count p.regions i g below)
      ∙ map_set (region_of xs') (regions_of p) i g
      ∙ ap (set rs' i) w
      ∙ t
      ∙ sym (on_place id f rs ∙ rw (s, world_at p xs i h))

  pub world_changed : (id : ℕ) (f : model.Region → model.Region) → i ≡ spot_of p id → region_of xs' g ≡ f (region_of xs (region_at p i))
      → map cap_of (accounting.table_of a).rows ≡ (world_of p xs).rows
      → world_of (with_region p i g a) xs' ≡ with_regions (world_of p xs) (model.on_region id f (world_of p xs).regions)
  unfolding world_of
  world_changed id f e w r = rw (regions_changed id f e w, r)

  pub changed_valid : g.row ≡ (region_at p i).row → Mapped xs' ss' fs' g
      → places ≤ length (pairs xs') → places ≤ length ss' → places ≤ length fs'
      → accounting.Valid a
      → ((tag : ℕ) → accounting.row_of tag (rows_of (with_region p i g a)) ≡ account_of (world_of (with_region p i g a) xs') tag)
      → Sound (world_of (with_region p i g a) xs')
      → Valid (with_region p i g a) xs' ss' fs'
  changed_valid r m lx ls lf av ac so =
      let q : regions_of (with_region p i g a) ≡ set (regions_of p) i g = take-set-lt p.count p.regions i g below in
      let n = counted_is p xs ss fs v in
      let c : i < length p.regions = omega (arith, v.full, v.few) in
      record {
        full = length-set p.regions i g ∙ v.full;
        few = v.few;
        extents = lx;
        starts = ls;
        files = lf;
        rows = subst Distinct (sym (map-set_same row_of p.regions i g past_region r)) v.rows;
        inside =
            all_set (λ (x : Region). x.row < 64) p.regions i g past_region v.inside
            (omega (arith, r, all_at (λ (x : Region). x.row < 64) p.regions i past_region v.inside c));
        mapped =
            subst (All (Mapped xs' ss' fs')) (sym q)
            (all_of (Mapped xs' ss' fs') (set (regions_of p) i g) past_region
            (λ k l.
            let n = length-set (regions_of p) i g in
            let b : k < length (regions_of p) = omega arith in
            by_eq k i
            (λ d. subst (Mapped xs' ss' fs') (sym (ap (λ (j : ℕ). get_or (set (regions_of p) i g) j past_region) d ∙ get_or-set_same (regions_of p) i g past_region h)) m)
            (λ d.
            subst (Mapped xs' ss' fs')
            (sym (get_or-set_other (regions_of p) i k g past_region d ∙ get_or-take p.count p.regions k past_region (let w = length-take p.count p.regions in omega arith)))
            (mapped_stays (others k b d) (mapped_is p xs ss fs v k b)))));
        accounts = av;
        accounted = ac;
        sound = so;
      }
