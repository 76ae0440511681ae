-- A region of a valid plan by its place: the region of the model's world, its map and its row.
use Rattle.std.specs.Prelude.{Some, None}
use Prim.Native.Nat.{ℕ, ◌≤◌, ◌<◌}
use mathlib.Core.Bool.{true, false}
use mathlib.Core.List.{List, map, map-map}
use mathlib.Core.Path.{◌≡◌, ap, sym, subst, ◌∙◌}
use native.Mathlib.Omega.{arith}
use lib.Dec.{ltb}
use lib.ListN.{length, get_or, length-map, length-take}
use lib.Seq.{get_or-take, length-take-le}
use borrow.Author.Tests.{le-ltb, lt-ltb}
use Rattle.model.specs.Calls.{known, region_in}
use Rattle.model.specs.World.{tag_of}
use Rattle.numbers.specs.Keyed.{HasKey}
use Rattle.plan_record.specs.Plan.{region_of, regions_of, world_of, Mapped, Valid, number_of, row_of, spot_of, place_of, past_region, place_in}
use Rattle.plan_record.specs.declared.Plan.{Plan}
use Rattle.plan_record.specs.declared.Region.{Region}
use Rattle.model.proofs.Sound.{Regular}
use Rattle.std.proofs.lemmas.List.{get_or-map}
use Rattle.numbers.proofs.Lists.{all_at, distinct_at}
use Rattle.plan_record.proofs.Places.{known_place, region_place, found_is, none_is}
use Rattle.model.specs.Region as model

-- the numbers of the regions, in the record and in the world
pub numbers_same : (xs : List ℕ) (gs : List Region) → map model.id_of (map (region_of xs) gs) ≡ map number_of gs
numbers_same xs gs = map-map model.id_of (region_of xs) gs

abbrev pub region_at : Plan → ℕ → Region
region_at p i = get_or p.regions i past_region

module _ (p : Plan) (xs : List ℕ) where
  pub known_is : (id : ℕ) → known (world_of p xs) id ≡ ltb (spot_of p id) (length (regions_of p))
  unfolding world_of known
  known_is id =
      known_place id (map (region_of xs) (regions_of p))
      ∙ rw (numbers_same xs (regions_of p), length-map (regions_of p) (region_of xs))

  pub known_here : (id i : ℕ) → place_in p id ≡ Some i → known (world_of p xs) id ≡ true
  known_here id i e = known_is id ∙ lt-ltb (spot_of p id) (length (regions_of p)) (omega (arith, (found_is p id i e).0, (found_is p id i e).1))

  pub known_not : (id : ℕ) → place_in p id ≡ None → known (world_of p xs) id ≡ false
  known_not id e = known_is id ∙ le-ltb (spot_of p id) (length (regions_of p)) (omega (arith, none_is p id e))

  module _ (i : ℕ) (h : i < length (regions_of p)) where
    counted_below : i < p.count
    counted_below = let m = length-take p.count p.regions in omega arith

    pub world_at : get_or (map (region_of xs) (regions_of p)) i model.no_region ≡ region_of xs (region_at p i)
    world_at = get_or-map (region_of xs) (regions_of p) i past_region model.no_region h ∙ ap (region_of xs) (get_or-take p.count p.regions i past_region counted_below)

    pub region_is : (id : ℕ) → i ≡ spot_of p id → region_in (world_of p xs) id ≡ region_of xs (region_at p i)
    unfolding world_of
    region_is id e =
        region_place id (map (region_of xs) (regions_of p))
        ∙ ap (λ (n : ℕ). get_or (map (region_of xs) (regions_of p)) n model.no_region) (ap (place_of id) (numbers_same xs (regions_of p)) ∙ sym e)
        ∙ world_at

module _ (p : Plan) (xs ss fs : List ℕ) (v : Valid p xs ss fs) where
  pub log_most : p.limits.log2_block ≤ 16
  unfolding world_of
  log_most = v.sound.container.high

  pub counted_is : length (regions_of p) ≡ p.count
  counted_is = length-take-le p.count p.regions (omega (arith, v.full, v.few))

  module _ (i : ℕ) (h : i < length (regions_of p)) where
    within : i < length p.regions
    within = omega (arith, counted_is, v.full, v.few)

    pub mapped_is : Mapped xs ss fs (region_at p i)
    mapped_is =
        subst (Mapped xs ss fs) (get_or-take p.count p.regions i past_region (omega (arith, counted_is)))
        (all_at (Mapped xs ss fs) (regions_of p) i past_region v.mapped h)

    pub row_is : (region_at p i).row < 64
    row_is = all_at (λ (r : Region). r.row < 64) p.regions i past_region v.inside within

    -- no other region has its row
    pub rows_differ : (k : ℕ) → k < 64 → (k ≡ i → ⊥) → (region_at p k).row ≡ (region_at p i).row → ⊥
    rows_differ k l d e =
        let m = length-map p.regions row_of in
        let w = within in
        let q : k < length p.regions = omega (arith, v.full) in
        distinct_at (map row_of p.regions) 0 k i v.rows (omega arith) (omega arith) d
        (get_or-map row_of p.regions k past_region 0 q ∙ e ∙ sym (get_or-map row_of p.regions i past_region 0 w))

    -- what the model's invariant says of it
    pub regular_is : Regular p.limits (region_of xs (region_at p i))
    unfolding world_of
    regular_is =
        subst (Regular p.limits) (world_at p xs i h)
        (all_at (Regular p.limits) (map (region_of xs) (regions_of p)) i model.no_region v.sound.regular (rw length-map h))

    pub tagged_is : HasKey tag_of (region_at p i).tag (world_of p xs).rows
    unfolding world_of
    tagged_is =
        subst (λ (r : model.Region). HasKey tag_of r.tag (world_of p xs).rows) (world_at p xs i h)
        (all_at (λ (r : model.Region). HasKey tag_of r.tag (world_of p xs).rows) (map (region_of xs) (regions_of p)) i model.no_region v.sound.tagged (rw length-map h))
