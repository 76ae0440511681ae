-- First fit among the gaps that a plan's footprints leave is the model's.
use Rattle.numbers.specs.declared.refusal.Refusal.{Refusal}
use Rattle.std.specs.Prelude.{Result, Option}
use Prim.Native.Nat.{ℕ, ◌+◌, ◌-◌, ◌*◌, ◌≤◌, ◌<◌, min}
use mathlib.Core.Bool.{true}
use mathlib.Core.List.{List, [], ◌∷◌, map}
use mathlib.Core.Path.{◌≡◌, refl, ap, ap₂, sym, subst₂, ◌∙◌}
use native.Mathlib.Omega.{arith}
use lib.ListN.{length, take, drop}
use lib.Pow.{pow_pos}
use lib.Seq.{sets-eq, take_at}
use Rattle.freemap.specs.Fit.{first_fit}
use Rattle.freemap.specs.Gaps.{gaps_of}
use Rattle.model.specs.Region.{footprint, footprints}
use Rattle.model.specs.World.{held_ranges}
use Rattle.numbers.specs.Lists.{All}
use Rattle.numbers.specs.Pairs.{pairs}
use Rattle.numbers.specs.Powers.{is_power_of_two}
use Rattle.numbers.specs.Range.{Range}
use Rattle.numbers.specs.Refusals.{accepted}
use Rattle.plan_record.specs.Inner.{block_in, region_extents, laid, laid_each, laid_all, Lays, Asked, Sought}
use Rattle.plan_record.specs.Plan.{region_of, regions_of, world_of, Mapped, Valid}
use Rattle.plan_record.specs.Promises.{Fits}
use Rattle.plan_record.specs.declared.Plan.{Plan}
use Rattle.plan_record.specs.declared.Region.{Region}
use Rattle.model.proofs.Figures.{held_within}
use Rattle.model.proofs.Regions.{all_footprints}
use Rattle.model.proofs.Sound.{Regular}
use Rattle.model.proofs.Spans.{block_most, least_is_fit}
use Rattle.numbers.proofs.Lists.{all_imp}
use Rattle.numbers.proofs.Pairs.{length_pairs, pairs_take}
use Rattle.numbers.proofs.Powers.{power_of}
use Rattle.plan_record.proofs.Holding.{block_is}
use Rattle.plan_record.proofs.Regions.{all_counted}
use Rattle.model.specs.Region as model

-- ---- what is laid is what is held

module _ (xs : List ℕ) (g : Region) where
  pub extents_are : g.extent_count ≤ 60 → g.row < 64 → region_extents xs g ≡ (region_of xs g).extents
  unfolding region_extents
  extents_are c h =
      let a : min g.extent_count 60 ≡ g.extent_count = omega arith in
      let b : min g.row 63 ≡ g.row = omega arith in
      rw (a, b)

module _ (p : Plan) (xs ss fs : List ℕ) (v : Valid p xs ss fs) where
  each_held : (gs : List Region) → All (λ (g : Region). g.row < 64) gs → All (Mapped xs ss fs) gs → laid_each (block_in p) xs gs ≡ footprints p.limits (map (region_of xs) gs)
  unfolding laid_each laid footprints world_of
  each_held [] a m = refl
  each_held (g ∷ gs) a m =
      let b = block_is p xs ss fs v in
      rw (each_held gs a.1 m.1, extents_are xs g m.0.count a.0, b)

  pub laid_held : laid_all p xs ≡ held_ranges (world_of p xs)
  unfolding world_of
  laid_held = each_held (regions_of p) (all_counted (λ (g : Region). g.row < 64) p v.inside) v.mapped

  pub power_is : is_power_of_two (block_in p) ≡ true
  power_is = power_of 64 (min p.limits.log2_block 16) (omega arith)

  -- no range that is held is empty
  pub held_some : All (λ (x : Range). 0 < x.len) (held_ranges (world_of p xs))
  unfolding world_of
  held_some =
      let b = pow_pos p.limits.log2_block in
      all_footprints (λ (x : Range). 0 < x.len) p.limits (world_of p xs).regions
      (all_imp (Regular p.limits) (λ (r : model.Region). All (λ (x : Range). 0 < x.len) (footprint p.limits r)) (λ r q. (b, (b, q.some)))
      (world_of p xs).regions v.sound.regular)

  -- what a search among them may take as given
  pub held_asked : (n : ℕ) → 0 < n → Asked p.limits.table_end p.limits.file_len n (block_in p) (laid_all p xs)
  unfolding world_of
  held_asked n pos =
      let b = block_most (world_of p xs) v.sound in
      let e = block_is p xs ss fs v in
      record {
        bytes = pos;
        power = power_is;
        sums = omega (arith, v.sound.container.file, e);
        inside = rw laid_held (held_within (world_of p xs) v.sound);
        some = rw laid_held held_some;
        apart = rw laid_held v.sound.apart;
      }

-- ---- the ranges that are lent to the search

module _ (p : Plan) (xs s t : List ℕ) (k : ℕ) (l : Lays s t 0 (laid_all p xs)) (e : k ≡ length (laid_all p xs)) (long : 2 * k ≤ length s) where
  pub lent_pairs : pairs (take (2 * k - 0) t) ≡ laid_all p xs
  lent_pairs =
      let d : 2 * k - 0 ≡ 2 * k = omega arith in
      let n = length_pairs s in
      rw (d, pairs_take k t, l.stored, sets-eq (laid_all p xs) (pairs s) 0 (omega arith))
      (take_at (laid_all p xs) (drop (0 + length (laid_all p xs)) (pairs s)) k (sym e))

  -- first fit beside them is the model's
  pub fits_lowest : (n b : ℕ) (r : Result (Option ℕ) Refusal) → b ≡ block_in p
      → Sought p.limits.table_end p.limits.file_len n b (pairs (take (2 * k - 0) t)) r → Fits p n xs r
  unfolding world_of
  fits_lowest n b r q f =
      record {
        told = λ ss fs v pos.
            let g = subst₂ (λ (b : ℕ) (rs : List Range). Sought p.limits.table_end p.limits.file_len n b rs r) q lent_pairs f in
            g.told (held_asked p xs ss fs v n pos)
            ∙ ap accepted
            (ap₂ (λ (b : ℕ) (rs : List Range). first_fit n b 0 (gaps_of p.limits.table_end p.limits.file_len rs)) (block_is p xs ss fs v) (laid_held p xs ss fs v)
            ∙ sym (least_is_fit (world_of p xs) v.sound n pos));
      }
