-- What each return of `drop` promises.
use Rattle.numbers.proofs.Answers.{no_error}
use Rattle.numbers.specs.declared.refusal.Refusal.TheVariants.{Unknown}
use Rattle.numbers.specs.declared.refusal.Refusal.{Refusal}
use Rattle.std.specs.Prelude.{Ok, Err, Some, None}
use Prim.Native.Nat.{ℕ, suc, ◌+◌, ◌-◌, ◌*◌, ◌≤◌, ◌<◌}
use mathlib.Core.Bool.{true}
use mathlib.Core.List.{List, map}
use mathlib.Core.Path.{◌≡◌, refl, ap, sym, subst, ◌∙◌}
use native.Mathlib.Omega.{arith}
use lib.ListN.{length, take, drop}
use Rattle.accounting.specs.declared.Posted.{Posted}
use Rattle.numbers.specs.Lists.{All}
use Rattle.numbers.specs.Refusals.{refuse, first}
use Rattle.numbers.specs.Sums.{stop}
use Rattle.plan_record.specs.Inner.{block_in}
use Rattle.plan_record.specs.Plan.{region_of, regions_of, row_of, world_of, Mapped, Valid, spot_of, place_of, place_in}
use Rattle.plan_record.specs.declared.Plan.{Plan}
use Rattle.plan_record.specs.declared.Region.{Region}
use Rattle.plan.specs.Calls.{Changes}
use Rattle.plan.specs.Inner.{refusing, rotated}
use Rattle.tagspace.specs.Row.{remove_usage}
use Rattle.model.proofs.Figures.{footprint-len, held_most}
use Rattle.model.proofs.Regions.{known_true, if_tag}
use Rattle.model.proofs.Totals.{drop_physical, drop_logical, drop_held}
use Rattle.numbers.proofs.Lists.{all_append, all_left, all_right}
use Rattle.plan_record.proofs.Holding.{block_is}
use Rattle.plan_record.proofs.Known.{region_at, numbers_same, known_here, known_not, region_is, mapped_is, counted_is, tagged_is}
use Rattle.plan_record.proofs.Places.{without_place, found_is}
use Rattle.plan_record.proofs.Tags.{Taken, posting_taken, row_no_full, rows_stay, accounted_removed}
use Rattle.plan.proofs.Capping.{with_accounts}
use Rattle.plan.proofs.Moving.{counted_split, moved_front, moved_map, moved_length, moved_all, moved_distinct}
use Rattle.plan.proofs.Refusing.{called_refused, called_accepted, Accepts}
use Rattle.accounting.specs.Table as accounting
use Rattle.model.specs.Calls as model
use Rattle.model.specs.Region as region
use Rattle.model.specs.World as world

module _ (p : Plan) (id : ℕ) where
  pub drop_unknown : place_in p id ≡ None → Changes p (model.drop id) (refusing p Unknown)
  unfolding model.refusal_to first refuse
  drop_unknown e = record { called = λ xs ss fs. called_refused p (model.drop id) xs ss fs Unknown (λ v. let k = known_not p xs id e in simp k) }

  module _ (i : ℕ) (f₀ : place_in p id ≡ Some i) (two len : ℕ) (t₀ : two ≡ 2 * block_in p) (n₀ : len ≡ stop ((region_at p i).map.capacity + two)) (q : Posted)
      (o : accounting.Posts p.accounts (accounting.on_row (region_at p i).tag (remove_usage (region_at p i).map.len len)) q) where
    abbrev g : Region
    g = region_at p i

    e : i ≡ spot_of p id
    e = (found_is p id i f₀).0

    inside : i < length (regions_of p)
    inside = (found_is p id i f₀).1

    abbrev p' : Plan
    p' = rotated (with_accounts p q.accounts) i

    module _ (xs ss fs : List ℕ) (v : Valid p xs ss fs) where
      abbrev w : world.World
      w = world_of p xs

      known_region : model.known w id ≡ true
      known_region = known_here p xs id i f₀

      taken : Taken p xs ss fs v g.tag (remove_usage g.map.len len) (λ r. refl) q
      taken = posting_taken p xs ss fs v g.tag _ (λ r. refl) q o (row_no_full w g.tag (tagged_is p xs ss fs v i inside))

      count_is : length (regions_of p) ≡ p.count
      count_is = counted_is p xs ss fs v

      within : length (regions_of p) ≤ length p.regions
      within = omega (arith, count_is, v.full, v.few)

      counted_all : take (length (regions_of p)) p.regions ≡ regions_of p
      counted_all = ap (λ (k : ℕ). take k p.regions) count_is

      regions_next : map (region_of xs) (regions_of p') ≡ region.without id (map (region_of xs) (regions_of p))
      regions_next =
          let s : place_of id (map region.id_of (map (region_of xs) (regions_of p))) ≡ i = ap (place_of id) (numbers_same xs (regions_of p)) ∙ sym e in
          moved_map p.regions i (length (regions_of p)) inside within (region_of xs)
          ∙ rw counted_all (sym (without_place id (map (region_of xs) (regions_of p)) ∙ rw s))

      world_next : world_of p' xs ≡ model.dropped w id
      unfolding world_of
      world_next = rw (regions_next, rows_stay p xs ss fs v g.tag _ (λ r. refl) (tagged_is p xs ss fs v i inside) q.accounts taken.table)

      -- what the footprint has
      len_is : len ≡ region.footprint_len w.limits (model.region_in w id)
      unfolding world_of
      len_is =
          let f = footprint-len w.limits (model.region_in w id) in
          let c = ap region.capacity (region_is p xs i inside id e) ∙ sym (mapped_is p xs ss fs v i inside).lays.capacity in
          let b = block_is p xs ss fs v in
          let d = drop_held w id (known_true w id known_region) in
          let h = held_most w v.sound in
          omega arith

      logical_next : (t : ℕ) → world.logical (world_of p' xs) t + if_tag g.tag t g.map.len ≡ world.logical w t
      logical_next t =
          ap (λ (y : world.World). world.logical y t + if_tag g.tag t g.map.len) world_next
          ∙ subst (λ (r : region.Region). world.logical (model.dropped w id) t + if_tag r.tag t r.published ≡ world.logical w t)
          (region_is p xs i inside id e) (drop_logical w id (known_true w id known_region) t)

      physical_next : (t : ℕ) → world.physical (world_of p' xs) t + if_tag g.tag t len ≡ world.physical w t
      physical_next t =
          ap (λ (y : world.World). world.physical y t + if_tag g.tag t len) world_next
          ∙ ap (λ (n : ℕ). world.physical (model.dropped w id) t + if_tag g.tag t n) len_is
          ∙ ap (λ (r : region.Region). world.physical (model.dropped w id) t + if_tag r.tag t (region.footprint_len w.limits (model.region_in w id)))
          (sym (region_is p xs i inside id e))
          ∙ drop_physical w id (known_true w id known_region) t

      mapped_next : All (Mapped xs ss fs) (regions_of p')
      mapped_next =
          let n = length (regions_of p) in
          let b = subst (All (Mapped xs ss fs)) (sym counted_all ∙ counted_split p.regions i n inside within) v.mapped in
          subst (All (Mapped xs ss fs)) (sym (moved_front p.regions i n inside within))
          (all_append (Mapped xs ss fs) (take i p.regions) (take (n - suc i) (drop (suc i) p.regions))
          (all_left (Mapped xs ss fs) (take i p.regions) _ b) (all_right (Mapped xs ss fs) (take i p.regions) _ b).1)

      accepts : Accepts p (model.drop id) xs ss fs xs ss fs None p' v
      unfolding model.refusal_to first refuse model.byte_for model.accept
      accepts =
          record {
            passes = simp known_region;
            byte = refl;
            world = world_next;
            valid = λ s.
                record {
                  full = moved_length p.regions i _ inside within ∙ v.full;
                  few = omega (arith, count_is, v.few);
                  extents = v.extents;
                  starts = v.starts;
                  files = v.files;
                  rows = moved_distinct p.regions i _ inside within row_of v.rows;
                  inside = moved_all p.regions i _ inside within (λ (r : Region). r.row < 64) v.inside;
                  mapped = mapped_next;
                  accounts = taken.valid;
                  accounted = accounted_removed p xs ss fs v g.tag g.map.len len p' xs (ap (λ (y : accounting.Table). y.rows) taken.table) logical_next physical_next;
                  sound = s;
                };
          }

    pub drop_never : (n : Refusal) → q.answer ≡ Err n → Changes p (model.drop id) (refusing p n)
    drop_never n h =
        record { called = λ xs ss fs. called_refused p (model.drop id) xs ss fs n (λ v. absurd (no_error tt n (sym (taken xs ss fs v).number ∙ h))) }

    pub drop_done : Changes p (model.drop id) (record { reply = Ok None; plan = p' })
    drop_done = record { called = λ xs ss fs. called_accepted p (model.drop id) xs ss fs xs ss fs None p' (accepts xs ss fs) }
