-- Held and free bytes by two blocks and the capacity of each region.
use Prim.Native.Nat.{ℕ, ◌+◌, ◌-◌, ◌*◌, ◌^◌, ◌≤◌, min}
use mathlib.Core.List.{List, [], ◌∷◌, map, map-map}
use mathlib.Core.Path.{◌≡◌, refl, ap, sym, ◌∙◌}
use native.Mathlib.Nat.{mul-suc}
use native.Mathlib.Omega.{arith}
use lib.ListN.{length, take}
use Rattle.model.specs.World.{block, held}
use Rattle.std.specs.Prelude.{fold}
use Rattle.numbers.specs.Sums.{stop, sum}
use Rattle.plan_record.specs.Inner.{block_in, held_by}
use Rattle.plan_record.specs.Plan.{region_of, regions_of, world_of, Mapped, Valid}
use Rattle.plan_record.specs.Promises.{HeldTold, FreeTold}
use Rattle.plan_record.specs.declared.Plan.{Plan}
use Rattle.plan_record.specs.declared.Region.{Region}
use Rattle.plan_record.proofs.Counted.{counted_are}
use Rattle.model.proofs.Figures.{held_by_capacity, held_and_free, held_most}
use Rattle.numbers.proofs.Lists.{map_same}
use Rattle.model.specs.Region as model

-- a block by its log, where that is one of a container
pub block_small : {r n : ℕ} → r ≡ 2 ^ min n 16 → n ≤ 16 → r ≡ 2 ^ n
block_small {r} {n} e h = e ∙ ap (λ (m : ℕ). 2 ^ m) (let q : min n 16 ≡ n = omega arith in q)

-- ---- the fold

abbrev parts : Plan → List ℕ
parts p = map (held_by (block_in p)) (regions_of p)

abbrev pub capacity_in : Region → ℕ
capacity_in r = r.map.capacity

-- the two sums together
abbrev pub two_sums : ℕ × ℕ → List Region → ℕ × ℕ
two_sums s rs = fold {A = Region} {B = ℕ × ℕ} (λ s r. (s.1, stop (s.0 + r.map.capacity))) s rs

fold_two : (a b : ℕ) (rs : List Region) → stop ((two_sums (a, b) rs).0 + (two_sums (a, b) rs).1) ≡ stop (a + b + sum (map capacity_in rs))
unfolding sum
fold_two a b [] = omega arith
fold_two a b (r ∷ rs) = fold_two b (stop (a + r.map.capacity)) rs ∙ omega arith

parts_sums : (b : ℕ) (rs : List Region) → sum (map (held_by b) rs) ≡ 2 * b * length rs + sum (map capacity_in rs)
unfolding sum
parts_sums b [] = omega arith
parts_sums b (r ∷ rs) = let i = parts_sums b rs in let m = mul-suc (2 * b) (length rs) in omega arith

-- ---- what the sum is

module _ (p : Plan) (xs ss fs : List ℕ) (v : Valid p xs ss fs) where
  pub block_is : block_in p ≡ block (world_of p xs)
  unfolding world_of
  block_is = block_small refl v.sound.container.high

  parts_sum : sum (parts p) ≡ held (world_of p xs)
  unfolding world_of
  parts_sum =
      let w = world_of p xs in
      let f : model.Region → ℕ = λ r. 2 * block w + model.capacity r in
      sym (held_by_capacity w ∙ ap sum (map-map f (region_of xs) (regions_of p)
      ∙ map_same (Mapped xs ss fs) (λ (r : Region). f (region_of xs r)) (held_by (block_in p))
      (λ r m. let c = m.lays.capacity in let b = block_is in omega arith) (regions_of p) v.mapped))

pub held_told : (p : Plan) (two n h : ℕ) (s : ℕ × ℕ) → two ≡ 2 * block_in p → n ≡ length (regions_of p)
    → s ≡ two_sums (0, 0) (take n p.regions) → h ≡ stop (stop (two * n + s.0) + s.1) → HeldTold p h
held_told p two n h s t c e d =
    record {
      told = λ xs ss fs v.
          let f = fold_two 0 0 (regions_of p) in
          let k = parts_sums (block_in p) (regions_of p) in
          let m = held_most (world_of p xs) v.sound in
          let q = parts_sum p xs ss fs v in
          let g : s ≡ two_sums (0, 0) (regions_of p) = rw (← counted_are p n c) e in
          let j : two * n ≡ 2 * block_in p * length (regions_of p) = rw (t, c) refl in
          omega (arith, d, q, m, ap (λ (x : ℕ × ℕ). x.0) g, ap (λ (x : ℕ × ℕ). x.1) g);
    }

pub free_told : (p : Plan) (a h r : ℕ) → HeldTold p h → a ≡ p.limits.file_len - p.limits.table_end → r ≡ a - h → FreeTold p r
unfolding world_of
free_told p a h r t e f =
    record {
      told = λ xs ss fs v.
          let q = held_and_free (world_of p xs) v.sound in
          let m = t.told xs ss fs v in
          omega arith;
    }
