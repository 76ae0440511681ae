-- The regions of lent lists, by index.
use Prim.Native.Nat.{ℕ, zero, suc, ◌+◌, ◌*◌, ◌<◌}
use mathlib.Core.Bool.{not}
use mathlib.Core.List.{List, [], ◌∷◌}
use mathlib.Core.Path.{◌≡◌, refl, ap, ◌∙◌}
use native.Mathlib.Nat.{le_of_suc-le-suc}
use native.Mathlib.Omega.{arith}
use lib.Dec.{eqb}
use lib.ListN.{length, get_or, take, drop}
use lib.Seq.{get_or-drop, drop-drop, take-nil}
use Rattle.numbers.specs.Pairs.{pairs}
use Rattle.numbers.specs.Range.{Range}
use Rattle.numbers.specs.Sums.{sum}
use Rattle.settle.specs.Inner.{no_region}
use Rattle.settle.specs.Regions.{Lent, Region, regions, regions_of}

pub length_regions : (n : ℕ) (seqs counts : List ℕ) (rs : List Range) (lens names : List ℕ) → length (regions n seqs counts rs lens names) ≡ n
unfolding regions
length_regions zero seqs counts rs lens names = refl
length_regions (suc n) seqs counts rs lens names = ap suc (length_regions n (drop 1 seqs) (drop 1 counts) (drop (get_or counts 0 0) rs) (drop 1 lens) (drop 24 names))

-- the region at i
abbrev pub region_at : (seqs counts : List ℕ) → List Range → (lens names : List ℕ) → ℕ → Region
region_at seqs counts rs lens names i =
    record {
      seq = get_or seqs i 0;
      ranges = take (get_or counts i 0) (drop (sum (take i counts)) rs);
      named = not (eqb (get_or lens i 0) 255);
      name = take (get_or lens i 0) (drop (24 * i) names);
    }

sum_first : (counts : List ℕ) (i : ℕ) → get_or counts 0 0 + sum (take i (drop 1 counts)) ≡ sum (take (suc i) counts)
unfolding sum
sum_first [] i = rw take-nil
sum_first (c ∷ counts) i = refl

pub region-at : (n : ℕ) (seqs counts : List ℕ) (rs : List Range) (lens names : List ℕ) (i : ℕ) → i < n
    → get_or (regions n seqs counts rs lens names) i no_region ≡ region_at seqs counts rs lens names i
unfolding regions sum
region-at zero seqs counts rs lens names i h = absurd (omega arith)
region-at (suc n) seqs counts rs lens names zero h = refl
region-at (suc n) seqs counts rs lens names (suc i) h =
    let e : 24 + 24 * i ≡ 24 * suc i = omega arith in
    let f : 1 + i ≡ suc i = omega arith in
    region-at n (drop 1 seqs) (drop 1 counts) (drop (get_or counts 0 0) rs) (drop 1 lens) (drop 24 names) i (le_of_suc-le-suc h)
    ∙ rw (
      get_or-drop 1 seqs i 0,
      get_or-drop 1 counts i 0,
      get_or-drop 1 lens i 0,
      f,
      drop-drop (sum (take i (drop 1 counts))) (get_or counts 0 0) rs,
      sum_first,
      drop-drop (24 * i) 24 names,
      e,
    )

module _ (g : Lent) where
  pub length_of : length (regions_of g) ≡ g.count
  length_of = length_regions g.count g.seqs g.counts (pairs g.ranges) g.lens g.names

  pub region_of : (i : ℕ) → i < g.count → get_or (regions_of g) i no_region ≡ region_at g.seqs g.counts (pairs g.ranges) g.lens g.names i
  region_of i h = region-at g.count g.seqs g.counts (pairs g.ranges) g.lens g.names i h
