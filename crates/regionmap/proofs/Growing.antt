-- A map extended: the last run longer, or one run more in the next slot of the lists.
use Rattle.numbers.specs.declared.refusal.Refusal.{Refusal}
use Rattle.std.specs.Prelude.{Ok, Err}
use Prim.Native.Nat.{ℕ, suc, ◌+◌, ◌≤◌, ◌<◌}
use mathlib.Core.Bool.{true, false, ◌||◌}
use mathlib.Core.List.{List, ◌∷◌}
use mathlib.Core.Path.{◌≡◌, refl, sym, subst}
use native.Mathlib.Omega.{arith}
use lib.Dec.{ltb, eqb}
use lib.ListN.{length, get_or, take, set, length-set}
use lib.Seq.{length-take-le, take-suc-set}
use borrow.Author.Tests.{lt-ltb, le-ltb}
use Rattle.numbers.specs.Range.{range}
use Rattle.numbers.specs.Refusals.{first, refuse, refusal_number}
use Rattle.numbers.specs.Sums.{top}
use Rattle.regionmap.specs.Map.{Placement, placement_of, Sound, Valid, too_few, passes_top, file_end, extended_runs, extended, extend_refusal, Extended}
use Rattle.regionmap.specs.declared.RegionMap.{RegionMap}
use Rattle.regionmap.proofs.Bytes.{extended_laid, extended_inside, extended_length}
use Rattle.regionmap.proofs.Lookup.{Enough}
use Rattle.regionmap.proofs.Means.{same_count, runs_count, means_at, means_new, means_longer}
use Rattle.regionmap.proofs.Order.{laid_last}
use Rattle.regionmap.proofs.Records.{refuses, accepts}

-- the refusal, test by test
module _ (p : Placement) (f n : ℕ) (ss fs : List ℕ) where
  pub extend_few : too_few p.room ss fs ≡ true → 1 ≡ extend_refusal p f n ss fs
  unfolding extend_refusal first refuse
  extend_few a = simp a

  module _ (a : too_few p.room ss fs ≡ false) where
    pub extend_outside : (eqb n 0 || passes_top (range f n)) ≡ true → 11 ≡ extend_refusal p f n ss fs
    unfolding extend_refusal first refuse
    extend_outside b = simp (a, b)

    module _ (b : (eqb n 0 || passes_top (range f n)) ≡ false) where
      pub extend_over : ltb top (p.capacity + n) ≡ true → 12 ≡ extend_refusal p f n ss fs
      unfolding extend_refusal first refuse
      extend_over c = simp (a, b, c)

      module _ (c : ltb top (p.capacity + n) ≡ false) where
        pub extend_full : eqb (file_end p.runs) f ≡ false → p.room < length p.runs → 19 ≡ extend_refusal p f n ss fs
        unfolding extend_refusal first refuse
        extend_full d h = simp (a, b, c, d, lt-ltb _ _ h)

        joining : eqb (file_end p.runs) f ≡ true → extend_refusal p f n ss fs ≡ 0
        unfolding extend_refusal first refuse
        joining d = simp (a, b, c, d)

        taking : eqb (file_end p.runs) f ≡ false → length p.runs ≤ p.room → extend_refusal p f n ss fs ≡ 0
        unfolding extend_refusal first refuse
        taking d h = simp (a, b, c, d, le-ltb _ _ h)

-- what an accepted extension keeps
module _ (p : Placement) (f n : ℕ) (s : Sound p) (some : 0 < length p.runs) (inside : f + n ≤ top) (whole : p.capacity + n ≤ top) where
  sound_extended : length (extended_runs p.runs p.capacity f n) ≤ p.room + 1 → Sound (extended p f n)
  sound_extended h =
      record {
        laid = extended_laid p.runs 0 p.capacity f n some s.laid;
        inside = extended_inside p.runs p.capacity f n some inside s.inside;
        whole = whole;
        fits = omega (arith, s.fits);
        counted = h;
        limited = s.limited;
      }

module _ (m : RegionMap) (f n : ℕ) (ss fs : List ℕ) where
  abbrev p : Placement
  p = placement_of m ss fs

  pub extend_refused : (r : Refusal) → (Valid m ss fs → refusal_number r ≡ extend_refusal p f n ss fs) → Extended m f n ss ss fs fs (Err r)
  extend_refused r h = record { answer = λ v. refuses r _ (extended p f n) ss fs (h v); valid = λ v. tt; starts = refl; files = refl }

  module _
      (e : Enough m ss fs) (b : (eqb n 0 || passes_top (range f n)) ≡ false) (c : ltb top (m.capacity + n) ≡ false)
      (inside : f + n ≤ top) (whole : m.capacity + n ≤ top) where
    ls : length (take m.count ss) ≡ m.count
    ls = length-take-le m.count ss e.starts

    same : length (take m.count ss) ≡ length (take m.count fs)
    same = same_count m ss fs e.starts e.files

    some : length p.runs ≡ m.count + 1
    some = runs_count m ss fs e.starts e.files

    -- the last run of a valid map starts at or below the capacity
    last_below : Valid m ss fs → get_or (0 ∷ take m.count ss) (length (take m.count ss)) 0 ≤ m.capacity
    last_below v =
        let l = laid_last p.runs 0 m.capacity m.count v.sound.laid (omega (arith, some)) in
        let s = (means_at m.capacity 0 m.first (take m.count ss) (take m.count fs) m.count same (omega (arith, ls))).0 in
        rw ls (omega (arith, l, s))

    abbrev joined_map : RegionMap
    joined_map = record { first = m.first; len = m.len; capacity = m.capacity + n; count = m.count; room = m.room }

    module _ (d : eqb (file_end p.runs) f ≡ true) where
      longer_runs : Valid m ss fs → placement_of joined_map ss fs ≡ extended p f n
      unfolding extended_runs
      longer_runs v = simp d (rw (means_longer m.capacity n 0 m.first (take m.count ss) (take m.count fs) same (last_below v)))

      pub extend_joins : Extended m f n ss ss fs fs (Ok joined_map)
      extend_joins =
          record {
            answer = λ v. accepts _ _ (extended p f n) (joining p f n ss fs e.places b c d) (longer_runs v);
            valid = λ v.
                record {
                  starts = e.starts;
                  files = e.files;
                  sound =
                      subst Sound (sym (longer_runs v))
                      (sound_extended p f n v.sound (omega (arith, some)) inside whole
                      (rw (extended_length p.runs m.capacity f n) (simp d (omega (arith, some, e.room)))));
                };
            starts = simp (le-ltb m.count m.count (omega arith));
            files = simp (le-ltb m.count m.count (omega arith));
          }

    abbrev longer_map : RegionMap
    longer_map = record { first = m.first; len = m.len; capacity = m.capacity + n; count = m.count + 1; room = m.room }

    module _ (d : eqb (file_end p.runs) f ≡ false) (h : m.count < m.room) (hs : m.count < length ss) (hf : m.count < length fs) where
      more_runs : placement_of longer_map (set ss m.count m.capacity) (set fs m.count f) ≡ extended p f n
      unfolding extended_runs
      more_runs =
          let o : m.count + 1 ≡ suc m.count = omega arith in
          simp d (rw (o, take-suc-set ss m.count m.capacity hs, take-suc-set fs m.count f hf, means_new m.capacity n 0 m.first f (take m.count ss) (take m.count fs) same))

      pub extend_takes : Extended m f n ss (set ss m.count m.capacity) fs (set fs m.count f) (Ok longer_map)
      extend_takes =
          record {
            answer = λ v. accepts _ _ (extended p f n) (taking p f n ss fs e.places b c d (omega (arith, some))) more_runs;
            valid = λ v.
                record {
                  starts = rw (length-set ss m.count m.capacity) (omega (arith, hs));
                  files = rw (length-set fs m.count f) (omega (arith, hf));
                  sound =
                      subst Sound (sym more_runs)
                      (sound_extended p f n v.sound (omega (arith, some)) inside whole
                      (rw (extended_length p.runs m.capacity f n) (simp d (omega (arith, some, h)))));
                };
            starts = simp (lt-ltb m.count (m.count + 1) (omega arith));
            files = simp (lt-ltb m.count (m.count + 1) (omega arith));
          }
