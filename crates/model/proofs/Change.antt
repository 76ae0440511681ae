-- Accepted calls on a region that is there, and on a tag's cap, keep a world sound.
use Rattle.std.specs.Prelude.{Option}
use Prim.Native.Nat.{ℕ, ◌+◌, ◌*◌, ◌/◌, ◌%◌, ◌^◌, ◌≤◌, ◌<◌, min, max}
use mathlib.Core.Bool.{false}
use mathlib.Core.List.{List, [], ◌∷◌, ◌++◌}
use mathlib.Core.Path.{◌≡◌, refl, sym, subst}
use native.Mathlib.Nat.{mul-pos}
use native.Mathlib.Omega.{arith}
use lib.Dec.{leb}
use lib.ListN.{length, length-append}
use lib.Pow.{pow_pos, pow-add}
use borrow.Author.Tests.{ltb-false, leb-true, leb-false, le-leb, eqb-true, eqb-false, not-false}
use Rattle.footprint.specs.Footprint.{kind_code}
use Rattle.footprint.specs.declared.RegionKind.TheVariants.{Slot}
use Rattle.model.specs.Calls.{tag_full, cap_fails, region_in, with_regions, step, step_len, grow_tests, grown, publish_tests, published_to, dropped, capped, published_at}
use Rattle.model.specs.Region.{Region, capacity, footprint, footprints, id_of, on_region}
use Rattle.model.specs.Span.{FreeSpan}
use Rattle.model.specs.World.{World, TagRow, tag_row, tag_of}
use Rattle.numbers.specs.Keyed.{HasKey}
use Rattle.numbers.specs.Lists.{Distinct}
use Rattle.numbers.specs.Range.{Range, range, Disjoint, Within}
use Rattle.numbers.specs.Refusals.{first}
use Rattle.model.proofs.Regions.{known_true, split, all_on, all_without, map_on, distinct_without, length_on, length_without, held_front, held_behind, held_parts, held_split, held_grown, held_dropped, held_kept}
use Rattle.model.proofs.Rows.{put_few, put_ordered, put_tagged}
use Rattle.model.proofs.Sound.{Regular, Sound}
use Rattle.numbers.proofs.Cases.{cases, by_lt}
use Rattle.numbers.proofs.Disjoint.{MeetsNone, disjoint_with, disjoint_without}
use Rattle.numbers.proofs.Lists.{all_append, all_imp}
use Rattle.numbers.proofs.Refusals.{first_none, refuse_none}
use Rattle.numbers.proofs.Sums.{total_one}

-- ---- the step

pub step_some : (n : ℕ) → 0 < step n
unfolding step
step_some n =
    let p = pow_pos (n / 2) in
    cases (leb n 23) (λ e. simp e (omega arith)) (λ e. simp e (omega arith))

-- it doubles with every second extent, up to the last of the 24, from which on it stays
pub step_doubles : (n : ℕ) → n ≤ 21 → step (n + 2) ≡ 2 * step n
unfolding step
step_doubles n h =
    let e : (n + 2) / 2 ≡ n / 2 + 1 = omega arith in
    simp (le-leb (n + 2) 23 (omega arith), le-leb n 23 (omega arith)) (rw (e, pow-add 2 (n / 2) 1) (omega arith))

pub step_last : (n : ℕ) → 22 ≤ n → step n ≡ 32768
unfolding step
step_last n h =
    cases (leb n 23)
    (λ e. let l = leb-true n 23 e in let q : n / 2 ≡ 11 = omega arith in simp e (rw q))
    (λ e. simp e)

pub step_len_some : (w : World) (r : Region) → 0 < step_len w r
step_len_some w r = mul-pos (step_some (length r.extents)) (pow_pos w.limits.log2_block)

-- ---- a change of one region that keeps its number, name, tag and sequence number

module _ (w : World) (s : Sound w) (id : ℕ) (k : HasKey id_of id w.regions) (f : Region → Region) where
  changed_sound :
      ((r : Region) → ((f r).number ≡ r.number) × ((f r).name ≡ r.name) × ((f r).tag ≡ r.tag) × ((f r).seq ≡ r.seq))
      → (Regular w.limits (region_in w id) → Regular w.limits (f (region_in w id)))
      → Disjoint (footprints w.limits (on_region id f w.regions))
      → Sound (with_regions w (on_region id f w.regions))
  changed_sound same g d =
      record {
        container = s.container;
        few = let n = length_on id f w.regions in omega (arith, n, s.few);
        regular = all_on (Regular w.limits) id f w.regions k g s.regular;
        numbers = subst Distinct (sym (map_on (λ (r : Region). r.number) id f (λ r. (same r).0) w.regions)) s.numbers;
        names = subst Distinct (sym (map_on (λ (r : Region). r.name) id f (λ r. (same r).1) w.regions)) s.names;
        apart = d;
        tagged =
            all_on (λ (r : Region). HasKey tag_of r.tag w.rows) id f w.regions k
            (λ h. subst (λ (n : ℕ). HasKey tag_of n w.rows) (sym (same (region_in w id)).2) h) s.tagged;
        rows_few = s.rows_few;
        order = s.order;
        seqs = all_on (λ (r : Region). r.seq ≤ w.last) id f w.regions k (λ h. let e = (same (region_in w id)).3 in omega (arith, e, h)) s.seqs;
      }

-- ---- grow

-- What it means that no test before that of room failed.
pub record Grows (w : World) (id : ℕ) : Type 0 where
  pub known : HasKey id_of id w.regions
  pub kind : kind_code (region_in w id).kind ≡ kind_code Slot → ⊥
  pub extent : length (region_in w id).extents < 60
  pub within : cap_fails w (region_in w id).tag (step_len w (region_in w id)) ≡ false

pub grows : (w : World) (id : ℕ) → first (grow_tests w id) ≡ 0 → Grows w id
grows w id z =
    let t16 = first_none _ _ z in
    let t17 = first_none _ _ t16.1 in
    let t19 = first_none _ _ t17.1 in
    let t21 = first_none _ _ t19.1 in
    record {
      known = known_true w id (not-false _ (refuse_none 16 _ (omega arith) t16.0));
      kind = eqb-false _ _ (refuse_none 17 _ (omega arith) t17.0);
      extent = leb-false _ _ (refuse_none 19 _ (omega arith) t19.0);
      within = refuse_none 21 _ (omega arith) t21.0;
    }

module _ (w : World) (s : Sound w) (id : ℕ) (g : Grows w id) (a n : ℕ) (pos : 0 < n) (f : FreeSpan w n a) where
  abbrev x : Range
  x = range a n

  grown_regular : (r : Region) → length r.extents < 60 → Regular w.limits r → Regular w.limits (grown a n r)
  grown_regular r l q =
      let t = total_one r.extents x in
      record {
        name = q.name;
        count = let m = length-append r.extents (x ∷ []) in omega (arith, m, l);
        log = q.log;
        first = q.first;
        second = q.second;
        table = omega (arith, q.table, f.from);
        file = omega (arith, q.file, f.upto);
        inside =
            all_append (Within (min r.span-start a) (max r.span-end (a + n))) (footprint w.limits r) (x ∷ [])
            (all_imp (Within r.span-start r.span-end) (Within (min r.span-start a) (max r.span-end (a + n)))
            (λ y i. let b = i.from in let u = i.upto in record { from = omega arith; upto = omega arith }) (footprint w.limits r) q.inside)
            (record { from = omega arith; upto = omega arith }, tt);
        some = all_append (λ (y : Range). 0 < y.len) r.extents (x ∷ []) q.some (pos, tt);
        size = omega (arith, q.size, t);
        multiple = q.multiple;
      }

  pub grown_sound : Sound (with_regions w (on_region id (grown a n) w.regions))
  grown_sound =
      let c = split id w.regions g.known in
      let e = held_split w.limits id w.regions c in
      changed_sound w s id g.known (grown a n) (λ r. (refl, refl, refl, refl)) (grown_regular (region_in w id) g.extent)
      (rw (held_grown w.limits id w.regions c a n)
      (disjoint_with (held_front w.limits id w.regions c) x (held_behind w.limits id w.regions c)
      (subst Disjoint e s.apart) (subst (MeetsNone x) e f.apart)))

-- ---- publish

pub record Publishes (w : World) (id len : ℕ) : Type 0 where
  pub known : HasKey id_of id w.regions
  pub multiple : len % 2 ^ (region_in w id).log2 ≡ 0
  pub size : len ≤ capacity (region_in w id)

pub publishes : (w : World) (id len : ℕ) → first (publish_tests w id len) ≡ 0 → Publishes w id len
publishes w id len z =
    let t16 = first_none _ _ z in
    let t10 = first_none _ _ t16.1 in
    let t23 = first_none _ _ t10.1 in
    record {
      known = known_true w id (not-false _ (refuse_none 16 _ (omega arith) t16.0));
      multiple = eqb-true _ _ (not-false _ (refuse_none 10 _ (omega arith) t10.0));
      size = ltb-false _ _ (refuse_none 23 _ (omega arith) t23.0);
    }

-- the greater of two is one of them
max_is : (P : ℕ → Type 0) (m n : ℕ) → P m → P n → P (max m n)
max_is P m n p q =
    by_lt m n (λ l. let e : n ≡ max m n = omega arith in subst P e q) (λ l. let e : m ≡ max m n = omega arith in subst P e p)

pub published_sound : (w : World) → Sound w → (id len : ℕ) → Publishes w id len → Sound (published_at w id len)
published_sound w s id len p =
    changed_sound w s id p.known (published_to len) (λ r. (refl, refl, refl, refl))
    (λ q.
    record {
      name = q.name;
      count = q.count;
      log = q.log;
      first = q.first;
      second = q.second;
      table = q.table;
      file = q.file;
      inside = q.inside;
      some = q.some;
      size = omega (arith, q.size, p.size);
      multiple = max_is (λ (n : ℕ). n % 2 ^ (region_in w id).log2 ≡ 0) (region_in w id).published len q.multiple p.multiple;
    })
    (subst Disjoint (sym (held_kept w.limits id (published_to len) (λ r. refl) w.regions)) s.apart)

-- ---- drop

disjoint_parts : (xs zs ys : List Range) → Disjoint (xs ++ (zs ++ ys)) → Disjoint (xs ++ ys)
disjoint_parts xs [] ys d = d
disjoint_parts xs (z ∷ zs) ys d = disjoint_parts xs zs ys (disjoint_without xs z (zs ++ ys) d)

pub dropped_sound : (w : World) → Sound w → (id : ℕ) → HasKey id_of id w.regions → Sound (dropped w id)
dropped_sound w s id k =
    let c = split id w.regions k in
    record {
      container = s.container;
      few = let n = length_without id w.regions in omega (arith, n, s.few);
      regular = all_without (Regular w.limits) id w.regions s.regular;
      numbers = distinct_without (λ (r : Region). r.number) id w.regions s.numbers;
      names = distinct_without (λ (r : Region). r.name) id w.regions s.names;
      apart =
          rw (held_dropped w.limits id w.regions c)
          (disjoint_parts (footprints w.limits c.front) (footprint w.limits (region_in w id)) (footprints w.limits c.behind)
          (subst Disjoint (held_parts w.limits id w.regions c) s.apart));
      tagged = all_without (λ (r : Region). HasKey tag_of r.tag w.rows) id w.regions s.tagged;
      rows_few = s.rows_few;
      order = s.order;
      seqs = all_without (λ (r : Region). r.seq ≤ w.last) id w.regions s.seqs;
    }

-- ---- cap

pub capped_sound : (w : World) → Sound w → (tag : ℕ) (limit : Option ℕ) → tag_full w tag ≡ false → Sound (capped w tag limit)
capped_sound w s tag limit f =
    let t : TagRow = tag_row tag limit in
    record {
      container = s.container;
      few = s.few;
      regular = s.regular;
      numbers = s.numbers;
      names = s.names;
      apart = s.apart;
      tagged = put_tagged w s t;
      rows_few = put_few w s t f;
      order = put_ordered w s t;
      seqs = s.seqs;
    }
