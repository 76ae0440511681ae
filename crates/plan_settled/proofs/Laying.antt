-- The footprints of all records, one behind the other.
use Prim.Native.Nat.{ℕ, ◌+◌, ◌-◌, ◌*◌, ◌≤◌, ◌<◌, ◌^◌}
use mathlib.Core.List.{List, [], ◌∷◌, ◌++◌, append_assoc, append-nil}
use mathlib.Core.Path.{◌≡◌, refl, ap, sym, subst, ◌∙◌}
use native.Mathlib.Omega.{arith}
use mir.Syntax.{w64}
use mir.Val.{Fits}
use lib.ListN.{length, take, set, length-append, length-set, drop_of_length-le}
use lib.Seq.{length-take-le}
use borrow.Rule.Slice.PartMut.{mid_of, put_mid, mid_len}
use Rattle.footprint.specs.Footprint.{block_of, committed}
use Rattle.footprint.specs.declared.Limits.{Limits}
use Rattle.model.specs.Region.{Region, footprint, footprints}
use Rattle.numbers.specs.Lists.{All, written}
use Rattle.numbers.specs.Pairs.{flat}
use Rattle.plan_checks.specs.Each.{Handed}
use Rattle.plan_checks.specs.Early.{ranges_of, Listed}
use Rattle.plan_checks.specs.Opening.{records_of}
use Rattle.plan_record.specs.Record.{record_of}
use Rattle.plan_record.specs.declared.Record.{Record}
use Rattle.plan_settled.specs.Settled.{Covered, Layable, regions_in}
use Rattle.model.proofs.Opening.{count_of, listed_by}
use Rattle.numbers.proofs.Lists.{written_length}
use Rattle.numbers.proofs.Pairs.{flat_append, flat_pairs, pairs_take}
use Rattle.plan_checks.proofs.Along.{records_next, each_next, listed_next}
use Rattle.plan_settled.proofs.Filling.{written_part}
use Rattle.model.specs.Open as model

-- ---- one footprint

-- the committed extents as numbers: the front of the own list
pub committed_flat : (r : model.Record) (xs : List ℕ) → 2 * count_of r ≤ length xs → flat (committed r.entry xs) ≡ take (2 * count_of r) xs
committed_flat r xs h =
    let l = length-take-le (2 * count_of r) xs h in
    ap flat (sym (pairs_take (count_of r) xs)) ∙ flat_pairs (take (2 * count_of r) xs) (omega arith)

module _ (lim : Limits) (r : model.Record) (xs : List ℕ) (block : ℕ) where
  -- four numbers, and a list copied behind them
  abbrev pub headed : List ℕ → List ℕ
  headed s = set (set (set (set s 0 r.entry.header_a) 1 block) 2 r.entry.header_b) 3 block

  behind_four : (s ys : List ℕ) (k : ℕ) → length s ≡ k + 4 → put_mid 4 k (headed s) ys
      ≡ r.entry.header_a ∷ block ∷ r.entry.header_b ∷ block ∷ ys
  behind_four [] ys k e = absurd (omega arith)
  behind_four (a ∷ []) ys k e = absurd (omega arith)
  behind_four (a ∷ b ∷ []) ys k e = absurd (omega arith)
  behind_four (a ∷ b ∷ c ∷ []) ys k e = absurd (omega arith)
  behind_four (a ∷ b ∷ c ∷ d ∷ s) ys k e =
      ap (λ (t : List ℕ). r.entry.header_a ∷ block ∷ r.entry.header_b ∷ block ∷ (ys ++ t)) (drop_of_length-le s {i = k} (omega arith))
      ∙ ap (λ (t : List ℕ). r.entry.header_a ∷ block ∷ r.entry.header_b ∷ block ∷ t) (append-nil ys)

  pub laid : (s ys : List ℕ) → block ≡ block_of lim → length s ≡ 2 * (count_of r + 2) → 2 * count_of r ≤ length xs
      → ys ≡ take (length (headed s) - 4) xs
      → put_mid 4 (length (headed s) - 4) (headed s) ys ≡ flat (footprint lim (model.region_from r xs))
  unfolding flat
  laid s ys b e h y =
      let n : length (headed s) ≡ length s = rw (length-set, length-set, length-set, length-set) refl in
      let k : length (headed s) - 4 ≡ 2 * count_of r = omega arith in
      behind_four s ys (length (headed s) - 4) (omega arith) ∙ rw (y, k, b, committed_flat r xs h) refl

-- ---- all

-- the footprints of the records before those that are left stand in s
pub record Laying (lim : Limits) (rs left : List Record) (l rest s₀ s : List ℕ) (to : ℕ) : Type 0 where
  pub ready : Layable lim (records_of left) (length rest) (length s₀ - to)
  pub inside : to ≤ length s₀
  pub done : List ℕ
  pub size : length done ≡ to
  pub value : s ≡ written done s₀
  pub decides : flat (footprints lim (regions_in rs l)) ≡ done ++ flat (footprints lim (regions_in left rest))

pub lay_begins : (lim : Limits) (rs left : List Record) (l rest s : List ℕ) → left ≡ rs → rest ≡ l
    → Layable lim (records_of rs) (length l) (length s) → Laying lim rs left l rest s s 0
lay_begins lim rs left l rest s p q a =
    let e : length s - 0 ≡ length s = omega arith in
    rw (p, q) (record { ready = rw e a; inside = omega arith; done = []; size = refl; value = refl; decides = refl })

module _ {lim : Limits} {rs left : List Record} {l rest s₀ s : List ℕ} {to : ℕ} (g : Laying lim rs left l rest s₀ s to) where
  pub lay_length : length s ≡ length s₀
  lay_length = rw g.value (written_length g.done s₀ (omega (arith, g.size, g.inside)))

  module _ {one : Record} {left' : List Record} {own rest' : List ℕ} (h : Handed left rest one own left' rest') where
    abbrev r : model.Record
    r = record_of one

    abbrev k : ℕ
    k = 2 * (count_of r + 2)

    next : (2 * listed_by r ≤ length rest) × (2 * ranges_of r ≤ length s₀ - to)
        × Listed (records_of left') (length rest') (length s₀ - to - 2 * ranges_of r)
    next = listed_next h (length s₀ - to) g.ready.long

    covered : Covered r × All Covered (records_of left')
    covered = subst (All Covered) (records_next h) g.ready.all

    pub lay_end : to + k ≤ length s
    lay_end = omega (arith, next.1, lay_length, g.inside)

    pub lay_small : length s < 2 ^ 64 → Fits w64 (to + k)
    lay_small b = omega (arith, lay_end)

    pub lay_part : length (mid_of to (to + k - to) s) ≡ k
    lay_part = mid_len to (to + k) s lay_end ∙ omega arith

    pub lay_own : 2 * count_of r ≤ length own
    lay_own =
        let n : length own ≡ 2 * listed_by r = ap length h.extents ∙ length-take-le (2 * listed_by r) rest next.0 in
        omega (arith, n, covered.0)

    pub lay_on : (ys : List ℕ) → ys ≡ flat (footprint lim (model.region_from r own)) → length ys ≡ length (mid_of to (to + k - to) s)
        → Laying lim rs left' l rest' s₀ (put_mid to (to + k - to) s ys) (to + k)
    unfolding footprints
    lay_on ys e q =
        let w : length ys ≡ k = q ∙ lay_part in
        let z : to + k - to ≡ k = omega arith in
        let m : length s₀ - (to + k) ≡ length s₀ - to - 2 * ranges_of r = omega arith in
        let t : List ℕ = flat (footprints lim (regions_in left' rest')) in
        record {
          ready = rw m (record { high = g.ready.high; all = covered.1; long = next.2 });
          inside = omega (arith, lay_end, lay_length);
          done = g.done ++ ys;
          size = length-append g.done ys ∙ omega (arith, g.size, w);
          value = rw (z, ← g.size, g.value) (written_part g.done s₀ ys k w (omega (arith, g.size, lay_end, lay_length)));
          decides =
              g.decides
              ∙ ap (λ (x : List Region). g.done ++ flat (footprints lim x)) (each_next h model.region_from)
              ∙ ap (λ (x : List ℕ). g.done ++ x)
              (flat_append (footprint lim (model.region_from r own)) _ ∙ ap (λ (x : List ℕ). x ++ t) (sym e))
              ∙ sym (append_assoc g.done ys t);
        }

  pub lay_ends : left ≡ [] → s ≡ written (flat (footprints lim (regions_in rs l))) s₀
  unfolding footprints model.each_record flat
  lay_ends z =
      let e : flat (footprints lim (regions_in rs l)) ≡ g.done = g.decides ∙ rw z (append-nil g.done) in
      g.value ∙ ap (λ (x : List ℕ). written x s₀) (sym e)
