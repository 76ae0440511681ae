-- The regions in their rows.
use Prim.Native.Nat.{ℕ, suc, ◌-◌, ◌+◌, ◌*◌, ◌≤◌, ◌<◌}
use mathlib.Core.List.{List, [], ◌∷◌, map}
use mathlib.Core.Path.{◌≡◌, refl, ap, sym, subst, ◌∙◌}
use native.Mathlib.Omega.{arith}
use lib.ListN.{length, get_or, take, drop, set, length-drop, length-map, length-set}
use lib.Seq.{drop-drop, get_or-set_same, get_or-set_other}
use borrow.Rule.Slice.PartMut.{mid_of, put_mid, mid_len, same_len_mid}
use Rattle.numbers.specs.Pairs.{pairs}
use Rattle.numbers.specs.Range.{Range}
use Rattle.numbers.specs.Sums.{sum}
use Rattle.plan_checks.specs.Each.{Handed}
use Rattle.plan_checks.specs.Opening.{records_of}
use Rattle.plan_open.specs.Build.{Rows, Behind, past_record, own_of, Fitting, InRow, Filled}
use Rattle.plan_open.specs.Rows.{Fit, Rowed}
use Rattle.plan_record.specs.Plan.{row_in, past_region}
use Rattle.plan_record.specs.Record.{record_of}
use Rattle.plan_record.specs.declared.Record.{Record}
use Rattle.plan_record.specs.declared.Region.{Region}
use Rattle.model.proofs.Opening.{listed_by}
use Rattle.numbers.proofs.Cases.{by_eq}
use Rattle.std.proofs.lemmas.List.{get_or-map}
use Rattle.numbers.proofs.Lists.{from_here}
use Rattle.numbers.proofs.Pairs.{length_pairs}
use Rattle.numbers.proofs.Sums.{sum_next}
use Rattle.plan_open.proofs.Looping.{row_set}
use Rattle.plan_open.proofs.Parts.{put_behind, row_put, row_keep, pair_rows}
use Rattle.model.specs.Open as model

-- a part of w numbers put back at w * i
module _ (w m i : ℕ) (xs₀ xs ys : List ℕ) (g : Behind m xs₀ xs) (h : w * i + w ≤ m) (l : m ≤ length xs₀) where
  abbrev k : ℕ
  k = w * i + w - w * i

  pub part_long : length (mid_of (w * i) k xs) ≡ w
  part_long = mid_len (w * i) (w * i + w) xs (omega (arith, g.size)) ∙ omega arith

  pub behind_on : length ys ≡ length (mid_of (w * i) k xs) → Behind m xs₀ (put_mid (w * i) k xs ys)
  behind_on q =
      let p = part_long in
      record {
        size = same_len_mid (w * i) k xs ys q ∙ g.size;
        behind = put_behind (w * i) (w * i + w) m xs ys (omega arith) h (omega (arith, g.size)) (omega arith) ∙ g.behind;
      }

rowed_as : {r r' : model.Record} {o o' : List ℕ} {i : ℕ} {xs xs' : List Range} {ss ss' fs fs' : List ℕ} {g g' : Region}
    → Rowed r o i xs ss fs g
    → r' ≡ r → o' ≡ o → xs' ≡ xs → ss' ≡ ss → fs' ≡ fs → g' ≡ g → Rowed r' o' i xs' ss' fs' g'
rowed_as q a b c d e f = rw (a, b, c, d, e, f) q

-- ---- ---- the next record, where the walk stands before it

-- its place in the list
next_at : (rs left : List Record) (i : ℕ) (one : Record) → drop i rs ≡ one ∷ left
    → (i < length rs) × (get_or rs i one ≡ one) × (drop (i + 1) rs ≡ left)
next_at rs left i one e =
    let n = ap length e in
    let l = length-drop i rs in
    let h : i < length rs = omega arith in
    let s = sym (from_here rs i one h) ∙ e in
    (h, ap (λ (xs : List Record). get_or xs 0 one) s, ap (drop 1) s)

module _ (rs : List Record) (l : List ℕ) (i : ℕ) (rest : List ℕ) (place : rest ≡ drop (2 * sum (take i (map listed_by (records_of rs)))) l)
    (one : Record) (h : i < length rs) (at : get_or rs i one ≡ one) where
  abbrev this : model.Record
  this = record_of one

  abbrev before : ℕ
  before = sum (take i (map listed_by (records_of rs)))

  record_at : get_or (records_of rs) i past_record ≡ this
  record_at = get_or-map record_of rs i one past_record h ∙ ap record_of at

  sum_on : sum (take (suc i) (map listed_by (records_of rs))) ≡ before + listed_by this
  sum_on =
      let n : length (map listed_by (records_of rs)) ≡ length rs = length-map (records_of rs) listed_by ∙ length-map rs record_of in
      sum_next (map listed_by (records_of rs)) i (omega arith)
      ∙ ap (λ (k : ℕ). before + k)
      (get_or-map listed_by (records_of rs) i past_record 0 (omega (arith, length-map rs record_of)) ∙ ap listed_by record_at)

  own_is : own_of (records_of rs) l i ≡ take (2 * listed_by this) rest
  own_is = rw (record_at, place) refl

  place_next : drop (2 * listed_by this) rest ≡ drop (2 * sum (take (i + 1) (map listed_by (records_of rs)))) l
  place_next =
      let w : sum (take (i + 1) (map listed_by (records_of rs))) ≡ before + listed_by this =
      let q : i + 1 ≡ suc i = omega arith in rw q sum_on in
      let e : 2 * before + 2 * listed_by this ≡ 2 * sum (take (i + 1) (map listed_by (records_of rs))) = omega (arith, w) in
      ap (drop (2 * listed_by this)) place ∙ drop-drop (2 * listed_by this) (2 * before) l ∙ ap (λ (k : ℕ). drop k l) e

-- the first i records stand in their rows
pub record Placing (rs left : List Record) (l rest xs₀ xs ss₀ ss fs₀ fs : List ℕ) (gs : List Region) (i : ℕ) : Type 0 where
  pub fits : Fitting (records_of rs) l (length xs₀) (length ss₀) (length fs₀)
  pub few : length rs ≤ 64
  pub stands : left ≡ drop i rs
  pub place : rest ≡ drop (2 * sum (take i (map listed_by (records_of rs)))) l
  pub rows : Rows gs
  pub each : (j : ℕ) → j < i → InRow (records_of rs) l xs ss fs gs j
  pub extents : Behind 7680 xs₀ xs
  pub starts : Behind 3840 ss₀ ss
  pub files : Behind 3840 fs₀ fs

untouched : (m : ℕ) (xs : List ℕ) → Behind m xs xs
untouched m xs = record { size = refl; behind = refl }

pub place_begins : (rs left : List Record) (l rest xs ss fs : List ℕ) (gs : List Region) (i : ℕ) → i ≡ 0 → left ≡ rs → rest ≡ l
    → length rs ≤ 64 → Fitting (records_of rs) l (length xs) (length ss) (length fs) → Rows gs
    → Placing rs left l rest xs xs ss ss fs fs gs i
unfolding sum
place_begins rs left l rest xs ss fs gs i z e q h f r =
    rw (z, e, q) (record {
      fits = f;
      few = h;
      stands = refl;
      place = refl;
      rows = r;
      each = λ j k. absurd (omega arith);
      extents = untouched 7680 xs;
      starts = untouched 3840 ss;
      files = untouched 3840 fs;
    })

module _ {rs left : List Record} {l rest xs₀ xs ss₀ ss fs₀ fs : List ℕ} {gs : List Region} {n : ℕ}
    (g : Placing rs left l rest xs₀ xs ss₀ ss fs₀ fs gs n) where
  abbrev ms : List model.Record
  ms = records_of rs

  module _ {one : Record} {left' : List Record} {own rest' : List ℕ} (h : Handed left rest one own left' rest') (i : ℕ) (p : i ≡ n) where
    stand : (i < length rs) × (get_or rs i one ≡ one) × (drop (i + 1) rs ≡ left')
    stand = next_at rs left' i one (ap (λ (k : ℕ). drop k rs) p ∙ sym g.stands ∙ h.first)

    few : i < 64
    few = omega (arith, g.few, stand.0)

    -- the parts that are lent
    place_ends : (120 * i + 120 ≤ length xs) × (60 * i + 60 ≤ length ss) × (60 * i + 60 ≤ length fs)
    place_ends =
        let q = few in
        let f = g.fits in
        (omega (arith, g.extents.size, f.for_extents), omega (arith, g.starts.size, f.for_starts), omega (arith, g.files.size, f.for_files))

    abbrev xs_part : List ℕ
    xs_part = mid_of (120 * i) (120 * i + 120 - 120 * i) xs

    abbrev ss_part : List ℕ
    ss_part = mid_of (60 * i) (60 * i + 60 - 60 * i) ss

    abbrev fs_part : List ℕ
    fs_part = mid_of (60 * i) (60 * i + 60 - 60 * i) fs

    pub place_parts : (length xs_part ≡ 120) × (length ss_part ≡ 60) × (length fs_part ≡ 60)
    place_parts =
        let q = few in
        let f = g.fits in (
          part_long 120 7680 i xs₀ xs [] g.extents (omega arith) f.for_extents,
          part_long 60 3840 i ss₀ ss [] g.starts (omega arith) f.for_starts,
          part_long 60 3840 i fs₀ fs [] g.files (omega arith) f.for_files,
        )

    abbrev r₀ : model.Record
    r₀ = record_of one

    stood : rest ≡ drop (2 * sum (take i (map listed_by ms))) l
    stood = g.place ∙ ap (λ (k : ℕ). drop (2 * sum (take k (map listed_by ms))) l) (sym p)

    record_is : get_or ms i past_record ≡ r₀
    record_is = record_at rs l i rest stood one stand.0 stand.1

    taken_is : own_of ms l i ≡ own
    taken_is = own_is rs l i rest stood one stand.0 stand.1 ∙ sym h.extents

    pub place_fit : Fit r₀ own
    place_fit =
        let f = g.fits.fit i (omega (arith, stand.0, length-map rs record_of)) in
        subst (Fit r₀) taken_is (subst (λ (r : model.Record). Fit r (own_of ms l i)) record_is f)

    module _ (ys zs ws : List ℕ) (a : length ys ≡ length xs_part) (b : length zs ≡ length ss_part) (c : length ws ≡ length fs_part)
        (r : Region) (q : Rowed r₀ own i (pairs ys) zs ws r) where
      abbrev xs' : List ℕ
      xs' = put_mid (120 * i) (120 * i + 120 - 120 * i) xs ys

      abbrev ss' : List ℕ
      ss' = put_mid (60 * i) (60 * i + 60 - 60 * i) ss zs

      abbrev fs' : List ℕ
      fs' = put_mid (60 * i) (60 * i + 60 - 60 * i) fs ws

      pairs_are : pairs xs' ≡ put_mid (60 * i) (60 * i + 60 - 60 * i) (pairs xs) (pairs ys)
      pairs_are = pair_rows i xs ys (a ∙ place_parts.0) (omega (arith, place_ends.0))

      pairs_wide : length (pairs ys) ≡ 60
      pairs_wide = length_pairs ys ∙ omega (arith, a, place_parts.0)

      pairs_long : 60 * i + 60 ≤ length (pairs xs)
      pairs_long = omega (arith, place_ends.0, length_pairs xs)

      mine : InRow ms l xs' ss' fs' (set gs i r) i
      mine =
          rowed_as q record_is taken_is (ap (row_in i) pairs_are ∙ row_put i (pairs xs) (pairs ys) pairs_wide pairs_long)
          (row_put i ss zs (b ∙ place_parts.1) place_ends.1)
          (row_put i fs ws (c ∙ place_parts.2) place_ends.2)
          (get_or-set_same gs i r past_region (omega (arith, few, g.rows.full)))

      others : (j : ℕ) → j < i → InRow ms l xs' ss' fs' (set gs i r) j
      others j k =
          let n : j ≡ i → ⊥ = λ e. omega arith in
          rowed_as (g.each j (omega arith)) refl refl (ap (row_in j) pairs_are ∙ row_keep i (pairs xs) (pairs ys) pairs_wide pairs_long j n)
          (row_keep i ss zs (b ∙ place_parts.1) place_ends.1 j n)
          (row_keep i fs ws (c ∙ place_parts.2) place_ends.2 j n)
          (get_or-set_other gs i j r past_region n)

      pub place_on : (m : ℕ) → m ≡ n + 1 → Placing rs left' l rest' xs₀ xs' ss₀ ss' fs₀ fs' (set gs i r) m
      place_on m e =
          let u = few in
          let f = g.fits in
          let z : m ≡ i + 1 = omega arith in
          rw z (record {
            fits = f;
            few = g.few;
            stands = sym stand.2;
            place = h.others ∙ place_next rs l i rest stood one stand.0 stand.1;
            rows =
                record {
                  full = length-set gs i r ∙ g.rows.full;
                  row = λ j k. row_set gs i r g.rows.full u q.row j (λ d. g.rows.row j k);
                };
            each =
                λ j k.
                by_eq j i
                (λ e. subst (InRow ms l xs' ss' fs' (set gs i r)) (sym e) mine)
                (λ d. others j (omega (arith, d, k)));
            extents = behind_on 120 7680 i xs₀ xs ys g.extents (omega arith) f.for_extents a;
            starts = behind_on 60 3840 i ss₀ ss zs g.starts (omega arith) f.for_starts b;
            files = behind_on 60 3840 i fs₀ fs ws g.files (omega arith) f.for_files c;
          })

  pub place_ended : left ≡ [] → Filled ms l xs₀ xs ss₀ ss fs₀ fs gs
  place_ended z =
      let e = ap length (sym g.stands ∙ z) in
      let d = length-drop n rs in
      record {
        rows = g.rows;
        each = λ j k. g.each j (omega (arith, k, length-map rs record_of));
        extents = g.extents;
        starts = g.starts;
        files = g.files;
      }
