-- Open: the arguments that it accepts by facts about them, in both directions; and that it then starts a sound world.
use Prim.Native.Nat.{ℕ, zero, suc, ◌+◌, ◌-◌, ◌*◌, ◌%◌, ◌^◌, ◌≤◌, ◌<◌, max}
use mathlib.Core.Bool.{Bool, true, false, not}
use mathlib.Core.List.{List, [], ◌∷◌, ◌++◌, map, map-map}
use mathlib.Core.Path.{◌≡◌, refl, ap, sym, subst, ◌∙◌}
use native.Mathlib.Nat.{le_of_suc-le-suc, not-suc-le-zero}
use native.Mathlib.Omega.{arith}
use lib.Dec.{eqb, ltb}
use lib.ListN.{length, get_or, take, drop, length-take, length-map}
use lib.Seq.{drop-drop}
use borrow.Author.Tests.{ltb-false, le-ltb, eqb-true, eq-eqb, ne_eqb, eqb-false, not-false}
use Rattle.footprint.specs.Footprint.{max_extents, committed, logs_fail}
use Rattle.footprint.specs.declared.Limits.{Limits}
use Rattle.model.specs.Open.{Record, Opening, each_record, region_from, regions_from, lists_fail_in, logs_fail_in, length_fails, record_refusal, usable, marked, open_refusal, highest, rows_for, opened}
use Rattle.model.specs.Region.{Region, footprint, footprints}
use Rattle.model.specs.World.{tag_of, row_of, with_tag}
use Rattle.numbers.specs.Keyed.{HasKey, InKeyOrder}
use Rattle.numbers.specs.Lists.{All, any, Distinct}
use Rattle.numbers.specs.Pairs.{is_odd, pairs}
use Rattle.numbers.specs.Range.{Range, Disjoint, Within}
use Rattle.numbers.specs.Sums.{sum}
use Rattle.settle.specs.Inner.{no_region}
use Rattle.settle.specs.Settle.{overlapped, renamed, mark_of, marks_of}
use Rattle.footprint.proofs.Passed.{Logs, Inside, logs_pass as own_logs_pass}
use Rattle.footprint.proofs.Regular.{accepted_regular, logs_fine as own_logs_fine}
use Rattle.model.proofs.Rows.{with_order, with_own, with_others}
use Rattle.model.proofs.Sound.{Regular, Sound}
use Rattle.numbers.proofs.Cases.{or-false}
use Rattle.numbers.proofs.Keyed.{put_least}
use Rattle.std.proofs.lemmas.List.{get_or-map}
use Rattle.numbers.proofs.Lists.{all_at, all_of, all_imp, all_both, map_all, any_false, of_none, two_false, of_no_two, at_distinct, distinct_at}
use Rattle.numbers.proofs.Refusals.{first_none, none_first, pass_none, refuse_none, first_all}
use Rattle.settle.proofs.Marking.{marks_length, mark_at}
use Rattle.settle.proofs.Unmarked.{ranges_of, NamesDiffer, none_superseded, marks_none, none_marks}
use Rattle.settle.specs.Regions as settling

abbrev pub count_of : Record → ℕ
count_of r = r.entry.extent_count

abbrev pub listed_by : Record → ℕ
listed_by r = r.header.extent_count

-- ---- each record and its header's extent list

module _ {A : Type 0} (f : Record → List ℕ → A) where
  pub each_length : (rs : List Record) (l : List ℕ) → length (each_record f rs l) ≡ length rs
  unfolding each_record
  each_length [] l = refl
  each_length (r ∷ rs) l = ap suc (each_length rs _)

  -- at a place
  pub each_at : (rs : List Record) (l : List ℕ) (i : ℕ) (d : Record) (a : A) → i < length rs
      → get_or (each_record f rs l) i a ≡ f (get_or rs i d) (take (2 * listed_by (get_or rs i d)) (drop (2 * sum (take i (map listed_by rs))) l))
  unfolding each_record sum
  each_at [] l i d a h = absurd (not-suc-le-zero h)
  each_at (r ∷ rs) l zero d a h = refl
  each_at (r ∷ rs) l (suc i) d a h =
      let n = 2 * listed_by r in
      let m = 2 * sum (take i (map listed_by rs)) in
      let e : n + m ≡ 2 * (listed_by r + sum (take i (map listed_by rs))) = omega arith in
      each_at rs (drop n l) i d a (le_of_suc-le-suc h)
      ∙ ap (λ (t : List ℕ). f (get_or rs i d) (take (2 * listed_by (get_or rs i d)) t)) (drop-drop m n l ∙ ap (λ (k : ℕ). drop k l) e)

  -- what the record alone decides
  pub each_map : {B : Type 0} (g : A → B) (h : Record → B) → ((r : Record) (xs : List ℕ) → g (f r xs) ≡ h r)
      → (rs : List Record) (l : List ℕ) → map g (each_record f rs l) ≡ map h rs
  unfolding each_record
  each_map g h e [] l = refl
  each_map g h e (r ∷ rs) l = rw (e r _, each_map g h e rs _)

  -- what follows of g from what holds of the record and of f
  pub each_both : {B : Type 0} (g : Record → List ℕ → B) (P : Record → Type 0) (Q : A → Type 0) (R : B → Type 0)
      → ((r : Record) (xs : List ℕ) → P r → Q (f r xs) → R (g r xs))
      → (rs : List Record) (l : List ℕ) → All P rs → All Q (each_record f rs l) → All R (each_record g rs l)
  unfolding each_record
  each_both g P Q R i [] l p q = tt
  each_both g P Q R i (r ∷ rs) l p q = (i r _ p.0 q.0, each_both g P Q R i rs _ p.1 q.1)

-- ---- 1: the lists have their lengths

module _ {A : Type 0} (f : A → ℕ) (n : ℕ) where
  none_above : (l : List A) → any (λ (x : A). ltb n (f x)) l ≡ false → All (λ (x : A). f x ≤ n) l
  none_above l e =
      all_imp (λ (x : A). ltb n (f x) ≡ false) (λ (x : A). f x ≤ n) (λ x. ltb-false n (f x)) l (any_false (λ (x : A). ltb n (f x)) l e)

  above_none : (l : List A) → All (λ (x : A). f x ≤ n) l → any (λ (x : A). ltb n (f x)) l ≡ false
  above_none l a =
      of_none (λ (x : A). ltb n (f x)) l (all_imp (λ (x : A). f x ≤ n) (λ (x : A). ltb n (f x) ≡ false) (λ x. le-ltb n (f x)) l a)

pub record ListsIn (o : Opening) : Type 0 where
  pub few : length o.records ≤ 64
  pub counts : All (λ (r : Record). count_of r ≤ 60) o.records
  pub names : All (λ (r : Record). length r.name ≤ 24) o.records
  pub headers : All (λ (r : Record). listed_by r ≤ max_extents o.limits.log2_block) o.records
  pub even : is_odd o.extents ≡ false
  pub listed : length (pairs o.extents) ≡ sum (map listed_by o.records)
  pub scratch : 16 * sum (map (λ (r : Record). count_of r + 2) o.records) ≤ o.scratch
  pub places : 64 ≤ o.places

pub lists_pass : (o : Opening) → lists_fail_in o ≡ false → ListsIn o
unfolding lists_fail_in
lists_pass o e =
    let p = or-false _ _ e in
    let s = or-false _ _ p.0 in
    let l = or-false _ _ s.0 in
    let d = or-false _ _ l.0 in
    let h = or-false _ _ d.0 in
    let n = or-false _ _ h.0 in
    let c = or-false _ _ n.0 in
    record {
      few = ltb-false _ _ c.0;
      counts = none_above count_of 60 o.records c.1;
      names = none_above (λ (r : Record). length r.name) 24 o.records n.1;
      headers = none_above listed_by _ o.records h.1;
      even = d.1;
      listed = eqb-true _ _ (not-false _ l.1);
      scratch = ltb-false _ _ s.1;
      places = ltb-false _ _ p.1;
    }

pub lists_fine : (o : Opening) → ListsIn o → lists_fail_in o ≡ false
unfolding lists_fail_in
lists_fine o l =
    simp (
      le-ltb _ _ l.few,
      above_none count_of 60 o.records l.counts,
      above_none (λ (r : Record). length r.name) 24 o.records l.names,
      above_none listed_by _ o.records l.headers,
      l.even,
      eq-eqb _ _ l.listed,
      le-ltb _ _ l.scratch,
      le-ltb _ _ l.places,
    )

-- ---- 2: the block logs are allowed; 3: the length is

pub record LogsIn (o : Opening) : Type 0 where
  pub low : 12 ≤ o.limits.log2_block
  pub high : o.limits.log2_block ≤ 16
  pub own : All (λ (r : Record). Logs o.limits r.header) o.records

module _ (o : Opening) where
  abbrev pub log_fails : Record → Bool
  log_fails r = logs_fail o.limits r.header

  abbrev OwnLogs : Record → Type 0
  OwnLogs r = Logs o.limits r.header

  pub logs_pass : logs_fail_in o ≡ false → LogsIn o
  unfolding logs_fail_in
  logs_pass e =
      let a = or-false _ _ e in
      let b = or-false _ _ a.0 in
      record {
        low = ltb-false _ _ b.0;
        high = ltb-false _ _ b.1;
        own =
            all_imp (λ (r : Record). log_fails r ≡ false) OwnLogs (λ r. own_logs_pass o.limits r.header) o.records
            (any_false log_fails o.records a.1);
      }

  pub own_logs : LogsIn o → All (λ (r : Record). log_fails r ≡ false) o.records
  own_logs l =
      all_imp OwnLogs (λ (r : Record). log_fails r ≡ false) (λ r. own_logs_fine o.limits r.entry r.header []) o.records l.own

  pub logs_fine : LogsIn o → logs_fail_in o ≡ false
  unfolding logs_fail_in
  logs_fine l = simp (le-ltb _ _ l.low, le-ltb _ _ l.high, of_none log_fails o.records (own_logs l))

module _ (lim : Limits) where
  pub length_pass : length_fails lim ≡ false → (lim.table_end ≤ lim.file_len) × (lim.file_len ≤ 2 ^ 63 - 1)
  unfolding length_fails
  length_pass e = let p = or-false _ _ e in (ltb-false _ _ p.0, ltb-false _ _ p.1)

  pub length_fine : lim.table_end ≤ lim.file_len → lim.file_len ≤ 2 ^ 63 - 1 → length_fails lim ≡ false
  unfolding length_fails
  length_fine t f = simp (le-ltb _ _ t, le-ltb _ _ f)

-- ---- 15: no two footprints meet, and no two names are the same

abbrev name_of : settling.Region → List ℕ
name_of u = u.name

module _ (us : List settling.Region) where
  differ_names : NamesDiffer us → Distinct (map name_of us)
  differ_names f =
      at_distinct (map name_of us) []
      (λ i j l h e.
      let n = length-map us name_of in
      let a : i < length us = omega arith in
      let b : j < length us = omega arith in
      f i j a b (λ z. omega arith) (sym (get_or-map name_of us i no_region [] a) ∙ e ∙ get_or-map name_of us j no_region [] b))

  names_differ : Distinct (map name_of us) → NamesDiffer us
  names_differ d i j a b n e =
      let l = length-map us name_of in
      distinct_at (map name_of us) [] i j d (omega arith) (omega arith) n
      (get_or-map name_of us i no_region [] a ∙ e ∙ sym (get_or-map name_of us j no_region [] b))

two_bits : (o r : Bool) → mark_of o r false % 4 ≡ 0 → mark_of o r false ≡ 0
two_bits true true z = absurd (omega arith)
two_bits true false z = absurd (omega arith)
two_bits false true z = absurd (omega arith)
two_bits false false z = refl

module _ (lim : Limits) where
  usable_ranges : (rs : List Region) → ranges_of (map (usable lim) rs) ≡ footprints lim rs
  unfolding ranges_of footprints
  usable_ranges [] = refl
  usable_ranges (r ∷ rs) = ap (λ (l : List Range). footprint lim r ++ l) (usable_ranges rs)

  module _ (rs : List Region) where
    abbrev all : List settling.Region
    all = map (usable lim) rs

    abbrev names : List (List ℕ)
    names = map (λ (r : Region). r.name) rs

    usable_names : map name_of all ≡ names
    usable_names = map-map name_of (usable lim) rs

    abbrev spoils : ℕ → Bool
    spoils m = not (eqb (m % 4) 0)

    -- with no unavailable records a mark is at most 3
    unmarked : marked lim rs ≡ false → (i : ℕ) → i < length all → get_or (marks_of all []) i 0 ≡ 0
    unfolding marked
    unmarked e i h =
        let n = marks_length all [] in
        let z = all_at (λ (m : ℕ). spoils m ≡ false) (marks_of all []) i 0 (any_false spoils (marks_of all []) e) (omega arith) in
        let o = overlapped all i in
        let r = renamed all [] (get_or all i no_region) in
        let m = mark_at all [] i h ∙ ap (mark_of o r) (none_superseded all i) in
        m ∙ two_bits o r (ap (λ (k : ℕ). k % 4) (sym m) ∙ eqb-true _ _ (not-false _ z))

    pub marked_apart : marked lim rs ≡ false → Disjoint (footprints lim rs) × Distinct names
    marked_apart e =
        let p = marks_none all (unmarked e) in
        (subst Disjoint (usable_ranges rs) p.0, subst Distinct usable_names (differ_names all p.1))

    pub apart_marked : Disjoint (footprints lim rs) → Distinct names → marked lim rs ≡ false
    unfolding marked
    apart_marked d n =
        of_none spoils (marks_of all [])
        (all_of (λ (m : ℕ). spoils m ≡ false) (marks_of all []) 0
        (λ i h.
        let k = marks_length all [] in
        let n' = names_differ all (subst Distinct (sym usable_names) n) in
        ap spoils (none_marks all (subst Disjoint (sym (usable_ranges rs)) d) n' i (omega arith))))

-- ---- all tests

-- what each record's check answers
abbrev pub checks : Opening → List ℕ
checks o = each_record (record_refusal o.limits) o.records o.extents

-- the arguments that open accepts
pub record Fine (o : Opening) : Type 0 where
  pub lists : ListsIn o
  pub logs : LogsIn o
  pub table : o.limits.table_end ≤ o.limits.file_len
  pub file : o.limits.file_len ≤ 2 ^ 63 - 1
  pub checked : All (λ (n : ℕ). n ≡ 0) (checks o)
  pub numbers : Distinct (map (λ (r : Record). r.number) o.records)
  pub apart : Disjoint (footprints o.limits (regions_from o))
  pub names : Distinct (map (λ (r : Record). r.name) o.records)

module _ (o : Opening) where
  pub regions_map : {A : Type 0} (g : Region → A) (h : Record → A) → ((r : Record) (xs : List ℕ) → g (region_from r xs) ≡ h r)
      → map g (regions_from o) ≡ map h o.records
  regions_map g h e = each_map region_from g h e o.records o.extents

  names_from : map (λ (r : Region). r.name) (regions_from o) ≡ map (λ (r : Record). r.name) o.records
  names_from = regions_map (λ (r : Region). r.name) (λ (r : Record). r.name) (λ r xs. refl)

  pub accepted_fine : open_refusal o ≡ 0 → Fine o
  unfolding open_refusal
  accepted_fine z =
      let t1 = first_none _ _ z in
      let t2 = first_none _ _ t1.1 in
      let t3 = first_none _ _ t2.1 in
      let t4 = first_none _ _ t3.1 in
      let t14 = first_none _ _ t4.1 in
      let t15 = first_none _ _ t14.1 in
      let l = length_pass o.limits (refuse_none 3 _ (omega arith) t3.0) in
      let m = marked_apart o.limits (regions_from o) (refuse_none 15 _ (omega arith) t15.0) in
      record {
        lists = lists_pass o (refuse_none 1 _ (omega arith) t1.0);
        logs = logs_pass o (refuse_none 2 _ (omega arith) t2.0);
        table = l.0;
        file = l.1;
        checked = first_all (checks o) t4.0;
        numbers = two_false eqb (λ (m n : ℕ). m ≡ n → ⊥) eqb-false _ (refuse_none 14 _ (omega arith) t14.0);
        apart = m.0;
        names = subst Distinct names_from m.1;
      }

  pub fine_accepted : Fine o → open_refusal o ≡ 0
  unfolding open_refusal
  fine_accepted f =
      none_first _ (
        pass_none 1 _ (lists_fine o f.lists),
        (
          pass_none 2 _ (logs_fine o f.logs),
          (
            pass_none 3 _ (length_fine o.limits f.table f.file),
            (
              none_first _ f.checked,
              (
                pass_none 14 _ (of_no_two eqb (λ (m n : ℕ). m ≡ n → ⊥) ne_eqb _ f.numbers),
                (pass_none 15 _ (apart_marked o.limits (regions_from o) f.apart (subst Distinct (sym names_from) f.names)), tt),
              ),
            ),
          ),
        ),
      )

-- ---- its regions, last number and rows

-- a record whose check passes makes a regular region
module _ (lim : Limits) (r : Record) (xs : List ℕ) where
  abbrev InSpan : Range → Type 0
  InSpan x = Within r.entry.span_start r.entry.span_end x

  extents_within : All (Inside lim r.entry) (committed r.entry xs) → All InSpan (committed r.entry xs)
  extents_within a = all_imp (Inside lim r.entry) InSpan (λ x i. record { from = i.from; upto = i.upto }) (committed r.entry xs) a

  pub opened_regular : length r.name ≤ 24 → count_of r ≤ 60 → record_refusal lim r xs ≡ 0 → Regular lim (region_from r xs)
  opened_regular n c z =
      let g = accepted_regular lim r.number r.entry r.header xs (2 * (count_of r + 2)) z in
      let t = g.entry in
      let k = length-take (count_of r) (pairs xs) in
      record {
        name = n;
        count = omega arith;
        log = g.logs.own;
        first = t.a.aligned;
        second = t.b.aligned;
        table = t.table;
        file = t.file;
        inside = (record { from = t.a.from; upto = t.a.upto }, (record { from = t.b.from; upto = t.b.upto }, extents_within g.inside));
        some = t.some;
        size = omega (arith, t.size, g.capacity);
        multiple = g.agreed.multiple;
      }

pub highest_above : (ns : List ℕ) → All (λ (n : ℕ). n ≤ highest ns) ns
unfolding highest
highest_above [] = tt
highest_above (n ∷ ns) =
    (omega arith, all_imp (λ (m : ℕ). m ≤ highest ns) (λ (m : ℕ). m ≤ max n (highest ns)) (λ m h. omega arith) ns (highest_above ns))

pub rows_order : (ts : List ℕ) → InKeyOrder tag_of (rows_for ts)
unfolding rows_for
rows_order [] = tt
rows_order (t ∷ ts) = with_order t (rows_for ts) (rows_order ts)

pub rows_few : (ts : List ℕ) → length (rows_for ts) ≤ length ts
unfolding rows_for
rows_few [] = omega arith
rows_few (t ∷ ts) = let h = rows_few ts in let k = put_least tag_of (row_of t (rows_for ts)) (rows_for ts) in omega arith

pub rows_all : (ts : List ℕ) → All (λ (t : ℕ). HasKey tag_of t (rows_for ts)) ts
unfolding rows_for
rows_all [] = tt
rows_all (t ∷ ts) =
    let rows = rows_for ts in
    let a = all_imp (λ (n : ℕ). HasKey tag_of n rows) (λ (n : ℕ). HasKey tag_of n (with_tag t rows)) (with_others t rows) ts (rows_all ts) in
    (with_own t rows, a)

-- ---- an accepted open starts a sound world

module _ (o : Opening) where
  abbrev rs : List Record
  rs = o.records

  abbrev Short : Record → Type 0
  Short r = (length r.name ≤ 24) × (count_of r ≤ 60)

  abbrev tags : List ℕ
  tags = map (λ (r : Record). r.tag) rs

  abbrev seqs : List ℕ
  seqs = map (λ (r : Record). r.entry.footprint_seq) rs

  -- what is true of what a record says is true of its region
  regions_all : {A : Type 0} (P : A → Type 0) (g : Region → A) (h : Record → A) → ((r : Record) (xs : List ℕ) → g (region_from r xs) ≡ h r)
      → All P (map h rs) → All (λ (r : Region). P (g r)) (regions_from o)
  regions_all P g h e a = map_all P g (regions_from o) (subst (All P) (sym (regions_map o g h e)) a)

  pub fine_sound : Fine o → Sound (opened o)
  fine_sound f =
      let l = f.lists in
      let n = each_length region_from rs o.extents in
      let k = rows_few tags in
      let m = length-map rs (λ (r : Record). r.tag) in
      record {
        container = record { low = f.logs.low; high = f.logs.high; table = f.table; file = f.file };
        few = omega (arith, l.few);
        regular =
            each_both (record_refusal o.limits) region_from Short (λ (n : ℕ). n ≡ 0) (Regular o.limits)
            (λ r xs p z. opened_regular o.limits r xs p.0 p.1 z)
            rs
            o.extents
            (all_both (λ (r : Record). length r.name ≤ 24) (λ (r : Record). count_of r ≤ 60) Short (λ r a b. (a, b)) rs l.names l.counts)
            f.checked;
        numbers = subst Distinct (sym (regions_map o (λ (r : Region). r.number) (λ (r : Record). r.number) (λ r xs. refl))) f.numbers;
        names = subst Distinct (sym (names_from o)) f.names;
        apart = f.apart;
        tagged =
            regions_all (λ (t : ℕ). HasKey tag_of t (rows_for tags)) (λ (r : Region). r.tag) (λ (r : Record). r.tag) (λ r xs. refl)
            (rows_all tags);
        rows_few = omega (arith, l.few);
        order = rows_order tags;
        seqs =
            regions_all (λ (n : ℕ). n ≤ highest seqs) (λ (r : Region). r.seq) (λ (r : Record). r.entry.footprint_seq) (λ r xs. refl)
            (highest_above seqs);
      }

  pub opened_sound : open_refusal o ≡ 0 → Sound (opened o)
  opened_sound z = fine_sound (accepted_fine o z)
