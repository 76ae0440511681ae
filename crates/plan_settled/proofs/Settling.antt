-- 15: the lists that settlement is lent stand for the records' regions, and its marks decide.
use Prim.Native.Nat.{ℕ, ◌-◌, ◌*◌, ◌≤◌}
use mathlib.Core.Bool.{true, false, not}
use mathlib.Core.List.{List, [], ◌∷◌, ◌++◌, map, append_assoc}
use mathlib.Core.Path.{◌≡◌, refl, ap, sym, subst, ◌∙◌}
use native.Mathlib.Omega.{arith}
use lib.Dec.{eqb}
use lib.ListN.{length, take, drop, replicate, length-append, length-map, length-drop}
use lib.Seq.{take-append-le, take_at, drop_at, length-take-le}
use borrow.Author.Tests.{ne_eqb}
use Rattle.std.proofs.lemmas.Grind.{flat_map-append}
use Rattle.std.specs.List.{flat_map}
use Rattle.footprint.specs.declared.Limits.{Limits}
use Rattle.model.specs.Region.{Region, footprint, footprints}
use Rattle.numbers.specs.Lists.{All, any, written}
use Rattle.numbers.specs.Pairs.{pairs, flat}
use Rattle.numbers.specs.Range.{Range}
use Rattle.numbers.specs.Refusals.{Answer}
use Rattle.numbers.specs.Sums.{sum}
use Rattle.plan_checks.specs.Early.{ranges_of}
use Rattle.plan_checks.specs.Opening.{records_of}
use Rattle.plan_record.specs.Record.{record_of, name_of}
use Rattle.plan_record.specs.declared.Record.{Record}
use Rattle.plan_settled.specs.Settled.{Covered, Passed, regions_in, seq_of, name_length, FieldsIn, bytes_of, spoils}
use Rattle.settle.specs.Inner.{Enough}
use Rattle.settle.specs.Settle.{marks_of, range_count, settle_fails, Settled}
use Rattle.model.proofs.Opening.{count_of, listed_by}
use Rattle.numbers.proofs.Lists.{all_both, all_map, map_all}
use Rattle.numbers.proofs.Pairs.{length_pairs, even_list, written_pairs}
use Rattle.plan_record.proofs.Naming.{name-length}
use Rattle.plan_settled.proofs.Passing.{passed_lists, passed_few, passed_all, passed_ranges, passed_listed}
use Rattle.settle.proofs.Marking.{marks_length}
use Rattle.settle.proofs.Reading.{length_of}
use Rattle.settle.proofs.Settling.{accepts, none_enough, none_regions}
use Rattle.model.specs.Open as model
use Rattle.settle.specs.Regions as settling

-- ---- the regions that the lists stand for

abbrev Short : model.Record → Type 0
Short r = name_length r ≤ 24

abbrev Wide : Record → Type 0
Wide q = length q.name.bytes ≡ 24

-- of a record: its name has 24 bytes, not all of which it takes, and its committed extents are listed
pub record Fair (q : Record) : Type 0 where
  pub wide : length q.name.bytes ≡ 24
  pub short : q.name.len ≤ 24
  pub listed : count_of (record_of q) ≤ listed_by (record_of q)

abbrev from : List Record → List ℕ → List Region
from qs l = model.each_record model.region_from (map record_of qs) l

-- a footprint has as many ranges as are counted
print_length : (lim : Limits) (q : Record) (l : List ℕ) → count_of (record_of q) ≤ listed_by (record_of q)
    → 2 * listed_by (record_of q) ≤ length l
    → length (footprint lim (model.region_from (record_of q) (take (2 * listed_by (record_of q)) l))) ≡ ranges_of (record_of q)
print_length lim q l c h =
    let p : length (take (count_of (record_of q)) (pairs (take (2 * listed_by (record_of q)) l))) ≡ count_of (record_of q) =
    length-take-le (count_of (record_of q)) (pairs (take (2 * listed_by (record_of q)) l))
    (let t = length_pairs (take (2 * listed_by (record_of q)) l) in
    let k = length-take-le (2 * listed_by (record_of q)) l h in
    omega arith) in
    omega arith

name_front : (bytes rest : List ℕ) (n : ℕ) → n ≤ length bytes → take n (bytes ++ rest) ≡ name_of bytes n
name_front bytes rest n h = take-append-le n bytes rest h ∙ sym (take-append-le n bytes (replicate n 0) h)

-- the names' bytes, one record behind the other
abbrev names_of : List Record → List ℕ
names_of [] = []
names_of (r ∷ rs) = r.name.bytes ++ names_of rs

flat_names : (rs : List Record) → flat_map (λ (x : List ℕ). x) (map bytes_of rs) ≡ names_of rs
flat_names [] = refl
flat_names (r ∷ rs) = ap (λ (t : List ℕ). r.name.bytes ++ t) (flat_names rs)

names_length : (rs : List Record) → All Wide rs → length (names_of rs) ≡ 24 * length rs
names_length [] a = refl
names_length (r ∷ rs) a = let i = names_length rs a.1 in let l = length-append r.name.bytes (names_of rs) in let w = a.0 in omega arith

pub usable_regions : (lim : Limits) (qs : List Record) (l s c : List ℕ) (r : List Range) (e m : List ℕ) → All Fair qs
    → 2 * sum (map listed_by (map record_of qs)) ≤ length l
    → settling.regions (length qs) (map seq_of (map record_of qs) ++ s) (map ranges_of (map record_of qs) ++ c)
    (footprints lim (from qs l) ++ r) (map name_length (map record_of qs) ++ e) (names_of qs ++ m)
    ≡ map (model.usable lim) (from qs l)
unfolding settling.regions footprints model.each_record sum
usable_regions lim [] l s c r e m a h = refl
usable_regions lim (q ∷ qs) l s c r e m a h =
    let f = a.0 in
    let k = 2 * listed_by (record_of q) in
    let fp : List Range = footprint lim (model.region_from (record_of q) (take k l)) in
    let n = name-length q.name.bytes q.name.len in
    let t : length (drop k l) ≡ length l - k = length-drop k l in
    let i = usable_regions lim qs (drop k l) s c r e m a.1 (omega arith) in
    let p = print_length lim q l f.listed (omega arith) in
    let w : not (eqb (name_length (record_of q)) 255) ≡ true =
    ap not (ne_eqb (name_length (record_of q)) 255 (λ z. omega (arith, f.short))) in
    let v : take (name_length (record_of q)) (q.name.bytes ++ (names_of qs ++ m)) ≡ (record_of q).name =
    rw n (name_front q.name.bytes (names_of qs ++ m) q.name.len (omega (arith, f.short, f.wide))) in
    rw (
      append_assoc fp (footprints lim (from qs (drop k l))) r,
      append_assoc q.name.bytes (names_of qs) m,
      take_at fp (footprints lim (from qs (drop k l)) ++ r) _ p,
      drop_at fp (footprints lim (from qs (drop k l)) ++ r) _ p,
      drop_at q.name.bytes (names_of qs ++ m) 24 f.wide,
      w,
      v,
      i,
    )

-- the same of lists that have them in front
regions_are : (lim : Limits) (qs : List Record) (l seqs counts : List ℕ) (ranges : List Range) (lens names s c : List ℕ) (r : List Range)
    (e m : List ℕ)
    → All Fair qs → 2 * sum (map listed_by (map record_of qs)) ≤ length l
    → seqs ≡ map seq_of (map record_of qs) ++ s → counts ≡ map ranges_of (map record_of qs) ++ c → ranges ≡ footprints lim (from qs l) ++ r
    → lens ≡ map name_length (map record_of qs) ++ e → names ≡ names_of qs ++ m
    → settling.regions (length qs) seqs counts ranges lens names ≡ map (model.usable lim) (from qs l)
regions_are lim qs l seqs counts ranges lens names s c r e m a h q1 q2 q3 q4 q5 =
    rw (q1, q2, q3, q4, q5) (usable_regions lim qs l s c r e m a h)

-- ---- the lists

module _ {lim : Limits} {rs : List Record} {l : List ℕ} {k : ℕ} (p : Passed lim rs l k) where
  abbrev ms : List model.Record
  ms = records_of rs

  abbrev prints : List Range
  prints = footprints lim (regions_in rs l)

  module _ {seqs₀ seqs counts₀ counts lens₀ lens : List ℕ} {names₀ names : List (List ℕ)}
      (a : FieldsIn rs seqs₀ seqs counts₀ counts lens₀ lens names₀ names)
      (bytes : List ℕ) (b : bytes ≡ flat_map (λ (x : List ℕ). x) names)
      (ranges₀ ranges : List ℕ) (c : ranges ≡ written (flat prints) ranges₀) (size : length ranges ≡ 7936) where
    abbrev us : settling.Lent
    us = settling.lent (length rs) seqs counts ranges lens bytes

    abbrev un : settling.Lent
    un = settling.lent 0 seqs counts ranges lens bytes

    abbrev spare : List ℕ
    spare = flat_map (λ (x : List ℕ). x) (drop (length (map bytes_of rs)) names₀)

    named : bytes ≡ names_of rs ++ spare
    named =
        b ∙ ap (flat_map (λ (x : List ℕ). x)) a.all_names
        ∙ flat_map-append (λ (x : List ℕ). x) (map bytes_of rs) (drop (length (map bytes_of rs)) names₀)
        ∙ ap (λ (t : List ℕ). t ++ spare) (flat_names rs)

    fair : All Fair rs
    fair =
        let few = map_all Short record_of rs (passed_lists p).names in
        let all = map_all Covered record_of rs (passed_all p) in
        let Named : Record → Type 0 = λ q. Wide q × Short (record_of q) in
        all_both Named (λ (q : Record). Covered (record_of q)) Fair
        (λ q w c. record { wide = w.0; short = omega (arith, w.1, name-length q.name.bytes q.name.len); listed = c })
        rs
        (all_both Wide (λ (q : Record). Short (record_of q)) Named (λ q w c. (w, c)) rs a.wide few)
        all

    pub lent_regions : settling.regions_of us ≡ map (model.usable lim) (regions_in rs l)
    lent_regions =
        regions_are lim rs l seqs counts (pairs ranges) lens bytes _ _ _ _ _ fair (passed_listed p) a.all_seqs a.all_counts
        (ap pairs c ∙ written_pairs prints ranges₀) a.all_lens named

    front : (f : model.Record → ℕ) (s₀ s : List ℕ) → s ≡ written (map f ms) s₀ → (length rs ≤ length s) × (take (length rs) s ≡ map f ms)
    front f s₀ s e =
        let m = length-map ms f in
        let q = length-map rs record_of in
        (rw (e, length-append) (omega arith), ap (take (length rs)) e ∙ take_at (map f ms) _ (length rs) (omega arith))

    counted : range_count us ≡ sum (map ranges_of ms)
    counted = ap sum (front ranges_of counts₀ counts a.all_counts).1

    enough : Enough us
    enough =
        let w = names_length rs a.wide in
        let o = passed_ranges p in
        let q = length_pairs ranges in
        record {
          few = let f = passed_few p in omega arith;
          seqs = (front seq_of seqs₀ seqs a.all_seqs).0;
          counts = (front ranges_of counts₀ counts a.all_counts).0;
          lens = (front name_length lens₀ lens a.all_lens).0;
          names = rw (named, length-append) (omega arith);
          even = even_list ranges (omega arith);
          ranges = omega (arith, counted);
        }

    settles : (marks : ℕ) → 64 ≤ marks → settle_fails us un marks k ≡ false
    unfolding sum
    settles marks h =
        let f = passed_few p in
        let o = passed_ranges p in
        accepts us un marks k
        (record {
          ours = enough;
          theirs = none_enough seqs counts ranges lens bytes enough.even;
          names =
              subst (All (λ (j : ℕ). j ≤ 24)) (sym (front name_length lens₀ lens a.all_lens).1)
              (all_map (λ (j : ℕ). j ≤ 24) name_length ms (passed_lists p).names);
          own_names = tt;
          few = omega (arith, counted);
          room = omega arith;
          space = omega (arith, counted, (passed_lists p).scratch);
        })

    pub settled_marked : (m₀ m s₀ s : List ℕ) (r : Answer (Unit {0})) → length m₀ ≡ 64 → length s₀ ≡ k → Settled us un m₀ m s₀ s r
        → any spoils (take (length rs) m) ≡ model.marked lim (regions_in rs l)
    unfolding model.marked
    settled_marked m₀ m s₀ s r e h t =
        let f : settle_fails us un (length m₀) (length s₀) ≡ false = rw h (settles (length m₀) (omega arith)) in
        let v : m ≡ written (marks_of (settling.regions_of us) (settling.regions_of un)) m₀ = t.slots ∙ simp f in
        let u = none_regions seqs counts ranges lens bytes in
        let j = marks_length (settling.regions_of us) (settling.regions_of un) in
        let q = length_of us in
        ap (λ (x : List ℕ). any spoils (take (length rs) x)) v
        ∙ ap (any spoils) (take_at (marks_of (settling.regions_of us) (settling.regions_of un)) _ (length rs) (omega arith))
        ∙ rw (lent_regions, u)
