-- 1: the tests over all records are the model's.
use Rattle.std.proofs.Common.{ℕ, ◌+◌, ◌*◌, ◌/◌, ◌%◌, Bool, true, false, ◌||◌, List, [], ◌∷◌, map, length, ltb, ◌≡◌, refl, ap, sym, ◌∙◌, arith, lt-ltb, ltb-true, ne_eqb, eqb, not}
use lib.ListN.{length-map}
use Rattle.std.proofs.lemmas.List.Recursion.{is_sum_by}
use Rattle.std.proofs.lemmas.List.Sums.{sum-map}
use Rattle.std.specs.List.{list_any}
use Rattle.std.specs.Prelude as std
use Rattle.footprint.specs.Footprint.{max_extents}
use Rattle.footprint.specs.declared.Limits.{Limits}
use Rattle.numbers.specs.Lists.{any}
use Rattle.numbers.specs.Pairs.{is_odd}
use Rattle.numbers.specs.Sums.{sum}
use Rattle.plan_checks.specs.Early.{ranges_of, Listed}
use Rattle.plan_checks.specs.Opening.{records_of, opening_of}
use Rattle.plan_record.specs.Record.{record_of}
use Rattle.plan_record.specs.declared.Record.{Record}
use Rattle.model.proofs.Opening.{listed_by, lists_pass}
use Rattle.model.specs.Open.{lists_fail_in}
use Rattle.numbers.proofs.Cases.{by_eq, both_ways}
use Rattle.numbers.proofs.Lists.{or_exchange}
use Rattle.numbers.proofs.Pairs.{length_pairs, odd_list, even_list}
use Rattle.plan_record.proofs.Naming.{name-length}
use Rattle.model.specs.Open as model

or_three : (a b c d e f : Bool) → (((a || b) || c) || ((d || e) || f)) ≡ (((a || d) || (b || e)) || (c || f))
or_three a b c d e f = or_exchange (a || b) c (d || e) f ∙ ap (λ (x : Bool). x || (c || f)) (or_exchange a b d e)

-- a record counts too many extents, or has too long a name
abbrev pub over : ℕ → Record → Bool
over most r = ltb 60 r.entry.extent_count || ltb 24 r.name.len || ltb most r.header.extent_count

abbrev many : model.Record → Bool
many r = ltb 60 r.entry.extent_count

abbrev long : model.Record → Bool
long r = ltb 24 (length r.name)

abbrev wide : ℕ → model.Record → Bool
wide most r = ltb most r.header.extent_count

pub some_over : (most : ℕ) (rs : List Record) → list_any (over most) rs
    ≡ (any many (records_of rs) || any long (records_of rs) || any (wide most) (records_of rs))
unfolding any
some_over most [] = refl
some_over most (r ∷ rs) =
    rw (some_over most rs, name-length r.name.bytes r.name.len)
    (or_three (ltb 60 r.entry.extent_count) (ltb 24 r.name.len) (ltb most r.header.extent_count)
    (any many (records_of rs)) (any long (records_of rs)) (any (wide most) (records_of rs)))

-- the library's sum over the records is the model's
pub sum_of : (f : model.Record → ℕ) (rs : List Record) → std.sum (map (λ (r : Record). f (record_of r)) rs) ≡ sum (map f (records_of rs))
unfolding sum
sum_of f rs =
    sum-map (λ (r : Record). f (record_of r)) rs
    ∙ sym (is_sum_by (λ (ms : List Record). sum (map f (records_of ms))) (λ (r : Record). f (record_of r)) refl (λ r ms. refl) rs)

or_back : (a m n w : Bool) → (((a || m) || n) || w) ≡ (a || ((m || n) || w))
or_back true m n w = refl
or_back false m n w = refl

odd_by : (l : List ℕ) → is_odd l ≡ not (eqb (length l % 2) 0)
odd_by l = by_eq (length l % 2) 0 (λ z. even_list l z ∙ simp z) (λ d. odd_list l d ∙ simp (ne_eqb _ _ d))

shared_by : (scratch n : ℕ) → ltb scratch (16 * n) ≡ ltb (scratch / 16) n
shared_by scratch n =
    both_ways _ _ (λ t. lt-ltb _ _ (let h = ltb-true _ _ t in omega arith)) (λ t. lt-ltb _ _ (let h = ltb-true _ _ t in omega arith))

abbrev pub header_count : Record → ℕ
header_count r = r.header.extent_count

abbrev pub range_count : Record → ℕ
range_count r = r.entry.extent_count + 2

-- 1 as the code tests it
pub lists_by : (lim : Limits) (rs : List Record) (l : List ℕ) (scratch places : ℕ)
    → lists_fail_in (opening_of lim rs l scratch places)
    ≡ (ltb 64 (length rs) || list_any (over (max_extents lim.log2_block)) rs
    || not (eqb (length l % 2) 0) || not (eqb (length l / 2) (std.sum (map header_count rs)))
    || ltb (scratch / 16) (std.sum (map range_count rs)) || ltb places 64)
unfolding lists_fail_in
lists_by lim rs l scratch places =
    rw (
      length-map rs record_of,
      or_back (ltb 64 (length rs)) (any many (records_of rs)) (any long (records_of rs))
          (any (wide (max_extents lim.log2_block)) (records_of rs)),
      odd_by l,
      length_pairs l,
      shared_by scratch (sum (map ranges_of (records_of rs))),
      some_over (max_extents lim.log2_block) rs,
      sum_of listed_by rs,
      sum_of ranges_of rs,
    ) refl

pub lists_long : (lim : Limits) (rs : List Record) (l : List ℕ) (scratch places : ℕ)
    → lists_fail_in (opening_of lim rs l scratch places) ≡ false → Listed (records_of rs) (length l) scratch
lists_long lim rs l scratch places e =
    let f = lists_pass (opening_of lim rs l scratch places) e in
    record { extents = omega (arith, length_pairs l, f.listed); room = omega (arith, f.scratch) }
