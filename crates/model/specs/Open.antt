-- Document 01, "The plan (added)", open: which arguments it turns down, and the world of those that it accepts.
use Rattle.std.specs.Prelude.{ℕ, ◌+◌, ◌-◌, ◌*◌, ◌%◌, ◌^◌, max, Bool, true, not, ◌||◌, List, [], ◌∷◌, map, eqb, ltb, length, take, drop}
use Rattle.footprint.specs.Footprint.{max_extents, committed, logs_fail, refusal_of}
use Rattle.footprint.specs.declared.Entry.{Entry}
use Rattle.footprint.specs.declared.Header.{Header}
use Rattle.footprint.specs.declared.Limits.{Limits}
use Rattle.model.specs.Region.{Region, footprint}
use Rattle.model.specs.World.{World, TagRow, with_tag}
use Rattle.numbers.specs.Lists.{any, any_two}
use Rattle.numbers.specs.Pairs.{is_odd, pairs}
use Rattle.numbers.specs.Refusals.{refuse, first, Answer, answer}
use Rattle.numbers.specs.Sums.{sum}
use Rattle.settle.specs.Settle.{marks_of}
use Rattle.settle.specs.Regions as settling

-- A region's number, tag and name, with its table entry and its header.
pub record Record : Type 0 where
  pub number : ℕ
  pub tag : ℕ
  pub name : List ℕ
  pub entry : Entry
  pub header : Header

-- "container limits and records with their headers' extent lists"
pub record Opening : Type 0 where
  pub limits : Limits
  pub records : List Record
  -- the headers' extent lists as pairs, one behind the other
  pub extents : List ℕ
  -- how many numbers of scratch are lent
  pub scratch : ℕ
  -- how many regions the lists that are lent for the plan have room for
  pub places : ℕ

-- f of each record and its header's extent list: as many pairs as the header counts, then those of the next record.
unfoldable pub each_record : {A : Type 0} → (Record → List ℕ → A) → List Record → List ℕ → List A
each_record f [] l = []
each_record f (r ∷ rs) l = f r (take (2 * r.header.extent_count) l) ∷ each_record f rs (drop (2 * r.header.extent_count) l)

-- ---- the regions

-- A region as its record has it: "A region's published length is then its entry's data size"; its extents are the committed ones.
abbrev pub region_from : Record → List ℕ → Region
region_from r xs =
    record {
      number = r.number;
      tag = r.tag;
      name = r.name;
      kind = r.entry.kind;
      flags = r.entry.flags;
      log2 = r.header.log2_block;
      header-a = r.entry.header_a;
      header-b = r.entry.header_b;
      extents = committed r.entry xs;
      published = r.entry.data_size;
      span-start = r.entry.span_start;
      span-end = r.entry.span_end;
      seq = r.entry.footprint_seq;
    }

abbrev pub regions_from : Opening → List Region
regions_from o = each_record region_from o.records o.extents

-- ---- the refusals

-- 1 "over all"
unfoldable pub lists_fail_in : Opening → Bool
lists_fail_in o =
    -- "More than 64 records, or an entry's count above 60, answer 1."
    ltb 64 (length o.records)
    || any (λ (r : Record). ltb 60 r.entry.extent_count) o.records
    -- names "of 0 to 24 bytes"
    || any (λ (r : Record). ltb 24 (length r.name)) o.records
    -- max_extents(L) "limits the entry's and the header's extent count"; an entry's 60 are within it for every L
    || any (λ (r : Record). ltb (max_extents o.limits.log2_block) r.header.extent_count) o.records
    -- "a list of pairs is odd or not the header's count"
    || is_odd o.extents
    || not (eqb (length (pairs o.extents)) (sum (map (λ (r : Record). r.header.extent_count) o.records)))
    -- "Too short is fewer places than: .. 16 numbers a range for scratch of .. open", count + 2 ranges a record
    || ltb o.scratch (16 * sum (map (λ (r : Record). r.entry.extent_count + 2) o.records))
    -- ".. extents or room for a map's runs", of "Up to 64 regions"
    || ltb o.places 64

-- 2 "over all": "L is out of range, .. or the header's block log is neither L nor 9."
unfoldable pub logs_fail_in : Opening → Bool
logs_fail_in o =
    ltb o.limits.log2_block 12
    || ltb 16 o.limits.log2_block
    || any (λ (r : Record). logs_fail o.limits r.header) o.records

-- 3. "At open, length < table end or length > 2^63 - 1."
unfoldable pub length_fails : Limits → Bool
length_fails lim = ltb lim.file_len lim.table_end || ltb (2 ^ 63 - 1) lim.file_len

-- 4 to 13, once 1 and 2 have passed over all: the lowest number of one record, with scratch for its count + 2 pairs.
abbrev pub record_refusal : Limits → Record → List ℕ → ℕ
record_refusal lim r xs = refusal_of lim r.number r.entry r.header xs (2 * (r.entry.extent_count + 2))

-- Two numbers of a list are the same.
abbrev pub shared : List ℕ → Bool
shared = any_two eqb

-- A region as settlement takes it.
abbrev pub usable : Limits → Region → settling.Region
usable lim r = record { seq = r.seq; ranges = footprint lim r; named = true; name = r.name }

-- 15. "Settlement marks a region overlapped or renamed", 1 and 2 in a mark, "with no unavailable ones".
unfoldable pub marked : Limits → List Region → Bool
marked lim rs = any (λ (m : ℕ). not (eqb (m % 4) 0)) (marks_of (map (usable lim) rs) [])

-- "1, 2 and 3 are tested over all, each record is then checked in order (the first record that fails gives its lowest number), then
-- 14, then all are settled"
unfoldable pub open_refusal : Opening → ℕ
open_refusal o =
    first (refuse 1 (lists_fail_in o) ∷
    refuse 2 (logs_fail_in o) ∷
    refuse 3 (length_fails o.limits) ∷
    first (each_record (record_refusal o.limits) o.records o.extents) ∷
    -- ".. at open two records share it"
    refuse 14 (shared (map (λ (r : Record). r.number) o.records)) ∷
    refuse 15 (marked o.limits (regions_from o)) ∷ [])

-- ---- the world

-- The highest of numbers, "0 if none".
unfoldable pub highest : List ℕ → ℕ
highest [] = 0
highest (n ∷ ns) = max n (highest ns)

-- A row for each tag; "no tag has a cap".
unfoldable pub rows_for : List ℕ → List TagRow
rows_for [] = []
rows_for (t ∷ ts) = with_tag t (rows_for ts)

-- "Last number = the highest sequence number, 0 if none."
abbrev pub opened : Opening → World
opened o =
    record {
      limits = o.limits;
      regions = regions_from o;
      last = highest (map (λ (r : Record). r.entry.footprint_seq) o.records);
      rows = rows_for (map (λ (r : Record). r.tag) o.records);
    }

-- What open answers: the world from which the calls go on, or 01's number.
abbrev pub open_answer : Opening → Answer World
open_answer o = answer (open_refusal o) (opened o)
