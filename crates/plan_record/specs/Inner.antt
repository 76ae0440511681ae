-- What the inner functions compute, of any record.
use Rattle.std.specs.Prelude.{ℕ, ◌+◌, ◌-◌, ◌*◌, ◌^◌, ◌<◌, ◌≤◌, min, Bool, true, ltb, List, [], ◌∷◌, ◌++◌, ◌≡◌, length, take, drop}
use Rattle.std.proofs.lemmas.List.Edits.{sets}
use Rattle.freemap.specs.Fit.{first_fit}
use Rattle.freemap.specs.Gaps.{gaps_of}
use Rattle.numbers.specs.Lists.{All, same}
use Rattle.numbers.specs.Pairs.{pairs}
use Rattle.numbers.specs.Powers.{is_power_of_two}
use Rattle.numbers.specs.Range.{Range, range, Within, Disjoint, total}
use Rattle.numbers.specs.Refusals.{accepted}
use Rattle.numbers.specs.Sums.{top, stop}
use Rattle.plan_record.specs.Plan.{row_in, regions_of, reply_of, Reply}
use Rattle.plan_record.specs.Record.{text_of}
use Rattle.plan_record.specs.declared.Plan.{Plan}
use Rattle.plan_record.specs.declared.Record.{Record}
use Rattle.plan_record.specs.declared.Region.{Region}
use Rattle.plan_record.specs.declared.search.Cut.{Cut}
use Rattle.sort.specs.Part.{PartedAt}

-- The block; no container's log is above 16.
abbrev pub block_in : Plan → ℕ
block_in p = 2 ^ min p.limits.log2_block 16

-- What a region counts for held bytes.
abbrev pub held_by : ℕ → Region → ℕ
held_by block r = 2 * block + r.map.capacity

abbrev pub has_name : List ℕ → Region → Bool
has_name name r = same (text_of r.name) name

-- A region's extents and its footprint; no row is behind the 64th, and none has more than 60 places.
unfoldable pub region_extents : List ℕ → Region → List Range
region_extents xs r = take (min r.extent_count 60) (row_in (min r.row 63) (pairs xs))

unfoldable pub laid : ℕ → List ℕ → Region → List Range
laid block xs r = range r.header_a block ∷ range r.header_b block ∷ region_extents xs r

unfoldable pub laid_each : ℕ → List ℕ → List Region → List Range
laid_each block xs [] = []
laid_each block xs (r ∷ rs) = laid block xs r ++ laid_each block xs rs

abbrev pub laid_all : Plan → List ℕ → List Range
laid_all p xs = laid_each (block_in p) xs (regions_of p)

-- As many ranges as are laid, or more; a region has 62 at most, and there are 64.
pub record MostRanges (p : Plan) (n : ℕ) : Type 0 where
  pub enough : (xs : List ℕ) → length (laid_all p xs) ≤ n
  pub most : n ≤ 3968

-- Ranges stored one by one into the pairs of a list, from a place on.
pub record Lays (s t : List ℕ) (at : ℕ) (rs : List Range) : Type 0 where
  pub stored : pairs t ≡ sets (pairs s) at rs
  -- the last number of an odd list
  pub behind : drop (2 * length (pairs s)) t ≡ drop (2 * length (pairs s)) s

-- ---- the search for room

-- Of the bytes from lo up to hi fewer than n are left beside those of ranges.
unfoldable pub crowded : (lo hi n : ℕ) → List Range → Bool
crowded lo hi n rs = ltb (hi - lo - stop (total rs)) n

-- What a search may take as given: ranges between lo and hi that are not empty and of which no two meet, and sums that do not stop.
pub record Asked (lo hi n block : ℕ) (rs : List Range) : Type 0 where
  pub bytes : 0 < n
  pub power : is_power_of_two block ≡ true
  pub sums : hi + block ≤ top
  pub inside : All (Within lo hi) rs
  pub some : All (λ (r : Range). 0 < r.len) rs
  pub apart : Disjoint rs

-- The answer is then first fit among the gaps of the ranges.
pub record Sought (lo hi n block : ℕ) (rs : List Range) (r : Reply) : Type 0 where
  pub told : Asked lo hi n block rs → reply_of r ≡ accepted (first_fit n block 0 (gaps_of lo hi rs))

-- l is parted to m, and the depth falls.
pub record Cuts (l m : List Range) (depth : ℕ) (c : Cut) : Type 0 where
  pub parted : PartedAt l m c.offset c.front
  pub less : c.depth < depth

-- A region of n extents as a record.
abbrev pub record_for : Region → ℕ → Record
record_for r n =
    record {
      number = r.number;
      tag = r.tag;
      name = r.name;
      entry =
          record {
            kind = r.kind;
            flags = r.flags;
            extent_count = n;
            header_a = r.header_a;
            header_b = r.header_b;
            span_start = r.span_start;
            span_end = r.span_end;
            data_size = r.map.len;
            capacity = r.map.capacity;
            footprint_seq = r.footprint_seq;
          };
      header =
          record {
            region_id = r.number;
            kind = r.kind;
            flags = r.flags;
            ready = true;
            log2_block = r.log2_block;
            extent_count = n;
          };
    }
