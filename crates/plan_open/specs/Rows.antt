-- A region in its row; open promises nothing by these.
use Rattle.std.specs.Prelude.{ℕ, ◌+◌, ◌*◌, ◌≤◌, List, ◌≡◌, length, take}
use Rattle.footprint.specs.Footprint.{committed}
use Rattle.numbers.specs.Lists.{All}
use Rattle.numbers.specs.Pairs.{pairs}
use Rattle.numbers.specs.Range.{Range, total}
use Rattle.numbers.specs.Sums.{top}
use Rattle.plan_record.specs.Record.{text_of}
use Rattle.plan_record.specs.declared.Region.{Region}
use Rattle.regionmap.specs.Map.{Valid, placement_of, from_refusal, Lays}
use Rattle.regionmap.specs.declared.RegionMap.{RegionMap}
use Rattle.model.proofs.Opening.{count_of}
use Rattle.model.specs.Open as model
use Rattle.model.specs.Region as model_region

-- Extents that have a map in a row.
pub record Mappable (xs : List ℕ) (len : ℕ) (ss fs : List ℕ) : Type 0 where
  pub none : from_refusal xs len ss fs ≡ 0
  pub few : length (pairs xs) ≤ 60
  pub starts : length ss ≡ 60
  pub files : length fs ≡ 60

-- Their map.
pub record RowMap (xs : List Range) (len : ℕ) (ss fs : List ℕ) (m : RegionMap) : Type 0 where
  pub room : m.room ≡ 60
  pub valid : Valid m ss fs
  pub lays : Lays (placement_of m ss fs) xs
  pub size : m.len ≡ len

-- What an accepted record and its header's extent list have.
pub record Fit (r : model.Record) (xs : List ℕ) : Type 0 where
  pub few : count_of r ≤ 60
  pub listed : 2 * count_of r ≤ length xs
  pub ends : All (λ (x : Range). x.offset + x.len ≤ top) (committed r.entry xs)
  pub whole : total (committed r.entry xs) ≤ top
  pub size : r.entry.data_size ≤ total (committed r.entry xs)

-- A region of the plan with the first of these extents.
abbrev pub region_with : List Range → Region → model_region.Region
region_with xs g =
    record {
      number = g.number;
      tag = g.tag;
      name = text_of g.name;
      kind = g.kind;
      flags = g.flags;
      log2 = g.log2_block;
      header-a = g.header_a;
      header-b = g.header_b;
      extents = take g.extent_count xs;
      published = g.map.len;
      span-start = g.span_start;
      span-end = g.span_end;
      seq = g.footprint_seq;
    }

-- g is the region of a record in the row i, whose places have the extents xs, the starts ss and the files fs.
pub record Rowed (r : model.Record) (own : List ℕ) (i : ℕ) (xs : List Range) (ss fs : List ℕ) (g : Region) : Type 0 where
  pub row : g.row ≡ i
  pub means : region_with xs g ≡ model.region_from r own
  pub count : g.extent_count ≤ 60
  pub room : g.map.room ≡ 60
  pub valid : Valid g.map ss fs
  pub lays : Lays (placement_of g.map ss fs) (take g.extent_count xs)
