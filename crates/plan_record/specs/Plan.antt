-- What a plan means: the world that its record and its lent lists stand for, and what every plan that a call handed back has.
use Rattle.numbers.specs.declared.refusal.Refusal.{Refusal}
use Rattle.std.specs.Prelude.{ℕ, suc, ◌*◌, ◌<◌, ◌≤◌, Bool, cond, ◌||◌, List, [], ◌∷◌, map, ◌≡◌, eqb, ltb, length, take, drop, replicate, Option, Result, position}
use Rattle.accounting.specs.Entries.{no_tags}
use Rattle.accounting.specs.Table as accounting
use Rattle.footprint.specs.declared.RegionKind.TheVariants.{Append}
use Rattle.model.specs.Region as model
use Rattle.model.specs.World.{World, TagRow, tag_row, account_of}
use Rattle.model.proofs.Sound as model_sound
use Rattle.numbers.specs.Lists.{All, Distinct}
use Rattle.numbers.specs.Pairs.{pairs}
use Rattle.numbers.specs.Refusals.{Answer, told}
use Rattle.plan_record.specs.Record.{text_of, no_name}
use Rattle.plan_record.specs.declared.names.Name.{Name}
use Rattle.plan_record.specs.declared.Plan.{Plan}
use Rattle.plan_record.specs.declared.Region.{Region}
use Rattle.regionmap.specs.Map as regionmap
use Rattle.tagspace.specs.declared.TagSpace.{TagSpace}

-- ---- the lent lists

-- The places of row i: every row of the extents, of the starts and of the file offsets has 60.
unfoldable pub row_in : {A : Type 0} → ℕ → List A → List A
row_in i xs = take 60 (drop (60 * i) xs)

-- How many places 64 rows have.
abbrev pub places : ℕ
places = 3840

-- "Too short is fewer places than: .. room for a map's runs", of 64 regions: a list has fewer places than 64 rows.
unfoldable pub lists_short : (extents starts files : List ℕ) → Bool
lists_short xs ss fs = ltb (length (pairs xs)) places || ltb (length ss) places || ltb (length fs) places

-- ---- the meaning

-- A region, whose committed extents stand in its row.
abbrev pub region_of : List ℕ → Region → model.Region
region_of xs r =
    record {
      number = r.number;
      tag = r.tag;
      name = text_of r.name;
      kind = r.kind;
      flags = r.flags;
      log2 = r.log2_block;
      header-a = r.header_a;
      header-b = r.header_b;
      extents = take r.extent_count (row_in r.row (pairs xs));
      published = r.map.len;
      span-start = r.span_start;
      span-end = r.span_end;
      seq = r.footprint_seq;
    }

abbrev pub regions_of : Plan → List Region
regions_of p = take p.count p.regions

-- The rows of the accounts.
abbrev pub rows_of : Plan → List TagSpace
rows_of p = (accounting.table_of p.accounts).rows

-- What the world has of a tag's row: its tag and its cap. The totals are sums over the regions.
abbrev pub cap_of : TagSpace → TagRow
cap_of t = tag_row t.tag t.cap

-- The world of a plan and the list of its extents.
unfoldable pub world_of : Plan → List ℕ → World
world_of p xs =
    record {
      limits = p.limits;
      regions = map (region_of xs) (regions_of p);
      last = p.last;
      rows = map cap_of (rows_of p);
    }

-- ---- what every plan has that a call handed back

-- A region's map is that of its extents, with the runs in its row: "each region's map always has room for 61 runs, an empty first one
-- included".
pub record Mapped (xs ss fs : List ℕ) (r : Region) : Type 0 where
  pub count : r.extent_count ≤ 60
  pub room : r.map.room ≡ 60
  pub valid : regionmap.Valid r.map (row_in r.row ss) (row_in r.row fs)
  pub lays : regionmap.Lays (regionmap.placement_of r.map (row_in r.row ss) (row_in r.row fs)) (region_of xs r).extents

abbrev pub row_of : Region → ℕ
row_of r = r.row

-- A plan with its lists as the last call left them.
pub record Valid (p : Plan) (xs ss fs : List ℕ) : Type 0 where
  pub full : length p.regions ≡ 64
  pub few : p.count ≤ 64
  pub extents : places ≤ length (pairs xs)
  pub starts : places ≤ length ss
  pub files : places ≤ length fs
  -- all 64 name a row of their own: those behind the count the free ones
  pub rows : Distinct (map row_of p.regions)
  pub inside : All (λ (r : Region). r.row < 64) p.regions
  pub mapped : All (Mapped xs ss fs) (regions_of p)
  pub accounts : accounting.Valid p.accounts
  -- each tag's row has its totals; a tag without a row has none
  pub accounted : (tag : ℕ) → accounting.row_of tag (rows_of p) ≡ account_of (world_of p xs) tag
  pub sound : model_sound.Sound (world_of p xs)

-- ---- the place of a region

abbrev pub number_of : Region → ℕ
number_of r = r.number

-- The first place at which a number stands, the length where it does not.
unfoldable pub place_of : ℕ → List ℕ → ℕ
place_of id [] = 0
place_of id (n ∷ ns) = cond (eqb n id) 0 (suc (place_of id ns))

-- The first place among the regions that has the number.
abbrev pub place_in : Plan → ℕ → Option ℕ
place_in p id = position (λ (r : Region). eqb r.number id) (regions_of p)

-- That place as a number, the count where there is none.
abbrev pub spot_of : Plan → ℕ → ℕ
spot_of p id = place_of id (map number_of (regions_of p))

-- ---- answers

-- What a call answers: a byte, none, or why it is refused.
abbrev pub Reply : Type 0
Reply = Result (Option ℕ) Refusal

-- The same by document 01's number.
abbrev pub reply_of : Reply → Answer (Option ℕ)
reply_of r = told r

-- ---- the plan of no container

abbrev empty_region : Name → ℕ → Region
empty_region name row =
    record {
      number = 0;
      tag = 0;
      name = name;
      kind = Append;
      flags = 0;
      log2_block = 0;
      header_a = 0;
      header_b = 0;
      span_start = 0;
      span_end = 0;
      footprint_seq = 0;
      extent_count = 0;
      row = row;
      map = record { first = 0; len = 0; capacity = 0; count = 0; room = 0 };
    }

-- No region, in a row.
abbrev pub blank_region : ℕ → Region
blank_region row = empty_region no_name row

-- What is read past the end of a list of regions.
abbrev pub past_region : Region
past_region = empty_region (record { bytes = []; len = 0 }) 0

-- What a refused open hands back.
abbrev pub blank_plan : Plan
blank_plan =
    record {
      limits = record { log2_block = 0; table_end = 0; file_len = 0 };
      last = 0;
      count = 0;
      regions = replicate 64 (blank_region 0);
      accounts = accounting.accounts_of no_tags;
    }
