-- Document 01, "The plan (added)": a region, what it holds, and the region of a number.
use Rattle.std.specs.Prelude.{ℕ, cond, List, [], ◌∷◌, ◌++◌, eqb}
use Rattle.footprint.specs.Footprint.{block_of}
use Rattle.footprint.specs.declared.Limits.{Limits}
use Rattle.footprint.specs.declared.RegionKind.{RegionKind}
use Rattle.footprint.specs.declared.RegionKind.TheVariants.{Append}
use Rattle.numbers.specs.Keyed.{keyed}
use Rattle.numbers.specs.Range.{Range, range, total}

pub record Region : Type 0 where
  pub number : ℕ
  pub tag : ℕ
  -- its bytes
  pub name : List ℕ
  pub kind : RegionKind
  pub flags : ℕ
  -- the header's block log
  pub log2 : ℕ
  -- both header blocks
  pub header-a : ℕ
  pub header-b : ℕ
  -- "committed extents in order"
  pub extents : List Range
  -- its published length
  pub published : ℕ
  pub span-start : ℕ
  pub span-end : ℕ
  -- its sequence number
  pub seq : ℕ

-- The region with other extents, another published length and another span.
abbrev pub with_data : List Range → (published start end : ℕ) → Region → Region
with_data xs published start end r =
    record {
      number = r.number;
      tag = r.tag;
      name = r.name;
      kind = r.kind;
      flags = r.flags;
      log2 = r.log2;
      header-a = r.header-a;
      header-b = r.header-b;
      extents = xs;
      published = published;
      span-start = start;
      span-end = end;
      seq = r.seq;
    }

-- The sum of its extents: "the capacity gains its length" with every extent, and at open refusal 12 holds it to that sum.
abbrev pub capacity : Region → ℕ
capacity r = total r.extents

-- "The footprint is both header blocks and the committed extents."
abbrev pub footprint : Limits → Region → List Range
footprint lim r = range r.header-a (block_of lim) ∷ range r.header-b (block_of lim) ∷ r.extents

-- How many bytes it has.
abbrev pub footprint_len : Limits → Region → ℕ
footprint_len lim r = total (footprint lim r)

-- The footprints of regions, one behind the other.
unfoldable pub footprints : Limits → List Region → List Range
footprints lim [] = []
footprints lim (r ∷ rs) = footprint lim r ++ footprints lim rs

-- ---- the region of a number

abbrev pub no_region : Region
no_region =
    record {
      number = 0;
      tag = 0;
      name = [];
      kind = Append;
      flags = 0;
      log2 = 0;
      header-a = 0;
      header-b = 0;
      extents = [];
      published = 0;
      span-start = 0;
      span-end = 0;
      seq = 0;
    }

abbrev pub id_of : Region → ℕ
id_of r = r.number

-- The region that has the number, `no_region` where none has.
abbrev pub region_of : ℕ → List Region → Region
region_of id rs = keyed id_of no_region id rs

-- The regions with that one changed, in their order.
unfoldable pub on_region : ℕ → (Region → Region) → List Region → List Region
on_region id f [] = []
on_region id f (r ∷ rs) = cond (eqb r.number id) (f r ∷ rs) (r ∷ on_region id f rs)

-- The regions without it: the order closes up.
unfoldable pub without : ℕ → List Region → List Region
without id [] = []
without id (r ∷ rs) = cond (eqb r.number id) rs (r ∷ without id rs)
