-- What is true of every world that an accepted open starts and any list of calls reaches.
use Prim.Native.Nat.{◌-◌, ◌%◌, ◌^◌, ◌≤◌, ◌<◌}
use mathlib.Core.List.{map}
use mathlib.Core.Logic.{◌⊎◌}
use mathlib.Core.Path.{◌≡◌}
use lib.ListN.{length}
use Rattle.footprint.specs.Footprint.{block_of}
use Rattle.footprint.specs.declared.Limits.{Limits}
use Rattle.model.specs.Region.{Region, capacity, footprint}
use Rattle.model.specs.World.{World, tag_of, held_ranges}
use Rattle.numbers.specs.Keyed.{HasKey, InKeyOrder}
use Rattle.numbers.specs.Lists.{All, Distinct}
use Rattle.numbers.specs.Range.{Range, Disjoint, Within}

-- Of each region: counts within their limits, header blocks at multiples of the block, a span between table end and length that
-- covers the footprint, no empty extent, and a published length that the capacity and the header's block allow.
pub record Regular (lim : Limits) (r : Region) : Type 0 where
  pub name : length r.name ≤ 24
  pub count : length r.extents ≤ 60
  pub log : (r.log2 ≡ 9) ⊎ (r.log2 ≡ lim.log2_block)
  pub first : r.header-a % block_of lim ≡ 0
  pub second : r.header-b % block_of lim ≡ 0
  pub table : lim.table_end ≤ r.span-start
  pub file : r.span-end ≤ lim.file_len
  pub inside : All (Within r.span-start r.span-end) (footprint lim r)
  pub some : All (λ (x : Range). 0 < x.len) r.extents
  pub size : r.published ≤ capacity r
  pub multiple : r.published % 2 ^ r.log2 ≡ 0

-- Of the container limits: they never change.
pub record Container (lim : Limits) : Type 0 where
  pub low : 12 ≤ lim.log2_block
  pub high : lim.log2_block ≤ 16
  pub table : lim.table_end ≤ lim.file_len
  pub file : lim.file_len ≤ 2 ^ 63 - 1

pub record Sound (w : World) : Type 0 where
  pub container : Container w.limits
  -- "Up to 64 regions"
  pub few : length w.regions ≤ 64
  pub regular : All (Regular w.limits) w.regions
  -- no number and no name is held twice
  pub numbers : Distinct (map (λ (r : Region). r.number) w.regions)
  pub names : Distinct (map (λ (r : Region). r.name) w.regions)
  -- no two footprints have a common byte, nor two ranges of one
  pub apart : Disjoint (held_ranges w)
  -- every region's tag has a row; "at most 96 tags", "in tag order"
  pub tagged : All (λ (r : Region). HasKey tag_of r.tag w.rows) w.regions
  pub rows_few : length w.rows ≤ 96
  pub order : InKeyOrder tag_of w.rows
  -- no region's sequence number is above the last one
  pub seqs : All (λ (r : Region). r.seq ≤ w.last) w.regions
