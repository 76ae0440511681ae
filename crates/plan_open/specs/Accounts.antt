-- The accounts of the records; open promises nothing by these.
use Rattle.std.specs.Prelude.{ℕ, ◌+◌, ◌≤◌, List, map, reverse, ◌≡◌}
use Rattle.accounting.specs.Entries.{usage, add_all, no_tags}
use Rattle.accounting.specs.declared.entries.Usage.{Usage}
use Rattle.accounting.specs.Table.{Valid, table_of}
use Rattle.accounting.specs.declared.Accounting.{Accounting}
use Rattle.footprint.specs.Footprint.{block_of}
use Rattle.footprint.specs.declared.Limits.{Limits}
use Rattle.model.specs.Open.{Record}
use Rattle.numbers.specs.Lists.{written}
use Rattle.numbers.specs.Sums.{stop}

abbrev pub tag_of : Record → ℕ
tag_of r = r.tag

abbrev pub size_of : Record → ℕ
size_of r = r.entry.data_size

-- So many bytes, of two blocks, and the capacity.
abbrev pub len_with : ℕ → Record → ℕ
len_with blocks r = stop (blocks + r.entry.capacity)

abbrev pub len_of : Limits → Record → ℕ
len_of lim r = len_with (stop (block_of lim + block_of lim)) r

abbrev pub usage_of : Limits → Record → Usage
usage_of lim r = usage (tag_of r) (size_of r) (len_of lim r)

-- Their usages in the front of three lists.
pub record UsageIn (lim : Limits) (rs : List Record) (tags₀ tags logical₀ logical physical₀ physical : List ℕ) : Type 0 where
  pub all_tags : tags ≡ written (map tag_of rs) tags₀
  pub all_logical : logical ≡ written (map size_of rs) logical₀
  pub all_physical : physical ≡ written (map (len_of lim) rs) physical₀

-- The lists have places for n.
pub record HasPlaces (n tags logical physical : ℕ) : Type 0 where
  pub few : n ≤ 64
  pub for_tags : n ≤ tags
  pub for_logical : n ≤ logical
  pub for_physical : n ≤ physical

-- Their accounts.
pub record Accounted (lim : Limits) (rs : List Record) (a : Accounting) : Type 0 where
  pub table : table_of a ≡ add_all (map (usage_of lim) (reverse rs)) no_tags
  pub valid : Valid a
