-- Document 01, "The plan (added)": what open's arguments and the calls make of a container: regions, tags, and which bytes are held.
use Rattle.std.specs.Prelude.{ℕ, Bool, List, map, eqb, None, Option}
use Rattle.footprint.specs.Footprint.{block_of}
use Rattle.footprint.specs.declared.Limits.{Limits}
use Rattle.freemap.specs.Gaps.{gaps_of}
use Rattle.model.specs.Region.{Region, footprint_len, footprints}
use Rattle.numbers.specs.Keyed.{has_key, keyed, put_keyed}
use Rattle.numbers.specs.Lists.{keep}
use Rattle.numbers.specs.Range.{Range, total}
use Rattle.numbers.specs.Sums.{sum}
use Rattle.tagspace.specs.declared.TagSpace.{TagSpace}

-- A tag's row, with its cap.
pub record TagRow : Type 0 where
  pub tag : ℕ
  pub cap : Option ℕ

abbrev pub tag_row : ℕ → Option ℕ → TagRow
tag_row tag cap = record { tag = tag; cap = cap }

abbrev pub tag_of : TagRow → ℕ
tag_of t = t.tag

pub record World : Type 0 where
  -- "Container limits: block log L ..; table end; file length"
  pub limits : Limits
  -- in the order in which they came
  pub regions : List Region
  -- "Last number"
  pub last : ℕ
  -- the tags that have a row, "in tag order"
  pub rows : List TagRow

-- "block = 2^L"
abbrev pub block : World → ℕ
block w = block_of w.limits

-- ---- held and free

-- Which bytes are held: those of the footprints.
abbrev pub held_ranges : World → List Range
held_ranges w = footprints w.limits w.regions

-- "Held is the sum of footprints"
abbrev pub held : World → ℕ
held w = sum (map (footprint_len w.limits) w.regions)

-- "free that of the gaps outside what is held"
abbrev pub free : World → ℕ
free w = total (gaps_of w.limits.table_end w.limits.file_len (held_ranges w))

-- ---- tags

abbrev pub of_tag : ℕ → List Region → List Region
of_tag tag rs = keep (λ (r : Region). eqb r.tag tag) rs

-- "physical totals count footprints"
abbrev pub physical : World → ℕ → ℕ
physical w tag = sum (map (footprint_len w.limits) (of_tag tag w.regions))

-- "logical ones published lengths"
abbrev pub logical : World → ℕ → ℕ
logical w tag = sum (map (λ (r : Region). r.published) (of_tag tag w.regions))

-- A tag has a row, as "every call on a tag .. makes" one "for an unknown one".
unfoldable pub has_row : World → ℕ → Bool
has_row w tag = has_key tag_of tag w.rows

-- A tag's row, one without a cap where it has none.
abbrev pub row_of : ℕ → List TagRow → TagRow
row_of tag ts = keyed tag_of (tag_row tag None) tag ts

-- The rows with one put in its place, "in tag order", over the row of the same tag where there is one.
abbrev pub put_row : TagRow → List TagRow → List TagRow
put_row t ts = put_keyed tag_of t ts

-- "makes a row for an unknown one", and leaves that of a known one.
abbrev pub with_tag : ℕ → List TagRow → List TagRow
with_tag tag ts = put_row (row_of tag ts) ts

-- A tag's account, of which `fits` is asked; "nothing is reserved".
abbrev pub account_of : World → ℕ → TagSpace
account_of w tag = record { tag = tag; logical = logical w tag; physical = physical w tag; reserved = 0; cap = (row_of tag w.rows).cap }
