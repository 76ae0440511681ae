-- The steps of settlement at open; no public call promises anything by these.
use Rattle.std.specs.Prelude.{ℕ, ◌%◌, ◌≤◌, Bool, not, List, map, ◌≡◌, eqb, length}
use Rattle.footprint.specs.declared.Limits.{Limits}
use Rattle.model.specs.Region.{Region}
use Rattle.numbers.specs.Lists.{All, written}
use Rattle.plan_checks.specs.Early.{early_refusal, ranges_of, Listed}
use Rattle.plan_checks.specs.Opening.{records_of, opening_of}
use Rattle.plan_record.specs.declared.Record.{Record}
use Rattle.model.proofs.Opening.{count_of, listed_by}
use Rattle.model.specs.Open as model

-- Refusals 1 to 14 do not apply, with some number of places.
pub record Passed (lim : Limits) (rs : List Record) (listed : List ℕ) (scratch : ℕ) : Type 0 where
  pub places : ℕ
  pub none : early_refusal (opening_of lim rs listed scratch places) ≡ 0

-- The regions of the records.
abbrev pub regions_in : List Record → List ℕ → List Region
regions_in rs listed = model.each_record model.region_from (records_of rs) listed

abbrev pub seq_of : model.Record → ℕ
seq_of r = r.entry.footprint_seq

abbrev pub name_length : model.Record → ℕ
name_length r = length r.name

-- The bytes for a name.
abbrev pub bytes_of : Record → List ℕ
bytes_of r = r.name.bytes

-- Fields of records at the front of four lists.
pub record FieldsIn (rs : List Record) (seqs₀ seqs counts₀ counts lens₀ lens : List ℕ) (names₀ names : List (List ℕ)) : Type 0 where
  pub all_seqs : seqs ≡ written (map seq_of (records_of rs)) seqs₀
  pub all_counts : counts ≡ written (map ranges_of (records_of rs)) counts₀
  pub all_lens : lens ≡ written (map name_length (records_of rs)) lens₀
  pub all_names : names ≡ written (map bytes_of rs) names₀
  pub wide : All (λ (r : Record). length r.name.bytes ≡ 24) rs

-- A record's header lists its committed extents.
abbrev pub Covered : model.Record → Type 0
Covered r = count_of r ≤ listed_by r

-- The footprints of records can be laid.
pub record Layable (lim : Limits) (rs : List model.Record) (listed s : ℕ) : Type 0 where
  pub high : lim.log2_block ≤ 16
  pub all : All Covered rs
  pub long : Listed rs listed s

-- A mark says overlapped or renamed.
abbrev pub spoils : ℕ → Bool
spoils m = not (eqb (m % 4) 0)
