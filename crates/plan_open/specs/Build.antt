-- The plan's regions; open promises nothing by these.
use Rattle.std.specs.Prelude.{ℕ, ◌*◌, ◌≤◌, ◌<◌, List, map, ◌≡◌, length, get_or, take, drop}
use Rattle.footprint.specs.declared.Limits.{Limits}
use Rattle.numbers.specs.Pairs.{pairs}
use Rattle.numbers.specs.Sums.{sum}
use Rattle.plan_open.specs.Open.{places_of}
use Rattle.plan_open.specs.Rows.{Fit, Rowed}
use Rattle.plan_record.specs.Plan.{Valid, world_of, row_in, past_region}
use Rattle.plan_record.specs.Record.{blank_record, record_of}
use Rattle.plan_record.specs.declared.Plan.{Plan}
use Rattle.plan_record.specs.declared.Record.{Record}
use Rattle.plan_record.specs.declared.Region.{Region}
use Rattle.model.proofs.Opening.{listed_by}
use Rattle.model.specs.Open as model
use Rattle.plan_checks.specs.Opening as checked

-- Open's arguments are accepted, with some scratch.
pub record Accepted (lim : Limits) (rs : List Record) (listed xs ss fs : List ℕ) : Type 0 where
  pub scratch : ℕ
  pub none : model.open_refusal (checked.opening_of lim rs listed scratch (places_of xs ss fs)) ≡ 0

-- Region i names the row i.
pub record Rows (gs : List Region) : Type 0 where
  pub full : length gs ≡ 64
  pub row : (i : ℕ) → i < 64 → (get_or gs i past_region).row ≡ i

-- The list keeps its length, and what stands behind the first n places.
pub record Behind (n : ℕ) (xs₀ xs : List ℕ) : Type 0 where
  pub size : length xs ≡ length xs₀
  pub behind : drop n xs ≡ drop n xs₀

-- What is read past the end of the records.
abbrev pub past_record : model.Record
past_record = record_of blank_record

-- Record i's own part of the headers' extent lists.
abbrev pub own_of : List model.Record → List ℕ → ℕ → List ℕ
own_of rs listed i = take (2 * listed_by (get_or rs i past_record)) (drop (2 * sum (take i (map listed_by rs))) listed)

-- Every record is fit, and the lists are long enough.
pub record Fitting (rs : List model.Record) (listed : List ℕ) (extents starts files : ℕ) : Type 0 where
  pub fit : (i : ℕ) → i < length rs → Fit (get_or rs i past_record) (own_of rs listed i)
  pub for_extents : 7680 ≤ extents
  pub for_starts : 3840 ≤ starts
  pub for_files : 3840 ≤ files

-- Record i's region stands in the row i.
abbrev pub InRow : (rs : List model.Record) (listed xs ss fs : List ℕ) (gs : List Region) → ℕ → Type 0
InRow rs listed xs ss fs gs i =
    Rowed (get_or rs i past_record) (own_of rs listed i) i (row_in i (pairs xs)) (row_in i ss) (row_in i fs) (get_or gs i past_region)

-- Every record's does.
pub record Filled (rs : List model.Record) (listed xs₀ xs ss₀ ss fs₀ fs : List ℕ) (gs : List Region) : Type 0 where
  pub rows : Rows gs
  pub each : (i : ℕ) → i < length rs → InRow rs listed xs ss fs gs i
  pub extents : Behind 7680 xs₀ xs
  pub starts : Behind 3840 ss₀ ss
  pub files : Behind 3840 fs₀ fs

-- The plan of accepted arguments.
pub record Built (lim : Limits) (rs : List Record) (listed xs₀ xs ss₀ ss fs₀ fs : List ℕ) (p : Plan) : Type 0 where
  pub valid : Valid p xs ss fs
  pub world : (scratch places : ℕ) → world_of p xs ≡ model.opened (checked.opening_of lim rs listed scratch places)
  pub extents : Behind 7680 xs₀ xs
  pub starts : Behind 3840 ss₀ ss
  pub files : Behind 3840 fs₀ fs
