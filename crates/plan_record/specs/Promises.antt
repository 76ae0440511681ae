-- What the readers of a plan promise, and the search for room.
use Rattle.numbers.specs.declared.refusal.Refusal.{Refusal}
use Rattle.numbers.specs.declared.refusal.Refusal.TheVariants.{Lists}
use Rattle.std.specs.Prelude.{ℕ, ◌*◌, ◌≤◌, ◌<◌, Bool, false, not, ◌||◌, List, ◌≡◌, eqb, ltb, length, get_or, drop, Ok, Err, Result, Option}
use Rattle.model.specs.Region.{no_region}
use Rattle.model.specs.Span.{least_free}
use Rattle.model.specs.World as model
use Rattle.model.specs.World.{World}
use Rattle.numbers.specs.Lists.{any, list_after}
use Rattle.numbers.specs.Pairs.{pairs, flat}
use Rattle.numbers.specs.Refusals.{accepted, refuse, refusal_in}
use Rattle.plan_record.specs.Inner.{has_name}
use Rattle.plan_record.specs.Plan.{Valid, regions_of, world_of, places, reply_of}
use Rattle.plan_record.specs.Record.{record_of, handed_from}
use Rattle.plan_record.specs.declared.Record.{Record}
use Rattle.plan_record.specs.declared.Plan.{Plan}

-- "Held is the sum of footprints"
pub record HeldTold (p : Plan) (r : ℕ) : Type 0 where
  pub told : (xs ss fs : List ℕ) → Valid p xs ss fs → r ≡ model.held (world_of p xs)

-- "free that of the gaps outside what is held"
pub record FreeTold (p : Plan) (r : ℕ) : Type 0 where
  pub told : (xs ss fs : List ℕ) → Valid p xs ss fs → r ≡ model.free (world_of p xs)

-- "physical totals count footprints, logical ones published lengths", of every tag, one without a row included.
pub record LogicalTold (p : Plan) (tag r : ℕ) : Type 0 where
  pub told : (xs ss fs : List ℕ) → Valid p xs ss fs → r ≡ model.logical (world_of p xs) tag

pub record PhysicalTold (p : Plan) (tag r : ℕ) : Type 0 where
  pub told : (xs ss fs : List ℕ) → Valid p xs ss fs → r ≡ model.physical (world_of p xs) tag

-- The last number.
pub record LastTold (p : Plan) (r : ℕ) : Type 0 where
  pub told : (xs : List ℕ) → r ≡ (world_of p xs).last

-- How many regions there are.
pub record CountTold (p : Plan) (r : ℕ) : Type 0 where
  pub told : (xs : List ℕ) → r ≡ length (world_of p xs).regions

-- Whether a region has the name; none has one of more than 24 bytes.
pub record Named (p : Plan) (name : List ℕ) (r : Bool) : Type 0 where
  pub told : length name ≤ 24 → r ≡ any (has_name name) (regions_of p)
  pub long : 24 < length name → r ≡ false

-- The region at a place as open's own record, with its extents written into a list. Past the last there is a blank record; a list with
-- fewer places than the extents, or fewer extents than 64 rows, is 1, and nothing is written.
unfoldable pub hand_refusal : World → ℕ → List ℕ → List ℕ → ℕ
hand_refusal w i xs out =
    refuse 1 (ltb (length (pairs xs)) places || ltb (length (pairs out)) (length (get_or w.regions i no_region).extents))

pub record Hands (p : Plan) (i : ℕ) (xs out₀ out : List ℕ) (r : Result Record Refusal) : Type 0 where
  pub answer : (ss fs : List ℕ) → Valid p xs ss fs → refusal_in r ≡ hand_refusal (world_of p xs) i xs out₀
  pub record_is : (ss fs : List ℕ) (f : Record) → Valid p xs ss fs → r ≡ Ok f
      → record_of f ≡ handed_from (get_or (world_of p xs).regions i no_region)
  pub slots : (ss fs : List ℕ) → Valid p xs ss fs
      → out ≡ list_after (not (eqb (hand_refusal (world_of p xs) i xs out₀) 0)) (flat (get_or (world_of p xs).regions i no_region).extents) out₀
  pub behind : (f : Record) → r ≡ Ok f → drop (2 * f.entry.extent_count) out ≡ drop (2 * f.entry.extent_count) out₀
  pub refused : (n : Refusal) → r ≡ Err n → out ≡ out₀
  pub short : length (pairs xs) < places → r ≡ Err Lists

-- "first fit": the lowest free span of some bytes; of 0 bytes nothing is said.
pub record Fits (p : Plan) (n : ℕ) (xs : List ℕ) (r : Result (Option ℕ) Refusal) : Type 0 where
  pub told : (ss fs : List ℕ) → Valid p xs ss fs → 0 < n → reply_of r ≡ accepted (least_free (world_of p xs) n)

-- And fewer extents than 64 rows are 1.
pub record Places (p : Plan) (n : ℕ) (xs : List ℕ) (r : Result (Option ℕ) Refusal) : Type 0 where
  pub fits : Fits p n xs r
  pub short : length (pairs xs) < places → r ≡ Err Lists
