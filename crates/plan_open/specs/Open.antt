-- Document 01, "The plan (added)", open: what it answers, and the plan that it hands back.
use Rattle.std.specs.Prelude.{ℕ, ◌/◌, min, List, ◌≡◌, length, drop, None, Ok, Err}
use Rattle.footprint.specs.declared.Limits.{Limits}
use Rattle.model.specs.Open.{Opening, open_refusal, opened}
use Rattle.numbers.specs.Pairs.{pairs}
use Rattle.numbers.specs.Refusals.{answer}
use Rattle.plan_record.specs.Plan.{Valid, world_of, reply_of, blank_plan}
use Rattle.plan_record.specs.declared.Outcome.{Outcome}
use Rattle.plan_record.specs.declared.Record.{Record}
use Rattle.numbers.specs.declared.refusal.Refusal.{Refusal}
use Rattle.plan_checks.specs.Opening as checked
use Rattle.plan_checks.specs.declared.container.Opening as container

-- How many rows of 60 places there are in each of three lists: 01's "places" for regions, of which 1 says "too short".
abbrev pub least_of : ℕ → ℕ → ℕ → ℕ
least_of extents starts files = min (extents / 60) (min (starts / 60) (files / 60))

abbrev pub places_of : (extents starts files : List ℕ) → ℕ
places_of xs ss fs = least_of (length (pairs xs)) (length ss) (length fs)

-- What the arguments of open stand for: the records, the headers' extent lists, how much scratch is lent, and how many regions
-- the lists have room for that are lent for the plan.
abbrev pub opening_of : Limits → List Record → (listed scratch extents starts files : List ℕ) → Opening
opening_of lim rs listed scratch xs ss fs = checked.opening_of lim rs listed (length scratch) (places_of xs ss fs)

-- The same of the container as open is given it.
abbrev pub opening_from : container.Opening → (scratch extents starts files : List ℕ) → Opening
opening_from o scratch xs ss fs = opening_of o.limits o.records.now o.listed.now scratch xs ss fs

-- What open promises: its answer and, where it accepts, a plan for the world that its arguments make, with the lists as it left them.
-- "A refused call .. changes nothing" of these lists, and slots behind the 64 rows keep their content always.
pub record Opens (o : Opening) (xs₀ xs ss₀ ss fs₀ fs : List ℕ) (r : Outcome) : Type 0 where
  pub answer : reply_of r.reply ≡ answer (open_refusal o) None
  pub valid : r.reply ≡ Ok None → Valid r.plan xs ss fs
  pub world : r.reply ≡ Ok None → world_of r.plan xs ≡ opened o
  pub kept : (n : Refusal) → r.reply ≡ Err n → (r.plan ≡ blank_plan) × (xs ≡ xs₀) × (ss ≡ ss₀) × (fs ≡ fs₀)
  pub behind_extents : drop 7680 xs ≡ drop 7680 xs₀
  pub behind_starts : drop 3840 ss ≡ drop 3840 ss₀
  pub behind_files : drop 3840 fs ≡ drop 3840 fs₀
