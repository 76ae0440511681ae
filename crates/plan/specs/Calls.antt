-- Document 01, "The plan (added)": what each call on a plan promises, by the model's answer and its next world.
use Rattle.numbers.specs.declared.refusal.Refusal.TheVariants.{Lists}
use Rattle.numbers.specs.declared.refusal.Refusal.{Refusal}
use Rattle.std.specs.Prelude.{ℕ, ◌+◌, ◌*◌, ◌<◌, min, true, ◌||◌, List, ◌⊎◌, ◌≡◌, ltb, length, drop, set, get_or, Err}
use Rattle.model.specs.Calls.{Call, locate, answer_to, next}
use Rattle.numbers.specs.Pairs.{pairs}
use Rattle.plan_record.specs.Plan.{Valid, world_of, reply_of, lists_short, places, spot_of, past_region, Reply}
use Rattle.plan_record.specs.declared.Outcome.{Outcome}
use Rattle.plan_record.specs.declared.Plan.{Plan}

-- A call's answer, and the plan as it left it.
abbrev pub left : Reply → Plan → Outcome
left r p = record { reply = r; plan = p }

-- What a call promises that may change the plan: of a valid plan, its answer, the plan that it leaves and that plan's world are the
-- model's; of every record, "A refused call returns its number alone and changes nothing".
pub record Called (p : Plan) (c : Call) (xs₀ ss₀ fs₀ xs ss fs : List ℕ) (r : Outcome) : Type 0 where
  pub answer : Valid p xs₀ ss₀ fs₀ → reply_of r.reply ≡ answer_to (world_of p xs₀) c
  pub valid : Valid p xs₀ ss₀ fs₀ → Valid r.plan xs ss fs
  pub world : Valid p xs₀ ss₀ fs₀ → world_of r.plan xs ≡ next (world_of p xs₀) c
  pub refused : (n : Refusal) → r.reply ≡ Err n → (r.plan ≡ p) × (xs ≡ xs₀) × (ss ≡ ss₀) × (fs ≡ fs₀)

-- Of a call that takes no lists, with whatever lists the plan has.
pub record Changes (p : Plan) (c : Call) (r : Outcome) : Type 0 where
  pub called : (xs ss fs : List ℕ) → Called p c xs ss fs xs ss fs r

-- Of a call that takes the lists and leaves them.
pub record Leaves (p : Plan) (c : Call) (xs₀ ss₀ fs₀ xs ss fs : List ℕ) (r : Outcome) : Type 0 where
  pub called : Called p c xs₀ ss₀ fs₀ xs₀ ss₀ fs₀ r
  pub extents : xs ≡ xs₀
  pub starts : ss ≡ ss₀
  pub files : fs ≡ fs₀
  -- 1 before every other number
  pub short : lists_short xs₀ ss₀ fs₀ ≡ true → r.reply ≡ Err Lists

-- At most one place of a list has changed, in one row.
abbrev pub OnePlace : {A : Type 0} → ℕ → List A → List A → Type 0
OnePlace {A} row l₀ l = (l ≡ l₀) ⊎ ((k : ℕ) × (v : A) × (k < 60) × (l ≡ set l₀ (60 * row + k) v))

-- Of grow, on every record: the row is that of the region in the plan that it leaves, so that slots behind the 64 rows keep their content
-- (`place_behind` of proofs/Slots).
pub record Grows (p : Plan) (c : Call) (id : ℕ) (xs₀ ss₀ fs₀ xs ss fs : List ℕ) (r : Outcome) : Type 0 where
  pub called : Called p c xs₀ ss₀ fs₀ xs ss fs r
  pub short : lists_short xs₀ ss₀ fs₀ ≡ true → r.reply ≡ Err Lists
  pub extents : OnePlace (min (get_or r.plan.regions (spot_of p id) past_region).row 63) (pairs xs₀) (pairs xs)
  pub starts : OnePlace (min (get_or r.plan.regions (spot_of p id) past_region).row 63) ss₀ ss
  pub files : OnePlace (min (get_or r.plan.regions (spot_of p id) past_region).row 63) fs₀ fs
  -- the last number of an odd list of extents
  pub odd : drop (2 * length (pairs xs₀)) xs ≡ drop (2 * length (pairs xs₀)) xs₀

-- Of locate, which reads the starts and the file offsets alone.
pub record Locates (p : Plan) (id pos n : ℕ) (ss fs : List ℕ) (r : Reply) : Type 0 where
  pub answer : (xs : List ℕ) → Valid p xs ss fs → reply_of r ≡ answer_to (world_of p xs) (locate id pos n)
  pub short : (ltb (length ss) places || ltb (length fs) places) ≡ true → r ≡ Err Lists
