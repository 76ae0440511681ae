-- What the library's calls promise: the plan's own promises, of the plan and the lists that a container stands for.
use Rattle.std.specs.Prelude.{ℕ, ◌≡◌, Result, Ok, Err, None}
use Rattle.flat_plan.specs.Plan.{plan_from, flat_reply}
use Rattle.flat_plan.specs.Record.{flat_record}
use Rattle.flat_plan.specs.declared.FlatReply.{FlatReply}
use Rattle.flat_plan.specs.declared.record.FlatRecord.{FlatRecord}
use Rattle.footprint.specs.declared.Limits.{Limits}
use Rattle.fundravai.specs.declared.Container.{Container}
use Rattle.numbers.specs.declared.refusal.Refusal.{Refusal}
use Rattle.plan.specs.Calls.{left}
use Rattle.plan_record.specs.Plan.{Reply}
use Rattle.plan_record.specs.declared.Outcome.{Outcome}
use Rattle.plan_record.specs.declared.Record.{Record}

abbrev pub limits_of : ℕ → ℕ → ℕ → Limits
limits_of log2 table file = record { log2_block = log2; table_end = table; file_len = file }

-- A reply of which P holds, as flat numbers.
pub record FlatReplied (P : Reply → Type 0) (r : FlatReply) : Type 0 where
  pub reply : Reply
  pub promise : P reply
  pub flat : r ≡ flat_reply reply

-- A reply as flat numbers, of which P holds beside the plan that the container stands for when the call ends. Where it is refused, no
-- number of the container has changed.
pub record FlatCalled (P : Outcome → Type 0) (c₀ c : Container) (r : FlatReply) : Type 0 where
  pub reply : Reply
  pub promise : P (left reply (plan_from c.plan))
  pub flat : r ≡ flat_reply reply
  pub refused : (n : Refusal) → reply ≡ Err n → c ≡ c₀

-- The same of open, whose plan is a new one where it accepts.
pub record FlatOpened (P : Outcome → Type 0) (c₀ c : Container) (r : FlatReply) : Type 0 where
  pub outcome : Outcome
  pub promise : P outcome
  pub flat : r ≡ flat_reply outcome.reply
  pub plan : outcome.reply ≡ Ok None → plan_from c.plan ≡ outcome.plan
  pub refused : (n : Refusal) → outcome.reply ≡ Err n → c ≡ c₀

-- The lists are as they were.
pub record SameLists (c₀ c : Container) : Type 0 where
  pub extents : c.extents ≡ c₀.extents
  pub starts : c.starts ≡ c₀.starts
  pub files : c.files ≡ c₀.files

-- A region handed out of which P holds: done and its record, or a refusal, which leaves the record as it was.
pub record FlatHands (P : Result Record Refusal → Type 0) (f₀ f : FlatRecord) (r : FlatReply) : Type 0 where
  pub handed : Result Record Refusal
  pub promise : P handed
  pub done : (g : Record) → handed ≡ Ok g → (f ≡ flat_record g) × (r ≡ flat_reply (Ok None))
  pub refused : (n : Refusal) → handed ≡ Err n → (f ≡ f₀) × (r ≡ flat_reply (Err n))
