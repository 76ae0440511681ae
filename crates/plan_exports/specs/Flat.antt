-- What open answers, as flat numbers.
use Rattle.std.specs.Prelude.{ℕ, ◌≡◌}
use Rattle.flat_plan.specs.Plan.{flat_outcome}
use Rattle.flat_plan.specs.declared.FlatOutcome.{FlatOutcome}
use Rattle.footprint.specs.declared.Limits.{Limits}
use Rattle.plan_record.specs.declared.Outcome.{Outcome}

abbrev pub limits_of : ℕ → ℕ → ℕ → Limits
limits_of log2 table file = record { log2_block = log2; table_end = table; file_len = file }

-- An outcome of which P holds, as flat numbers.
pub record FlatCalled (P : Outcome → Type 0) (r : FlatOutcome) : Type 0 where
  pub outcome : Outcome
  pub promise : P outcome
  pub flat : r ≡ flat_outcome outcome
