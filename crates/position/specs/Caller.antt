-- What a caller in code learns: the model's answers, and the model's world.
use Rattle.std.specs.Prelude.{ℕ, List, [], ◌∷◌, ◌≡◌, None}
use Rattle.model.specs.Calls.{Call, create, grow, publish, locate, drop, world_after, answers_along}
use Rattle.model.specs.Open.{Opening, open_refusal, opened}
use Rattle.numbers.specs.Refusals.{answer}
use Rattle.plan_record.specs.Plan.{world_of, reply_of}
use Rattle.position.specs.declared.Driven.{Driven}

-- The calls that `drive` makes behind open.
abbrev pub driven_calls : (id tag : ℕ) → List ℕ → (len pos : ℕ) → List Call
driven_calls id tag name len pos = create id tag name ∷ grow id ∷ publish id len ∷ locate id pos 1 ∷ drop id ∷ []

pub record Drives (o : Opening) (id tag : ℕ) (name : List ℕ) (len pos : ℕ) (xs : List ℕ) (r : Driven) : Type 0 where
  pub opens : reply_of r.opened ≡ answer (open_refusal o) None
  pub answers : open_refusal o ≡ 0
      → (reply_of r.created ∷ reply_of r.grown ∷ reply_of r.published ∷ reply_of r.located ∷ reply_of r.dropped ∷ [])
      ≡ answers_along (opened o) (driven_calls id tag name len pos)
  pub world : open_refusal o ≡ 0 → world_of r.plan xs ≡ world_after (opened o) (driven_calls id tag name len pos)
