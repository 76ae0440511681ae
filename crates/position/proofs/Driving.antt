-- What the caller in code learns, from what each call promised.
use Prim.Native.Nat.{ℕ}
use mathlib.Core.List.{List, [], ◌∷◌}
use Rattle.std.specs.Prelude.{Option}
use mathlib.Core.Path.{◌≡◌, refl, subst}
use Rattle.model.specs.Calls.{create, grow, publish, drop, world_after, answers_along}
use Rattle.model.specs.Open.{Opening, open_refusal, opened}
use Rattle.model.specs.World.{World}
use Rattle.numbers.specs.Refusals.{Answer}
use Rattle.plan_open.specs.Open.{Opens}
use Rattle.plan_record.specs.Plan.{reply_of, Reply}
use Rattle.plan_record.specs.declared.Outcome.{Outcome}
use Rattle.plan_record.specs.declared.Plan.{Plan}
use Rattle.position.specs.Caller.{Drives, driven_calls}
use Rattle.position.specs.Runs.{Whole}
use Rattle.position.proofs.Position.{done_at}
use Rattle.position.proofs.Running.{Ran, went, kept, stood}
use Rattle.plan.specs.Calls.{left}
use Rattle.plan.specs.Calls as calls

abbrev whole : Plan → (xs ss fs : List ℕ) → Whole
whole p xs ss fs = record { plan = p; extents = xs; starts = ss; files = fs }

abbrev replies : (b c d f e : Reply) → List (Answer (Option ℕ))
replies b c d f e = reply_of b ∷ reply_of c ∷ reply_of d ∷ reply_of f ∷ reply_of e ∷ []

module _ {o : Opening} {id tag : ℕ} {name : List ℕ} {len pos : ℕ} {a : Outcome} {b c d e f : Reply} {p₂ p₃ p₄ p₅ : Plan}
    {xs₀ ss₀ fs₀ xs₁ ss₁ fs₁ xs₂ ss₂ fs₂ xs₃ ss₃ fs₃ xs₄ ss₄ fs₄ : List ℕ} where
  pub drives : Opens o xs₀ xs₁ ss₀ ss₁ fs₀ fs₁ a
      → calls.Leaves a.plan (create id tag name) xs₁ ss₁ fs₁ xs₂ ss₂ fs₂ (left b p₂)
      → calls.Grows p₂ (grow id) id xs₂ ss₂ fs₂ xs₃ ss₃ fs₃ (left c p₃)
      → calls.Changes p₃ (publish id len) (left d p₄)
      → calls.Locates p₄ id pos 1 ss₃ fs₃ f
      → calls.Leaves p₄ (drop id) xs₃ ss₃ fs₃ xs₄ ss₄ fs₄ (left e p₅)
      → Drives o id tag name len pos xs₄
      (record { opened = a.reply; created = b; grown = c; published = d; located = f; dropped = e; plan = p₅ })
  unfolding world_after answers_along
  drives x k₁ k₂ k₃ k₄ k₅ =
      let h₁ = whole a.plan xs₁ ss₁ fs₁ in
      let h₂ = whole p₂ xs₂ ss₂ fs₂ in
      let h₃ = whole p₃ xs₃ ss₃ fs₃ in
      let h₄ = whole p₄ xs₃ ss₃ fs₃ in
      let h₅ = whole p₅ xs₄ ss₄ fs₄ in
      let Driven : World → Type 0 = λ w. Ran w (driven_calls id tag name len pos) (replies b c d f e) h₅ in
      let all : open_refusal o ≡ 0 → Driven (opened o) =
      λ z.
      let y = done_at a.reply x.answer z in
      subst Driven (x.world y)
      (went h₁ h₂ (kept h₁ h₂ k₁) (x.valid y)
      (λ v₂. went h₂ h₃ k₂.called v₂
      (λ v₃. went h₃ h₄ (k₃.called xs₃ ss₃ fs₃) v₃
      (λ v₄. stood h₄ k₄ v₄ (went h₄ h₅ (kept h₄ h₅ k₅) v₄ (λ v₅. record { valid = v₅; world = refl; answers = refl })))))) in
      record { opens = x.answer; answers = λ z. (all z).answers; world = λ z. (all z).world }
