-- Every list of calls on a valid plan is the model's, by induction on the list.
use Prim.Native.Nat.{ℕ}
use mathlib.Core.List.{List, ◌∷◌}
use Rattle.std.specs.Prelude.{Option}
use mathlib.Core.Path.{◌≡◌, refl, ◌∙◌}
use Rattle.model.specs.Calls.{Call, locate, next, world_after, answers_along, accept}
use Rattle.model.specs.World.{World}
use Rattle.numbers.specs.Refusals.{Answer}
use Rattle.plan.specs.Calls.{Called, Leaves, Locates as Located}
use Rattle.plan.specs.Calls.{left}
use Rattle.plan_record.specs.Plan.{Valid, world_of, reply_of, Reply}
use Rattle.plan_record.specs.declared.Outcome.{Outcome}
use Rattle.position.specs.Runs.{Whole, with_plan, Run, ends, creates, grows, publishes, drops, caps, locates}
use Rattle.model.proofs.Steps.{next_cases}

abbrev pub ValidIn : Whole → Type 0
ValidIn h = Valid h.plan h.extents h.starts h.files

abbrev pub world_in : Whole → World
world_in h = world_of h.plan h.extents

-- What a list of calls on h leaves.
pub record Ran (w : World) (cs : List Call) (ns : List (Answer (Option ℕ))) (k : Whole) : Type 0 where
  pub valid : ValidIn k
  pub world : world_in k ≡ world_after w cs
  pub answers : ns ≡ answers_along w cs

-- one call, and the others from what it left
pub went : (h j : Whole) {k : Whole} {c : Call} {cs : List Call} {ns : List (Answer (Option ℕ))} {r : Reply}
    → Called h.plan c h.extents h.starts h.files j.extents j.starts j.files (left r j.plan)
    → (v : ValidIn h) → (ValidIn j → Ran (world_in j) cs ns k)
    → Ran (world_in h) (c ∷ cs) (reply_of r ∷ ns) k
unfolding world_after answers_along
went h j a v f =
    let g = f (a.valid v) in
    let e = a.world v in
    record { valid = g.valid; world = g.world ∙ rw e; answers = rw (a.answer v, g.answers, e) }

-- a call that leaves the lists
pub kept : (h j : Whole) {c : Call} {r : Outcome}
    → Leaves h.plan c h.extents h.starts h.files j.extents j.starts j.files r
    → Called h.plan c h.extents h.starts h.files j.extents j.starts j.files r
kept h j a = rw (a.extents, a.starts, a.files) a.called

-- a locate leaves the plan
pub stood : (h : Whole) {k : Whole} {id pos n : ℕ} {cs : List Call} {ns : List (Answer (Option ℕ))} {r : Reply}
    → Located h.plan id pos n h.starts h.files r
    → ValidIn h → Ran (world_in h) cs ns k → Ran (world_in h) (locate id pos n ∷ cs) (reply_of r ∷ ns) k
unfolding world_after answers_along accept
stood h {k} {id} {pos} {n} a v g =
    let w = world_in h in
    let e : next w (locate id pos n) ≡ w = next_cases w (locate id pos n) (λ (u : World). u ≡ w) (λ z. refl) (λ d. refl) in
    record { valid = g.valid; world = g.world ∙ rw e; answers = rw (a.answer h.extents v, g.answers, e) }

pub ran : {h k : Whole} {cs : List Call} {ns : List (Answer (Option ℕ))} → ValidIn h → Run h cs ns k → Ran (world_in h) cs ns k
unfolding world_after answers_along
ran v ends = record { valid = v; world = refl; answers = refl }
ran {h} v (creates l id tag name r j a t) = went h j (kept h j a) v (λ u. ran u t)
ran {h} v (grows l id r j a t) = went h j a.called v (λ u. ran u t)
ran {h} v (publishes l id len r p a t) = went h (with_plan h p) (a.called h.extents h.starts h.files) v (λ u. ran u t)
ran {h} v (drops l id r j a t) = went h j (kept h j a) v (λ u. ran u t)
ran {h} v (caps l tag limit r p a t) = went h (with_plan h p) (a.called h.extents h.starts h.files) v (λ u. ran u t)
ran {h} v (locates l id pos n r a t) = stood h a v (ran v t)
