-- The position theorem: what every list of calls leaves is the model's, and demand 3 holds of the model.
use Prim.Native.Nat.{ℕ, ◌+◌}
use mathlib.Core.List.{List, [], ◌∷◌}
use Rattle.std.specs.Prelude.{Option, Some, None, Ok, Err}
use mathlib.Core.Path.{◌≡◌, refl, ap, sym, subst, ◌∙◌}
use native.Mathlib.Omega.{arith}
use Rattle.model.specs.Calls.{Call, create, grow, publish, drop, cap, locate, answer_to, next, world_after, answers_along}
use Rattle.model.specs.Open.{open_refusal, opened}
use Rattle.model.specs.World.{World, held, free, physical, logical}
use Rattle.numbers.specs.Refusals.{Answer, accepted, answer}
use Rattle.plan_record.specs.Plan.{reply_of, Reply}
use Rattle.plan_record.specs.declared.Outcome.{Outcome}
use Rattle.position.specs.Position.{TellsRoom, RoomFor, Rooms, After, Position}
use Rattle.position.specs.Runs.{Whole, Loan, Loans, Arguments, OpensWith, opening_with, with_plan, Run, Locates}
use Rattle.model.proofs.Demand.{sound_demand}
use Rattle.model.proofs.Opening.{opened_sound}
use Rattle.model.proofs.Sound.{Sound}
use Rattle.model.proofs.Steps.{next_sound, after_sound}
use Rattle.numbers.proofs.Answers.{same_value, answer_value, accepted_is}
use Rattle.position.proofs.Running.{world_in, Ran, ran}
use Rattle.model.specs.Demand as model
use Rattle.plan.proofs.cap.Met as cap_met
use Rattle.plan.proofs.create.Met as create_met
use Rattle.plan.proofs.drop.Met as drop_met
use Rattle.plan.proofs.grow.Met as grow_met
use Rattle.plan.proofs.locate.Met as locate_met
use Rattle.plan.proofs.publish.Met as publish_met
use Rattle.plan_open.proofs.open.Met as open_met
use Rattle.plan_record.proofs.Plan.free.Met as free_met
use Rattle.plan_record.proofs.Plan.held.Met as held_met
use Rattle.plan_record.proofs.Plan.logical.Met as logical_met
use Rattle.plan_record.proofs.Plan.physical.Met as physical_met

-- ---- room

told : {w : World} {tests : List ℕ} {n : ℕ} {c : Call} → model.Room w tests n c → TellsRoom w tests n (answer_to w c)
told r = record { full = r.full; only_full = r.only_full; placed = r.placed }

room_for : (w : World) → Sound w → (c : Call) → RoomFor w c (answer_to w c)
room_for w s (create id tag name) = told {c = create id tag name} ((sound_demand w s).create_room id tag name)
room_for w s (grow id) = told {c = grow id} ((sound_demand w s).grow_room id)
room_for w s (publish id len) = tt
room_for w s (drop id) = tt
room_for w s (cap tag limit) = tt
room_for w s (locate id pos n) = tt

rooms_along : (w : World) → Sound w → (cs : List Call) → Rooms w cs (answers_along w cs)
unfolding answers_along
rooms_along w s [] = tt
rooms_along w s (c ∷ cs) = (room_for w s c, rooms_along (next w c) (next_sound w s c) cs)

-- ---- after a list of calls

module _ (w₀ : World) (s₀ : Sound w₀) (cs : List Call) (ns : List (Answer (Option ℕ))) (h : Whole) (g : Ran w₀ cs ns h) where
  abbrev w : World
  w = world_after w₀ cs

  sound : Sound w
  sound = after_sound w₀ s₀ cs

  demand : model.Demand w
  demand = sound_demand w sound

  -- a located position
  found : (l : Loans) (id p : ℕ) (r : Reply) → model.Published w id p → Locates l h id p 1 r
      → reply_of r ≡ accepted (Some (model.byte_at w id p))
  found l id p r b a = a.answer h.extents g.valid ∙ ap (λ (u : World). answer_to u (locate id p 1)) g.world ∙ demand.located id p b

  some_same : {a b : ℕ} → Some a ≡ Some b → a ≡ b
  some_same e = cc

  after : After w₀ cs ns h w
  after =
      record {
        answers = g.answers;
        located = found;
        own = λ l m id p jd q r t b d x y e.
            demand.own id p jd q b d (some_same (same_value _ _ (sym (found l id p r b x) ∙ e ∙ found m jd q t d y)));
        stays = λ l m id p r t ds ms k c kp b x y.
            let u = ran g.valid c in
            let z = demand.stays id p ds b kp in
            let e : world_in k ≡ world_after w ds = u.world ∙ ap (λ (v : World). world_after v ds) g.world in
            let f = (sound_demand (world_after w ds) (after_sound w sound ds)).located id p z.0 in (
              z.0,
              y.answer k.extents u.valid ∙ ap (λ (v : World). answer_to v (locate id p 1)) e ∙ f
                  ∙ ap (λ (n : ℕ). accepted (Some n)) z.1 ∙ sym (found l id p r b x),
            );
        forgets = demand.forgets;
        held_is = λ l r x. x.told h.extents h.starts h.files g.valid ∙ ap held g.world;
        free_is = λ l r x. x.told h.extents h.starts h.files g.valid ∙ ap free g.world;
        figures = λ l m r t x y.
            ap (λ (n : ℕ). n + t) (x.told h.extents h.starts h.files g.valid ∙ ap held g.world)
            ∙ ap (λ (n : ℕ). held w + n) (y.told h.extents h.starts h.files g.valid ∙ ap free g.world) ∙ demand.figures;
        physical_is = λ l tag r x. x.told h.extents h.starts h.files g.valid ∙ ap (λ (u : World). physical u tag) g.world;
        logical_is = λ l tag r x. x.told h.extents h.starts h.files g.valid ∙ ap (λ (u : World). logical u tag) g.world;
        rooms = subst (Rooms w₀ cs) (sym g.answers) (rooms_along w₀ s₀ cs);
      }

-- ---- open

-- a reply that reads as an acceptance with no byte is one
done_read : (r : Reply) → reply_of r ≡ accepted None → r ≡ Ok None
done_read (Ok None) e = refl
done_read (Ok (Some a)) e = let z : ◌≡◌ {A = ℕ} 0 1 = cc in absurd (omega arith)
done_read (Err n) e = let z : ◌≡◌ {A = ℕ} 0 1 = cc in absurd (omega arith)

pub done_at : (r : Reply) {n : ℕ} → reply_of r ≡ answer n None → n ≡ 0 → r ≡ Ok None
done_at r e z = done_read r (e ∙ answer_value _ None z)

module _ (l : Loans) (q a b : Loan) (o : Arguments) (s t : List ℕ) (h k : Whole) (r : Outcome) (x : OpensWith l q a b o s h r t k) where
  done : open_refusal (opening_with o s h) ≡ 0 → r.reply ≡ Ok None
  done z = done_at r.reply x.answer z

  only : r.reply ≡ Ok None → open_refusal (opening_with o s h) ≡ 0
  only e = (accepted_is _ None None (sym x.answer ∙ ap reply_of e)).0

  claims : open_refusal (opening_with o s h) ≡ 0 → (cs : List Call) (ns : List (Answer (Option ℕ))) (j : Whole)
      → Run (with_plan k r.plan) cs ns j
      → After (opened (opening_with o s h)) cs ns j (world_after (opened (opening_with o s h)) cs)
  claims z cs ns j c =
      let d = done z in
      let w = opened (opening_with o s h) in
      after w (opened_sound (opening_with o s h) z) cs ns j (subst (λ (u : World). Ran u cs ns j) (x.world d) (ran (x.valid d) c))

pub position : Position
position =
    record {
      opens = open_met.met;
      creates = create_met.met;
      grows = grow_met.met;
      publishes = publish_met.met;
      drops = drop_met.met;
      caps = cap_met.met;
      locates = locate_met.met;
      tells_held = held_met.met;
      tells_free = free_met.met;
      tells_physical = physical_met.met;
      tells_logical = logical_met.met;
      accepts = done;
      only_then = only;
      claim = claims;
    }
