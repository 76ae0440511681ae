-- What a call leaves of a container: the plan as numbers again, or nothing written.
use mathlib.Core.Bool.{cond}
use mathlib.Core.List.{List, []}
use mathlib.Core.Path.{◌≡◌, refl, sym, ◌∙◌, ap, subst}
use Prim.Native.Nat.{ℕ}
use Rattle.std.specs.Prelude.{Ok, Err, is_ok}
use Rattle.flat_plan.specs.Plan.{plan_from, flat_plan, flat_reply}
use Rattle.flat_plan.specs.declared.FlatPlan.{FlatPlan}
use Rattle.flat_plan.specs.declared.FlatReply.{FlatReply}
use Rattle.flat_plan.proofs.Again.{from_flat}
use Rattle.fundravai.specs.Flat.{FlatCalled, FlatOpened}
use Rattle.fundravai.specs.declared.Container.{Container}
use Rattle.numbers.specs.declared.refusal.Refusal.{Refusal}
use Rattle.numbers.proofs.Cases.{clash}
use Rattle.model.specs.Open.{Opening}
use Rattle.plan_open.specs.Open.{Opens}
use Rattle.plan.specs.Calls.{Changes, Leaves, Grows, left}
use Rattle.plan_record.specs.Plan.{Reply}
use Rattle.plan_record.specs.declared.Outcome.{Outcome}
use Rattle.plan_record.specs.declared.Plan.{Plan}
use Rattle.model.specs.Calls.{Call}

-- what a refused call leaves of the plan and the lists
abbrev Unchanged : Container → Plan → (xs ss fs : List ℕ) → Type 0
Unchanged c p xs ss fs = (p ≡ plan_from c.plan) × (xs ≡ c.extents) × (ss ≡ c.starts) × (fs ≡ c.files)

module _ (P : Outcome → Type 0) (c : Container) {told : FlatReply} (p : Plan) (f : FlatPlan) (xs ss fs : List ℕ) where
  written : (r : Reply) → told ≡ flat_reply r → f ≡ cond (is_ok r) (flat_plan p) c.plan → P (left r p)
      → ((n : Refusal) → r ≡ Err n → Unchanged c p xs ss fs)
      → FlatCalled P c (record { plan = f; extents = xs; starts = ss; files = fs }) told
  written (Ok a) t e g k =
      record {
        reply = Ok a;
        promise = subst (λ (q : Plan). P (left (Ok a) q)) (sym (ap plan_from e ∙ from_flat p)) g;
        flat = t;
        refused = λ n b. clash refl (ap is_ok b);
      }
  written (Err n) t e g k =
      let u = k n refl in
      record {
        reply = Err n;
        promise = subst (λ (q : Plan). P (left (Err n) q)) (u.0 ∙ ap plan_from (sym e)) g;
        flat = t;
        refused = λ m b. rw (e, u.1, u.2, u.3) refl;
      }

-- a container whose plan and lists a call has written
abbrev pub with_lists : FlatPlan → (xs ss fs : List ℕ) → Container
with_lists f xs ss fs = record { plan = f; extents = xs; starts = ss; files = fs }

module _ (c : Container) {told : FlatReply} {q p : Plan} {f : FlatPlan} {r : Reply} {k : Call} (e : q ≡ plan_from c.plan) (t : told ≡ flat_reply r)
    (g : f ≡ cond (is_ok r) (flat_plan p) c.plan) where
  pub grow_written : {id : ℕ} {xs ss fs : List ℕ} → Grows q k id c.extents c.starts c.files xs ss fs (left r p)
      → FlatCalled (Grows (plan_from c.plan) k id c.extents c.starts c.files xs ss fs) c (with_lists f xs ss fs) told
  grow_written h = rw (← e) (written _ c p f _ _ _ r t g h (λ n b. let u = h.called.refused n b in (u.0 ∙ e, u.1, u.2, u.3)))

  pub leaves_written : {xs ss fs : List ℕ} → Leaves q k c.extents c.starts c.files xs ss fs (left r p)
      → FlatCalled (Leaves (plan_from c.plan) k c.extents c.starts c.files xs ss fs) c (with_lists f xs ss fs) told
  leaves_written h = rw (← e) (written _ c p f _ _ _ r t g h (λ n b. ((h.called.refused n b).0 ∙ e, h.extents, h.starts, h.files)))

  pub changes_written : Changes q k (left r p) → FlatCalled (Changes (plan_from c.plan) k) c (with_lists f c.extents c.starts c.files) told
  changes_written h = rw (← e) (written _ c p f _ _ _ r t g h (λ n b. (((h.called [] [] []).refused n b).0 ∙ e, refl, refl, refl)))

-- what stands in a container where an open accepts, and where it refuses
pub opened : {o : Opening} {c : Container} {told : FlatReply} {xs ss fs : List ℕ} {f : FlatPlan} {p : Plan} (r : Reply) → told ≡ flat_reply r
    → f ≡ cond (is_ok r) (flat_plan p) c.plan → Opens o c.extents xs c.starts ss c.files fs (record { reply = r; plan = p })
    → FlatOpened (Opens o c.extents xs c.starts ss c.files fs) c (with_lists f xs ss fs) told
opened {p = p} (Ok a) t e o =
    record {
      outcome = record { reply = Ok a; plan = p };
      promise = o;
      flat = t;
      plan = λ z. ap plan_from e ∙ from_flat p;
      refused = λ n z. clash refl (ap is_ok z);
    }
opened {p = p} (Err n) t e o =
    let k = o.kept n refl in
    record {
      outcome = record { reply = Err n; plan = p };
      promise = o;
      flat = t;
      plan = λ z. clash refl (sym (ap is_ok z));
      refused = λ m z. rw (e, k.1, k.2, k.3) refl;
    }
