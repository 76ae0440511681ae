-- A refused call, and an accepted one, by what they are of a valid plan.
use Rattle.numbers.proofs.Refusals.{reason_above}
use Rattle.numbers.specs.declared.refusal.Refusal.TheVariants.{Lists}
use Rattle.numbers.specs.declared.refusal.Refusal.{Refusal}
use Rattle.std.specs.Prelude.{Ok, Err, Option}
use Prim.Native.Nat.{ℕ, ◌≤◌, ◌/◌}
use mathlib.Core.Bool.{true, false, ◌||◌}
use mathlib.Core.List.{List}
use mathlib.Core.Path.{◌≡◌, refl, sym, subst, ◌∙◌, ap}
use native.Mathlib.Omega.{arith}
use lib.Dec.{ltb}
use lib.ListN.{length}
use borrow.Author.Tests.{le-ltb, ltb-false}
use Rattle.model.specs.Calls.{Call, refusal_to, byte_for, accept}
use Rattle.numbers.specs.Refusals.{accepted, refusal_number}
use Rattle.plan_record.specs.Plan.{Valid, world_of, lists_short, places}
use Rattle.plan_record.specs.declared.Outcome.{Outcome}
use Rattle.plan_record.specs.declared.Plan.{Plan}
use Rattle.plan.specs.Calls.{Called, Leaves}
use Rattle.plan.specs.Inner.{refusing}
use Rattle.model.proofs.Sound.{Sound}
use Rattle.model.proofs.Steps.{next_accepted, next_refused, next_sound}
use Rattle.numbers.proofs.Answers.{answer_value, answer_number, no_error}
use Rattle.numbers.proofs.Cases.{clash, or-false}
use Rattle.numbers.proofs.Pairs.{length_pairs}

module _ (p : Plan) (c : Call) (xs ss fs : List ℕ) where
  -- the model refuses it too
  pub called_refused : (n : Refusal) → (Valid p xs ss fs → refusal_to (world_of p xs) c ≡ refusal_number n) → Called p c xs ss fs xs ss fs (refusing p n)
  called_refused n f =
      let d : refusal_number n ≡ 0 → ⊥ = λ z. let h = reason_above n in omega arith in
      record {
        answer = λ v. rw (f v) (sym (answer_number (refusal_number n) _ d));
        valid = λ v. v;
        world = λ v. sym (next_refused (world_of p xs) c (λ z. d (sym (f v) ∙ z)));
        refused = λ m e. (refl, refl, refl, refl);
      }

-- the model accepts it, with the same byte, and the plan handed back means the next world
module _ (p : Plan) (c : Call) (xs₀ ss₀ fs₀ xs ss fs : List ℕ) (at : Option ℕ) (q : Plan) where
  pub record Accepts (v : Valid p xs₀ ss₀ fs₀) : Type 0 where
    pub passes : refusal_to (world_of p xs₀) c ≡ 0
    pub byte : at ≡ byte_for (world_of p xs₀) c
    pub world : world_of q xs ≡ accept (world_of p xs₀) c
    pub valid : Sound (world_of q xs) → Valid q xs ss fs

  pub called_accepted : ((v : Valid p xs₀ ss₀ fs₀) → Accepts v) → Called p c xs₀ ss₀ fs₀ xs ss fs (record { reply = Ok at; plan = q })
  called_accepted f =
      record {
        answer = λ v. let a = f v in ap accepted a.byte ∙ sym (answer_value _ _ a.passes);
        valid = λ v.
            let a = f v in
            a.valid (subst Sound (sym (a.world ∙ sym (next_accepted (world_of p xs₀) c a.passes))) (next_sound (world_of p xs₀) v.sound c));
        world = λ v. let a = f v in a.world ∙ sym (next_accepted (world_of p xs₀) c a.passes);
        refused = λ n e. absurd (no_error at n e);
      }

-- ---- lists that are too short

module _ (xs ss fs : List ℕ) where
  pub short_is : lists_short xs ss fs ≡ (ltb (length xs / 2) 3840 || ltb (length ss) 3840 || ltb (length fs) 3840)
  unfolding lists_short
  short_is = rw (length_pairs xs)

  -- lists that are not
  pub long_enough : lists_short xs ss fs ≡ false → (places ≤ length ss) × (places ≤ length fs) × (3840 ≤ length xs / 2)
  long_enough z =
      let a = or-false _ _ (sym short_is ∙ z) in
      let d = or-false _ _ a.0 in
      (ltb-false _ _ d.1, ltb-false _ _ a.1, ltb-false _ _ d.0)

  pub valid_long : (p : Plan) → Valid p xs ss fs → lists_short xs ss fs ≡ false
  unfolding lists_short
  valid_long p v = simp (le-ltb _ _ v.extents, le-ltb _ _ v.starts, le-ltb _ _ v.files)

-- a call that leaves the lists
pub leaves : {p : Plan} {c : Call} {xs ss fs : List ℕ} {r : Outcome} → Called p c xs ss fs xs ss fs r → (lists_short xs ss fs ≡ true → r.reply ≡ Err Lists)
    → Leaves p c xs ss fs xs ss fs r
leaves k s = record { called = k; extents = refl; starts = refl; files = refl; short = s }

-- 1 before every other number
pub leaves_short : (p : Plan) (c : Call) (xs ss fs : List ℕ) → lists_short xs ss fs ≡ true → Leaves p c xs ss fs xs ss fs (refusing p Lists)
leaves_short p c xs ss fs s = leaves (called_refused p c xs ss fs Lists (λ v. clash s (valid_long xs ss fs p v))) (λ e. refl)

pub leaves_long : {p : Plan} {c : Call} {xs ss fs : List ℕ} {r : Outcome} → lists_short xs ss fs ≡ false → Called p c xs ss fs xs ss fs r → Leaves p c xs ss fs xs ss fs r
leaves_long s k = leaves k (λ e. clash e s)
