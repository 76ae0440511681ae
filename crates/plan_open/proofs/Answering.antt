-- Each return of open makes its promise.
use Prim.Native.Nat.{ℕ, ◌/◌}
use mathlib.Core.List.{List}
use Rattle.std.specs.Prelude.{None, Ok, Err}
use mathlib.Core.Path.{◌≡◌, refl, ap, sym, ◌∙◌}
use native.Mathlib.Omega.{arith}
use lib.ListN.{length}
use Rattle.footprint.specs.declared.Limits.{Limits}
use Rattle.model.specs.Open.{Opening, open_refusal}
use Rattle.numbers.specs.Refusals.{refused, refusal_number}
use Rattle.plan_open.specs.Build.{Accepted, Built}
use Rattle.plan_open.specs.Open.{least_of, opening_of, Opens}
use Rattle.plan_record.specs.Plan.{blank_plan}
use Rattle.plan_record.specs.declared.Plan.{Plan}
use Rattle.plan_record.specs.declared.Record.{Record}
use Rattle.numbers.specs.declared.refusal.Refusal.{Refusal}
use Rattle.numbers.proofs.Refusals.{reason_above}
use Rattle.numbers.proofs.Answers.{answer_value, answer_number, no_error}
use Rattle.numbers.proofs.Pairs.{length_pairs}
use Rattle.plan_checks.specs.Opening as checked

-- a refusal, with a blank plan and the lists as they were
pub refused_opens : (o : Opening) (n : Refusal) → refusal_number n ≡ open_refusal o → (xs ss fs : List ℕ) (b : Plan) → b ≡ blank_plan
    → Opens o xs xs ss ss fs fs (record { reply = Err n; plan = b })
refused_opens o n e xs ss fs b q =
    let d : open_refusal o ≡ 0 → ⊥ = λ z. let k = reason_above n in absurd (omega (arith, e, z, k)) in
    record {
      answer = ap refused e ∙ sym (answer_number (open_refusal o) None d);
      valid = λ h. absurd (no_error _ _ (sym h));
      world = λ h. absurd (no_error _ _ (sym h));
      kept = λ m h. (q, refl, refl, refl);
      behind_extents = refl;
      behind_starts = refl;
      behind_files = refl;
    }

module _ (lim : Limits) (rs : List Record) (l s xs ss fs : List ℕ) (room number : ℕ)
    (p : room ≡ least_of (length xs / 2) (length ss) (length fs))
    (e : number ≡ open_refusal (checked.opening_of lim rs l (length s) room)) where
  abbrev o : Opening
  o = opening_of lim rs l s xs ss fs

  number_is : number ≡ open_refusal o
  number_is =
      e ∙ ap (λ (k : ℕ). open_refusal (checked.opening_of lim rs l (length s) k))
      (p ∙ ap (λ (j : ℕ). least_of j (length ss) (length fs)) (sym (length_pairs xs)))

  pub accepts : number ≡ 0 → Accepted lim rs l xs ss fs
  accepts z = record { scratch = length s; none = sym number_is ∙ z }

  pub open_refused : (n : Refusal) → refusal_number n ≡ number → (b : Plan) → b ≡ blank_plan
      → Opens o xs xs ss ss fs fs (record { reply = Err n; plan = b })
  open_refused n r b q = refused_opens o n (r ∙ number_is) xs ss fs b q

  pub open_accepted : number ≡ 0 → (xs' ss' fs' : List ℕ) (b : Plan) → Built lim rs l xs xs' ss ss' fs fs' b
      → Opens o xs xs' ss ss' fs fs' (record { reply = Ok None; plan = b })
  open_accepted z xs' ss' fs' b q =
      record {
        answer = sym (answer_value (open_refusal o) None (sym number_is ∙ z));
        valid = λ h. q.valid;
        world = λ h. q.world (length s) 0;
        kept = λ m h. absurd (no_error _ _ h);
        behind_extents = q.extents.behind;
        behind_starts = q.starts.behind;
        behind_files = q.files.behind;
      }
