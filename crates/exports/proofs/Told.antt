-- Answers told by numbers.
use Rattle.std.specs.Prelude.{Option, None, Some, Result, Ok, Err}
use Rattle.std.specs.Result.{result_unwrap_or}
use Rattle.std.proofs.Common.{ℕ, ◌≡◌, List, [], Bool, true, cond, length, get_or, refl, sym, ap, ◌∙◌, eqb, arith}
use Rattle.exports.specs.Flat.{Told, FlatChecked}
use Rattle.footprint.specs.Footprint.{footprint_of, refusal_of, extra_of, check_of, answer_of}
use Rattle.footprint.specs.declared.Extent.{Extent}
use Rattle.footprint.specs.declared.Entry.{Entry}
use Rattle.footprint.specs.declared.Header.{Header}
use Rattle.footprint.specs.declared.Limits.{Limits}
use Rattle.numbers.proofs.Answers.{accepts_told, answer_number, number_told}
use Rattle.numbers.proofs.Refusals.{reason_above}
use Rattle.numbers.specs.Pairs.{flat}
use Rattle.numbers.specs.Range.{Range}
use Rattle.numbers.specs.Refusals.{Answer, answer, is_accepted, number_of, value_or, refusal_in, refusal_number, told}
use Rattle.numbers.specs.declared.refusal.Refusal.{Refusal}

-- no refusal has the number 0
pub told_answer : (d : Result (Unit {0}) Refusal) → told d ≡ answer (refusal_in d) tt
unfolding answer
told_answer (Ok v) = refl
told_answer (Err r) = sym (answer_number (refusal_number r) tt (λ z. omega (arith, reason_above r)))

-- the value, or another one where there is none
pub unwrap_told : {A : Type 0} (r : Result A Refusal) (other : A) → result_unwrap_or r other ≡ value_or other (told r)
unwrap_told (Ok v) other = refl
unwrap_told (Err e) other = refl

-- a verdict that is no refusal
pub usable : (x : Option Extent) → is_accepted (answer_of (Ok x)) ≡ true
usable None = refl
usable (Some x) = refl

-- what `check_region` answers, and the length of the part that it hands back
module _ (lim : Limits) (id : ℕ) (e : Entry) (h : Header) (xs s₀ : List ℕ) where
  pub checked_flat : (a : Answer (List Range)) (n refusal : ℕ) (old extra : Range)
      → a ≡ check_of lim id e h xs (length s₀) → Told a refusal old extra
      → n ≡ length (cond (is_accepted a) (flat (footprint_of lim e xs)) []) → FlatChecked lim id e h xs s₀ n refusal old extra
  checked_flat a n refusal old extra is t l =
      let k = refusal_of lim id e h xs (length s₀) in
      let accepts : is_accepted a ≡ eqb k 0 = ap is_accepted is ∙ accepts_told k (extra_of e xs) in
      record {
        number = t.number ∙ ap number_of is ∙ number_told k (extra_of e xs);
        count = l ∙ ap (λ (b : Bool). length (cond b (flat (footprint_of lim e xs)) [])) accepts;
        handed = t.handed ∙ ap (λ (w : Answer (List Range)). get_or (value_or [] w) 0 old) is;
      }
