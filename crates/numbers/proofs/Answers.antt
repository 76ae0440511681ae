-- Answers: which of the two cases a number makes, and what each case tells.
use Rattle.std.specs.Prelude.{Result, Ok, Err}
use Prim.Native.Nat.{ℕ, ◌<◌}
use mathlib.Core.Bool.{Bool, true, false, cond}
use mathlib.Core.Path.{◌≡◌, sym, ◌∙◌}
use native.Mathlib.Omega.{arith}
use lib.Dec.{eqb}
use borrow.Author.Tests.{eq-eqb, ne_eqb}
use Rattle.numbers.specs.Refusals.{refuse, Answer, accepted, refused, answer, number_of, is_accepted, value_or}
use Rattle.numbers.proofs.Cases.{by_eq}

module _ {A : Type 0} where
  -- a refusal is no acceptance
  pub not_both : (v : A) (n : ℕ) → accepted v ≡ refused n → ⊥
  not_both v n e = let z : ◌≡◌ {A = ℕ} 0 1 = cc in omega arith

  pub same_value : (v w : A) → accepted v ≡ accepted w → v ≡ w
  same_value v w e = cc

  pub same_number : (n k : ℕ) → ◌≡◌ {A = Answer A} (refused n) (refused k) → n ≡ k
  same_number n k e = cc

  module _ (n : ℕ) (v : A) where
    pub answer_value : n ≡ 0 → answer n v ≡ accepted v
    unfolding answer
    answer_value z = simp (eq-eqb _ _ z)

    pub answer_number : (n ≡ 0 → ⊥) → answer n v ≡ refused n
    unfolding answer
    answer_number d = simp (ne_eqb _ _ d)

    pub accepted_is : (w : A) → answer n v ≡ accepted w → (n ≡ 0) × (v ≡ w)
    accepted_is w e =
        by_eq n 0 (λ z. (z, same_value v w (sym (answer_value z) ∙ e)))
        (λ d. absurd (not_both w n (sym e ∙ answer_number d)))

    pub refused_is : (k : ℕ) → answer n v ≡ refused k → (n ≡ k) × (k ≡ 0 → ⊥)
    refused_is k e =
        by_eq n 0 (λ z. absurd (not_both v k (sym (answer_value z) ∙ e)))
        (λ d. let q = same_number n k (sym (answer_number d) ∙ e) in (q, λ z. d (q ∙ z)))

    -- read off it
    pub number_told : number_of (answer n v) ≡ n
    number_told = by_eq n 0 (λ z. rw (answer_value z) (sym z)) (λ d. rw (answer_number d))

    pub accepts_told : is_accepted (answer n v) ≡ eqb n 0
    accepts_told = by_eq n 0 (λ z. rw (answer_value z, eq-eqb _ _ z)) (λ d. rw (answer_number d, ne_eqb _ _ d))

    pub value_told : (other : A) → value_or other (answer n v) ≡ cond (eqb n 0) v other
    value_told other = by_eq n 0 (λ z. rw (answer_value z, eq-eqb _ _ z)) (λ d. rw (answer_number d, ne_eqb _ _ d))

  -- by one test
  module _ (n : ℕ) (b : Bool) (v : A) where
    pub one_passes : b ≡ false → answer (refuse n b) v ≡ accepted v
    unfolding refuse
    one_passes e = answer_value (refuse n b) v (simp e)

    pub one_fails : 0 < n → b ≡ true → answer (refuse n b) v ≡ refused n
    unfolding refuse
    one_fails h e = rw e (answer_number n v (λ z. omega arith))

-- the same of a result
pub no_error : {A E : Type 0} (v : A) (e : E) → ◌≡◌ {A = Result A E} (Ok v) (Err e) → ⊥
no_error v e z = cc
