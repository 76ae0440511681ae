-- What it means for open that a test of 1 to 14 fails, or none.
use Rattle.std.proofs.Common.{ℕ, ◌<◌, ne_eqb, Bool, [], ◌∷◌, ◌≡◌, sym, ◌∙◌, arith}
use Rattle.model.specs.Open.{Opening, open_refusal}
use Rattle.numbers.specs.Lists.{All}
use Rattle.numbers.specs.Refusals.{refuse, first}
use Rattle.plan_checks.specs.Early.{early_refusal}
use Rattle.model.proofs.Opening.{checks}
use Rattle.model.proofs.Refused.{Past, shared_in, marked_in}
use Rattle.numbers.proofs.Refusals.{first_one, first_stop, first_go, first_none, first_all, refuse_none}

module _ (o : Opening) where
  module _ (p : Past o) (m : ℕ) (e : m ≡ first (checks o)) where
    pub early_own : 0 < m → m ≡ early_refusal o
    unfolding early_refusal first refuse
    early_own h = rw (← e) (simp (p.lists, p.logs, p.size, ne_eqb m 0 (λ z. omega arith)))

    pub early_last : m ≡ 0 → (b : Bool) → shared_in o ≡ b → refuse 14 b ≡ early_refusal o
    unfolding early_refusal first refuse
    early_last z b t = rw (← e) (simp (p.lists, p.logs, p.size, z, t) (sym (first_one (refuse 14 b))))

  pub open_early : (early_refusal o ≡ 0 → ⊥) → open_refusal o ≡ early_refusal o
  unfolding early_refusal open_refusal
  open_early d = first_stop (_ ∷ _ ∷ _ ∷ _ ∷ _ ∷ []) (refuse 15 (marked_in o) ∷ []) d

  pub open_late : early_refusal o ≡ 0 → open_refusal o ≡ refuse 15 (marked_in o)
  unfolding early_refusal open_refusal
  open_late z = first_go (_ ∷ _ ∷ _ ∷ _ ∷ _ ∷ []) (refuse 15 (marked_in o) ∷ []) z ∙ first_one _

  -- what has passed then
  pub early_passed : early_refusal o ≡ 0 → Past o × All (λ (n : ℕ). n ≡ 0) (checks o)
  unfolding early_refusal
  early_passed z =
      let t1 = first_none _ _ z in
      let t2 = first_none _ _ t1.1 in
      let t3 = first_none _ _ t2.1 in
      let t4 = first_none _ _ t3.1 in (
        record {
          lists = refuse_none 1 _ (omega arith) t1.0;
          logs = refuse_none 2 _ (omega arith) t2.0;
          size = refuse_none 3 _ (omega arith) t3.0;
        },
        first_all (checks o) t4.0,
      )
