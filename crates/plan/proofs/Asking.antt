-- What `allows` of the accounts tells of a valid plan: the 97th tag, and the cap.
use Rattle.numbers.proofs.Cases.{cases}
use Rattle.numbers.proofs.Answers.{no_error}
use Rattle.numbers.specs.declared.refusal.Refusal.TheVariants.{Full}
use Rattle.numbers.specs.declared.refusal.Refusal.{Refusal}
use Rattle.std.specs.Prelude.{Result, Ok, Err}
use Prim.Native.Nat.{ℕ}
use mathlib.Core.Bool.{Bool, true, false, not}
use mathlib.Core.List.{List}
use mathlib.Core.Path.{◌≡◌, refl, ap, sym, ◌∙◌}
use Rattle.accounting.specs.declared.Posted.{Posted}
use Rattle.model.specs.Calls.{tag_full, cap_fails}
use Rattle.plan_record.specs.Plan.{rows_of, world_of, Valid}
use Rattle.plan_record.specs.declared.Plan.{Plan}
use Rattle.tagspace.specs.Row.{fits}
use Rattle.plan_record.proofs.Tags.{table_in, posting_full, posting_fine}
use Rattle.accounting.specs.Table as accounting

module _ (p : Plan) (xs ss fs : List ℕ) (v : Valid p xs ss fs) (tag n : ℕ) (q : Result Bool Refusal) (o : accounting.Allows p.accounts tag n q) where
  abbrev fit : Bool
  fit = fits n (accounting.row_of tag (rows_of p))

  told_by : {r : Posted} → accounting.handed (table_in p) (accounting.on_row tag accounting.same (table_in p)) ≡ r → q ≡ accounting.answering fit r.answer
  told_by e = o.answer v.accounts ∙ ap (λ (r : Posted). accounting.answering fit r.answer) e

  full : tag_full (world_of p xs) tag ≡ true → q ≡ Err Full
  full f = told_by (posting_full p xs ss fs v tag accounting.same (λ r. refl) f)

  fine : tag_full (world_of p xs) tag ≡ false → q ≡ Ok fit
  fine f = told_by (posting_fine p xs ss fs v tag accounting.same (λ r. refl) f)

  pub asked_full : (e : Refusal) → q ≡ Err e → (tag_full (world_of p xs) tag ≡ true) × (e ≡ Full)
  asked_full e h =
      cases (tag_full (world_of p xs) tag) (λ f. (f, let y = sym h ∙ full f in cc))
      (λ f. absurd (no_error fit e (sym (fine f) ∙ h)))

  pub asked_fits : (b : Bool) → q ≡ Ok b → (tag_full (world_of p xs) tag ≡ false) × (cap_fails (world_of p xs) tag n ≡ not b)
  unfolding cap_fails
  asked_fits b h =
      cases (tag_full (world_of p xs) tag) (λ f. absurd (no_error b Full (sym h ∙ full f)))
      (λ f.
      let y : b ≡ fit = let z = sym h ∙ fine f in cc in
      (f, ap not (sym (y ∙ ap (fits n) (v.accounted tag)))))
