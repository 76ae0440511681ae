-- `plan_settled::refusal` meets its contract: 1 to 14 decide, then 15.
use Rattle.std.proofs.Common.{rules, refl, ◌≡◌, sym, ◌∙◌}
use Rattle.numbers.specs.Refusals.{refuse, refusal_in, refusal_number}
use Rattle.numbers.proofs.Refusals.{reason_above}
use Rattle.plan_settled.proofs.Passing.{refused_early, refused_last}
use Rattle.plan_settled.proofs.refusal.Goals as goal

pub returns-in_err-early_refusal : goal.returns-in_err-early_refusal
returns-in_err-early_refusal c =
    let r : refusal_in c.from_residual.result ≡ refusal_number c.in_err-early_refusal.field-0.0 = search rules in
    r ∙ refused_early _ _ c.in_err-early_refusal.ensures (reason_above _)

pub marked-requires : goal.marked-requires
marked-requires c = rw c.early_refusal.auto.scratch (record { places = c.args.places; none = sym c.in_ok-early_refusal.ensures })

pub returns-then-marked : goal.returns-then-marked
unfolding refuse
returns-then-marked c = refused_last _ _ c.in_ok-early_refusal.ensures refl _ (sym c.if-marked.true ∙ c.marked.ensures)

pub returns : goal.returns
unfolding refuse
returns c = refused_last _ _ c.in_ok-early_refusal.ensures refl _ (sym c.if-marked.false ∙ c.marked.ensures)
