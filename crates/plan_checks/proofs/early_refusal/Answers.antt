-- `plan_checks::early_refusal` meets its contract: each return is the first test that fails.
use Rattle.std.proofs.Common.{rules, length, refl, ◌≡◌, sym, ◌∙◌}
use Rattle.numbers.specs.Refusals.{first, refuse, refusal_in, refusal_number}
use Rattle.numbers.proofs.Refusals.{reason_above}
use Rattle.model.proofs.Refused.{Past}
use Rattle.plan_checks.specs.Opening.{opening_from}
use Rattle.plan_checks.proofs.Early.{early_own, early_last}
use Rattle.plan_checks.specs.Early.{early_refusal}
use Rattle.plan_checks.proofs.Listing.{lists_long}
use Rattle.plan_checks.proofs.early_refusal.Goals as goal
use Rattle.plan_checks.proofs.early_refusal.Goals.{Else-length_fails}

pub returns-then-lists_fail : goal.returns-then-lists_fail
unfolding early_refusal first refuse
returns-then-lists_fail c = simp (sym c.lists_fail.ensures ∙ c.if-lists_fail.true)

-- what has passed before the records' own checks
past : (c : Else-length_fails) → Past (opening_from c.args.opening (length c.args.scratch.now) c.args.places)
past c =
    record {
      lists = sym c.lists_fail.ensures ∙ c.if-lists_fail.false;
      logs = sym (c.logs_fail.ensures (length c.args.scratch.now) c.args.places) ∙ c.if-logs_fail.false;
      size = sym c.length_fails.ensures ∙ c.if-length_fails.false;
    }

pub returns-then-logs_fail : goal.returns-then-logs_fail
unfolding early_refusal first refuse
returns-then-logs_fail c =
    let logs = c.logs_fail.ensures (length c.args.scratch.now) c.args.places in
    simp (sym c.lists_fail.ensures ∙ c.if-lists_fail.false, sym logs ∙ c.if-logs_fail.true)

pub returns-then-length_fails : goal.returns-then-length_fails
unfolding early_refusal first refuse
returns-then-length_fails c =
    let logs = c.logs_fail.ensures (length c.args.scratch.now) c.args.places in
    let size = sym c.length_fails.ensures ∙ c.if-length_fails.true in
    simp (sym c.lists_fail.ensures ∙ c.if-lists_fail.false, sym logs ∙ c.if-logs_fail.false, size)

pub check_all-requires : goal.check_all-requires
check_all-requires c = lists_long _ _ _ _ _ (sym c.lists_fail.ensures ∙ c.if-lists_fail.false)

pub returns-in_err-check_all : goal.returns-in_err-check_all
returns-in_err-check_all c =
    let r : refusal_in c.from_residual.result ≡ refusal_number c.in_err-check_all.field-0.0 = search rules in
    r ∙ early_own _ (past (goal.at.returns-in_err-check_all c).Else-length_fails) _ c.in_err-check_all.ensures (reason_above _)

pub returns-then-share : goal.returns-then-share
unfolding refuse
returns-then-share c =
    early_last _ (past (goal.at.returns-then-share c).Else-length_fails) _ c.in_ok-check_all.ensures refl _
    (sym c.share.ensures ∙ c.if-share.true)

pub returns : goal.returns
unfolding refuse
returns c =
    early_last _ (past (goal.at.returns c).Else-length_fails) _ c.in_ok-check_all.ensures refl _ (sym c.share.ensures ∙ c.if-share.false)
