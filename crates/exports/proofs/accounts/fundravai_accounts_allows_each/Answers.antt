-- `exports::accounts::fundravai_accounts_allows_each` meets its contract: each turn is one question.
use Rattle.std.proofs.Common.{ℕ, ◌+◌, Bool, false, cond, ap, arith, ◌∙◌}
use Rattle.accounting.proofs.Counting.{differ_none}
use Rattle.exports.proofs.Chaining.{questions_next, questions_end}
use Rattle.exports.proofs.Told.{unwrap_told}
use Rattle.exports.specs.Each.{Allow}
use Rattle.flat.proofs.Chaining.{bit_is, bit_low, going_on, going_ends}
use Rattle.numbers.proofs.Cases.{clash}
use Rattle.exports.proofs.accounts.fundravai_accounts_allows_each.Goals as goal

pub loop-i-preserved : goal.loop-i-preserved
loop-i-preserved c =
    let v = c.loop-i.invariant in
    let low = bit_low c.unwrap_or.result in
    let fit = bit_is _ ∙ ap (λ (b : Bool). cond b 1 0) (c.unwrap_or.ensures ∙ unwrap_told c.allows.result false) in
    let turn : Allow c.from-accounts.result _ _ _ =
    record { answer = c.allows.result; promise = c.allows.ensures; count = ap (λ (k : ℕ). c.loop-i.fit + k) fit } in
    (omega (arith, v.0, low), going_on (Allow _) _ _ v.1 (questions_next _ _ _ c.loop-i-test.true) turn)

pub returns : goal.returns
returns c =
    let v = c.loop-i.invariant in
    let none = questions_end c.args.tags.now c.args.extra.now c.loop-i.i (omega arith) in
    record {
      refused = λ e. clash e (differ_none _ _ _ c.if-tags-extra.false c.if-tags-extra.false);
      each = λ e. rw (← c.from-accounts.ensures) (going_ends (Allow _) _ _ v.1 none);
    }
