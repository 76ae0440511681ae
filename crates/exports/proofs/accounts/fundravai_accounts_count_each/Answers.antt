-- `exports::accounts::fundravai_accounts_count_each` meets its contract: each turn is one posting.
use Rattle.std.proofs.Common.{sym, ◌∙◌}
use Rattle.accounting.proofs.Counting.{usages_end}
use Rattle.exports.specs.Each.{Post}
use Rattle.flat.proofs.Chaining.{going_ends}
use Rattle.numbers.proofs.Cases.{clash}
use Rattle.exports.proofs.accounts.fundravai_accounts_count_each.Goals as goal

pub returns : goal.returns
returns c =
    let a = c.args in
    record {
      refused = λ e. clash e (sym c.uneven.ensures ∙ c.if-uneven.false);
      each = λ e. record {
        answer = _;
        promise = rw (← c.from-accounts.ensures) (going_ends (Post a.remove) _ _ c.loop-i.invariant (usages_end a.tags.now a.logical.now a.physical.now _ c.loop-i-test.false));
        flat = c.into.ensures;
      };
    }
