-- `exports::accounts::fundravai_accounts_fits_each` meets its contract: each turn is one question.
use Rattle.std.proofs.Common.{rules, ℕ, ◌+◌, Bool, false, cond, [], ◌∷◌, ◌++◌, length, length-append, ap, arith, ◌≡◌, ◌∙◌}
use Rattle.std.proofs.lemmas.Slice.Zip.{zip_turn, zip_end}
use Rattle.accounting.proofs.Counting.{differ_none}
use Rattle.exports.proofs.Chaining.{questions_next, questions_end}
use Rattle.exports.proofs.Told.{unwrap_told}
use Rattle.exports.specs.Each.{Ask, asking}
use Rattle.flat.proofs.Chaining.{bit_is, bit_low, going_on, going_ends}
use Rattle.numbers.proofs.Cases.{clash}
use Rattle.exports.proofs.accounts.fundravai_accounts_fits_each.Goals as goal

pub loop-tag-preserved : goal.loop-tag-preserved
loop-tag-preserved c =
    let v = c.loop-tag.invariant in
    let tags : c.into_iter-tag-iterator.result.a.rest.now ≡ c.args.tags.now = search rules in
    let extra : c.into_iter-tag-iterator.result.b.rest.now ≡ c.args.extra.now = search rules in
    let at =
    zip_turn c.args.tags.now c.args.extra.now c.loop-tag.yielded c.into_iter-tag-iterator.result c.loop-tag.tag-iterator
    c.next.new.self _ tags extra c.loop-tag.yielded_by _ c.in-Some.is c.next.ensures.steps in
    let more : length (c.loop-tag.yielded ++ ((c.in-Some.field-0-0, c.in-Some.field-0-1) ∷ [])) ≡ length c.loop-tag.yielded + 1 =
    length-append c.loop-tag.yielded _ in
    let low = bit_low c.unwrap_or.result in
    let fit = bit_is _ ∙ ap (λ (b : Bool). cond b 1 0) (c.unwrap_or.ensures ∙ unwrap_told c.fits-asked.result.answer false) in
    let turn : Ask _ _ (asking c.fits-asked.result _) =
    record { promise = rw (← at.2 0, ← at.3 0) c.fits-asked.ensures; count = ap (λ (k : ℕ). c.loop-tag.fit + k) fit } in
    (omega (arith, v.0, low, more), rw more (going_on Ask _ _ v.1 (questions_next _ _ _ at.0) turn))

pub returns : goal.returns
returns c =
    let v = c.loop-tag.invariant in
    let tags : c.into_iter-tag-iterator.result.a.rest.now ≡ c.args.tags.now = search rules in
    let extra : c.into_iter-tag-iterator.result.b.rest.now ≡ c.args.extra.now = search rules in
    let all =
    zip_end c.args.tags.now c.args.extra.now c.loop-tag.yielded c.into_iter-tag-iterator.result c.loop-tag.tag-iterator
    c.next.new.self _ tags extra c.loop-tag.yielded_by c.in-None.is c.next.ensures.steps in
    let none =
    questions_end c.args.tags.now c.args.extra.now (length c.loop-tag.yielded) (omega (arith, all, c.if-tags-extra.false)) in
    record {
      refused = λ e. clash e (differ_none _ _ _ c.if-tags-extra.false c.if-tags-extra.false);
      each = λ e. (asking c.loop-tag.asked c.loop-tag.fit, rw (← c.into-2.ensures) (going_ends Ask _ _ v.1 none), rw c.number_in.ensures);
    }
