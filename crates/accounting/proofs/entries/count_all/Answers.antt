-- `accounting::entries::count_all` meets its contract: some usages counted, the rest to come.
use Rattle.std.proofs.Common.{rules, ◌≡◌, ◌-◌, refl, sym, ◌∙◌, subst, List, arith}
use Rattle.tagspace.specs.Row.{add_usage}
use Rattle.accounting.specs.Entries.{Usage}
use Rattle.accounting.specs.Inner.{gathered}
use Rattle.accounting.specs.Table.{Posts, leaving, on_row}
use Rattle.accounting.proofs.Counting.{Counting, counts_begin, counts_on, counts_refused, counts_end}
use Rattle.accounting.proofs.Counting.{gathered_some, gathered_none, gathered_end}
use Rattle.accounting.proofs.entries.count_all.Given.{Over}
use Rattle.accounting.proofs.entries.count_all.Goals as goal
use Rattle.accounting.proofs.entries.count_all.Goals.{After-post_found-counted}

module _ (g : Over) (c : After-post_found-counted g) where
  abbrev u : Usage
  u = c.in-Some.usage

  made : Posts c.loop-i.accounts (on_row u.tag (add_usage u.logical u.physical)) (leaving c.post_found-counted.result c.post_found-counted.new.self)
  made = c.post_found-counted.ensures (add_usage _ _) (λ r. refl) (λ r s p. search rules)

pub loop-i-init : goal.loop-i-init
loop-i-init g c us is = let e : c.args.n - 0 ≡ c.args.n = omega arith in rw e (counts_begin _ _ c.empty-accounts.ensures.0)

pub loop-i-preserved-in_default : goal.loop-i-preserved-in_default
loop-i-preserved-in_default g c us is =
    let e = is _ _ c.loop-i-test.true c.usage_at.ensures in
    let P : List Usage → Type 0 = λ rest. Counting (gathered us 0 c.args.n) rest c.loop-i.accounts in
    subst P (gathered_none us _ _ c.loop-i-test.true (sym e ∙ c.in_default.is)) (c.loop-i.invariant us is)

pub returns-in-Err : goal.returns-in-Err
returns-in-Err g c us is =
    let e = is _ _ c.loop-i-test.true c.usage_at.ensures in
    let next = gathered_some us _ _ c.loop-i-test.true _ (sym e ∙ c.in-Some.is) in
    let m = made g (goal.at.returns-in-Err g c).After-post_found-counted in
    rw c.refused.ensures (counts_refused (c.loop-i.invariant us is) _ _ next _ m _ c.in-Err.is)

pub loop-i-preserved : goal.loop-i-preserved
loop-i-preserved g c us is =
    let e = is _ _ c.loop-i-test.true c.usage_at.ensures in
    let next = gathered_some us _ _ c.loop-i-test.true _ (sym e ∙ c.in-Some.is) in
    let m = made g (goal.at.loop-i-preserved g c).After-post_found-counted in
    counts_on (c.loop-i.invariant us is) _ _ next _ m c.in_default-counted.is

pub returns : goal.returns
returns g c us is = counts_end (c.loop-i.invariant us is) (gathered_end us _ _ c.loop-i-test.false)
