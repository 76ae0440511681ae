-- `sample::words::same` meets its contract: `all` tests each pair of the zip.
use Rattle.std.proofs.Common.{rules, ◌≡◌, false, nat_eq, ◌∙◌, length}
use lib.Dec.{eqb}
use Rattle.std.proofs.lemmas.Iterator.{YieldsList-from_slice, YieldsList-from_zip}
use Rattle.std.proofs.lemmas.Iterator.Search.{all_from_yields_List}
use Rattle.sample.proofs.Parts.{pairs_same, long_same}
use Rattle.sample.proofs.words.same.Goals as goal

pub returns-then-items-numbers : goal.returns-then-items-numbers
returns-then-items-numbers g c =
    all_from_yields_List (λ p. eqb (g.T.Number.number p.0) p.1) c.all.new.self _ _ c.all.ensures.ran
    (YieldsList-from_zip (YieldsList-from_slice c.args.items.now cc) (YieldsList-from_slice c.args.numbers.now cc)) (λ x b q k. search rules)
    ∙ pairs_same g.T.Number.number _ _ c.if-items-numbers.true

pub returns-else-items-numbers : goal.returns-else-items-numbers
returns-else-items-numbers g c =
    let e : nat_eq (length c.args.items.now) (length c.args.numbers.now) ≡ false = search rules in
    e ∙ long_same g.T.Number.number _ _ c.if-items-numbers.false
