-- `sample::read` meets its contract: a digit makes the number longer, and any other byte ends it.
use Rattle.std.proofs.Common.{rules, true, false, ◌≡◌, refl}
use Rattle.sample.specs.Sample.{is_digit}
use Rattle.sample.proofs.Laws.{digit, no_digit}
use Rattle.sample.proofs.read.Goals as goal

pub returns-then-is_ascii_digit : goal.returns-then-is_ascii_digit
returns-then-is_ascii_digit c =
    let e : is_digit c.args.byte ≡ true = search rules in
    digit _ _ _ c.requires _ e (search rules)

pub returns : goal.returns
returns c =
    let e : is_digit c.args.byte ≡ false = search rules in
    no_digit _ _ _ c.requires _ _ e c.put.ensures.slots c.put.ensures.next refl
