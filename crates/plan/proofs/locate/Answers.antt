use mathlib.Core.Path.{◌≡◌, sym, ◌∙◌}
use borrow.Author.Rules.{rules}
use Rattle.std.specs.Prelude.{Err}
use Rattle.numbers.specs.declared.refusal.Refusal.TheVariants.{Unknown}
use Rattle.plan.proofs.Locating.{locate_unknown, locate_told}
use Rattle.plan.proofs.locate.Goals as goal

pub returns-in_err-i : goal.returns-in_err-i
returns-in_err-i c =
    let e : c.from_residual.result ≡ Err Unknown = search rules in
    rw e (locate_unknown _ _ _ _ _ _ c.if-starts-lt3840.false c.if-files-lt3840.false (sym c.find.ensures.place ∙ c.in_err-i.ensures.ok_part))

pub returns-in_err-byte : goal.returns-in_err-byte
returns-in_err-byte c =
    let e : c.from_residual-in_err-byte.result ≡ Err c.in_err-byte.field-0.0 = search rules in
    rw e
    (locate_told _ _ _ _ _ _ c.if-starts-lt3840.false c.if-files-lt3840.false _ (sym c.find.ensures.place ∙ c.in_ok-i.ensures.ok_part) _ _ c.own_row-a.ensures c.locate.ensures _ c.in_err-byte.was)

pub returns : goal.returns
returns c =
    locate_told _ _ _ _ _ _ c.if-starts-lt3840.false c.if-files-lt3840.false _ (sym c.find.ensures.place ∙ c.in_ok-i.ensures.ok_part) _ _ c.own_row-a.ensures c.locate.ensures _ c.in_ok-byte.was
