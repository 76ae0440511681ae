use Rattle.std.proofs.Common.{◌∙◌, sym, None, Some}
use Rattle.listing.proofs.Cutting.{found}
use Rattle.listing.proofs.Feeding.{takes_all, takes_line}
use Rattle.listing.proofs.listing.Listing.next.Goals as goal

pub returns-in_default : goal.returns-in_default
returns-in_default c = takes_all c.args.self.now c.args.rest.now (found _ None (sym c.in_default.is ∙ c.line_end.ensures)) c.keep-self.ensures

pub returns : goal.returns
returns c = takes_line c.args.self.now c.args.rest.now (found _ (Some _) (sym c.in-Some.is ∙ c.line_end.ensures)) c.whole-answer.ensures
