use Rattle.std.proofs.Common.{ap, ◌∙◌, length, unwrap_or}
use Rattle.line.proofs.Parts.{count_is}
use Rattle.line.proofs.number.digit_count.Goals as goal

pub returns-clause-value : goal.returns-clause-value
returns-clause-value c = c.unwrap_or.ensures ∙ ap (λ r. unwrap_or r (length c.args.text.now)) c.no_digit.ensures ∙ count_is c.args.text.now
