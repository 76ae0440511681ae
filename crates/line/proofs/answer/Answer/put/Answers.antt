use Rattle.std.proofs.Common.{rules, arith, Fits, w64}
use Rattle.line.proofs.Writing.{answer_short}
use Rattle.line.proofs.answer.Answer.put.Goals as goal

pub returns-clause-short : goal.returns-clause-short
returns-clause-short c =
    let r : Fits w64 c.args.self.refusal = search rules in
    let a : Fits w64 c.args.self.at = search rules in
    let h : Fits w64 c.args.self.held = search rules in
    let f : Fits w64 c.args.self.free = search rules in
    answer_short c.args.self.refusal c.args.self.at c.args.self.held c.args.self.free (omega (arith, r)) (omega (arith, a)) (omega (arith, h)) (omega (arith, f))
