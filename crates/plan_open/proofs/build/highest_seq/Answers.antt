-- `plan_open::build::highest_seq` meets its contract: the chain is the model's highest.
use Rattle.std.proofs.Common.{ℕ, rules, ◌≡◌, ◌∙◌, max, arith}
use Rattle.std.specs.List.{fold}
use Rattle.plan_record.specs.declared.Record.{Record}
use Rattle.plan_open.proofs.Looping.{fold_highest}
use Rattle.plan_open.proofs.build.highest_seq.Goals as goal

pub returns : goal.returns
returns c =
    let e : c.fold.result ≡ fold (λ (a : ℕ) (r : Record). max a r.entry.footprint_seq) 0 c.args.records.now = search rules in
    e ∙ fold_highest 0 c.args.records.now ∙ omega arith
