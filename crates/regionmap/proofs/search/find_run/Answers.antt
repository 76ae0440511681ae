-- `regionmap::search::find_run` meets its contract: what is read at i is the start of run i.
use Rattle.std.proofs.Common.{rules, sym, ◌∙◌}
use Rattle.std.proofs.lemmas.List.{get_or-map}
use Rattle.runs.specs.Runs.{blank_run}
use Rattle.runs.specs.declared.Run.{Run}
use Rattle.regionmap.proofs.search.find_run.Goals as goal

pub returns : goal.returns
returns c = c.halve.ensures _ (λ i x h p. search rules ∙ sym (get_or-map (λ (r : Run). r.start) c.args.runs.now i blank_run 0 h))
