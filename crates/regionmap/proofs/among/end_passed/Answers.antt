-- `regionmap::among::end_passed` meets its contract: a u64 passes a sum where it passes the sum that stops.
use Rattle.std.proofs.Common.{◌≡◌, ◌+◌, arith, ap, ◌∙◌, ltb}
use Rattle.std.specs.Prelude.{Option, unwrap_or}
use Rattle.std.proofs.lemmas.Option.{unwrap_or-slice_get}
use Rattle.runs.specs.declared.Run.{Run}
use Rattle.runs.specs.Runs.{blank_run}
use Rattle.regionmap.specs.RunRecords.{data_end, last_run}
use Rattle.regionmap.proofs.RunRecords.{stop_passed}
use Rattle.regionmap.proofs.among.end_passed.Goals as goal

pub returns : goal.returns
unfolding data_end
returns c =
    let last : c.unwrap_or-last.result ≡ last_run c.args.runs.now =
    c.unwrap_or-last.ensures ∙ ap (λ (o : Option Run). unwrap_or o blank_run) (c.copied.ensures ∙ c.last.ensures.value) ∙ unwrap_or-slice_get c.args.runs.now _ blank_run in
    stop_passed _ _ _ _ (omega arith) c.saturating_add.ensures ∙ ap (λ (r : Run). ltb (r.start + r.len) c.args.len) last
