use Rattle.std.proofs.Common.{◌≡◌, ◌∙◌, refl, rules, Err}
use Rattle.listing.proofs.Running.{passing_start, passing_on, passes_failed, passes}
use Rattle.listing.proofs.program.pass.Goals as goal

pub loop-at-init : goal.loop-at-init
loop-at-init g c = record { passing = passing_start c.args.listing.now c.args.block.now _; places = refl }

pub returns-in_err-send-clause-passes : goal.returns-in_err-send-clause-passes
returns-in_err-send-clause-passes g c =
    let e : c.from_residual.result ≡ Err c.in_err-send.field-0.0 = search rules in
    rw e (passes_failed c.args.listing.now c.args.block.now _ c.loop-at.invariant.passing c.fill-filled.ensures _ _ _ _ c.in_err-send.was c.send.ensures)

pub loop-at-preserved : goal.loop-at-preserved
loop-at-preserved g c =
    record {
      passing = passing_on c.args.listing.now c.args.block.now _ c.loop-at.invariant.passing c.fill-filled.ensures _ _ c.in_ok-send.was c.send.ensures;
      places = c.fill-filled.ensures.front.places ∙ c.loop-at.invariant.places;
    }

pub returns-clause-passes : goal.returns-clause-passes
returns-clause-passes g c = passes c.args.listing.now c.args.block.now _ _ c.loop-at.invariant.passing c.loop-at-test.false
