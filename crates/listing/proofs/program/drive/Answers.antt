use Rattle.std.proofs.Common.{◌≡◌, ◌∙◌, ◌<◌, length, refl, rules, arith, Err}
use Rattle.listing.proofs.Running.{driving_start, drives_short, drives_end, driving_on, drives_failed}
use Rattle.streams.proofs.Known.{keeps_same, nothing_read}
use Rattle.listing.proofs.program.drive.Goals as goal

pub loop-init : goal.loop-init
loop-init g c = record { driving = driving_start c.args.listing.now _ _; block = refl; out = refl }

pub returns-in_err-n : goal.returns-in_err-n
returns-in_err-n g c =
    let e : c.from_residual.result ≡ Err c.in_err-n.field-0.0 = search rules in
    rw e (drives_short c.loop.invariant.driving _ _ c.in_err-n.ensures.bytes)

pub returns-then-n-eq0 : goal.returns-then-n-eq0
returns-then-n-eq0 g c =
    let i = c.loop.invariant in
    let b = c.in_ok-n.ensures.bytes in
    let l : 0 < length c.receive.new.block = let a = c.receive.auto.block in let h = c.requires.some in let e = i.block in omega (arith, a, h, e) in
    drives_end i.driving (nothing_read _ _ _ c.receive.new.block c.if-n-eq0.true b.0) (b.1 c.if-n-eq0.true l) c.finish.ensures

pub returns-in_err-pass : goal.returns-in_err-pass
returns-in_err-pass g c =
    let e : c.from_residual-in_err-pass.result ≡ Err c.in_err-pass.field-0.0 = search rules in
    rw e (drives_failed c.loop.invariant.driving c.in_ok-n.ensures.bytes.0 _ _ _ c.in_err-pass.was c.pass.ensures.passes)

pub loop-preserved : goal.loop-preserved
loop-preserved g c =
    record {
      driving = driving_on c.loop.invariant.driving c.in_ok-n.ensures.bytes.0 _ _ c.in_ok-pass.was c.pass.ensures.passes;
      block = c.receive.auto.block ∙ c.loop.invariant.block;
      out = c.pass.ensures.places ∙ c.loop.invariant.out;
    }

pub returns : goal.returns
returns g c = drives_short c.loop.invariant.driving _ _ (keeps_same _)
