-- `footprint::check_region` meets its contract: the part of scratch that `fill_footprint` filled.
use Rattle.std.proofs.Common.{rules, ℕ, ◌≡◌, Err, ap, arith, zero-add}
use Rattle.footprint.proofs.Answer.{room, part}
use Rattle.footprint.proofs.check_region.Goals as goal

pub returns-in_err-extra : goal.returns-in_err-extra
returns-in_err-extra c =
    let e : c.from_residual.result ≡ Err c.in_err-extra.field-0.0 = search rules in
    rw e (record { checked = c.in_err-extra.ensures.answer; in_front = tt })

pub slice_bounds-scratch-end : goal.slice_bounds-scratch-end
slice_bounds-scratch-end c = let h = room _ _ _ _ _ _ _ c.in_ok-extra.ensures in omega (arith, c.fill_footprint.auto.scratch)

pub returns : goal.returns
returns c = record {
  checked = part _ _ _ _ _ _ _ c.in_ok-extra.ensures;
  in_front = ap (λ (o : ℕ). (c.args.scratch.ref_ptr.0, o)) (zero-add _);
}
