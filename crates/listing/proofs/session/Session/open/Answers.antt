use Rattle.std.proofs.Common.{◌∙◌, sym}
use Rattle.listing.proofs.Opened.{open_asks}
use Rattle.listing.proofs.session.Session.open.Goals as goal

pub returns-then-is_ok : goal.returns-then-is_ok
returns-then-is_ok c =
    let o = c.open-reply in
    λ closed. open_asks c.args.self.now c.args.limits _ _ _ o.result o.ensures o.auto.extents o.auto.starts o.auto.files closed _ (sym c.if-is_ok.true ∙ c.is_ok.ensures.value)

pub returns-else-is_ok : goal.returns-else-is_ok
returns-else-is_ok c =
    let o = c.open-reply in
    λ closed. open_asks c.args.self.now c.args.limits _ _ _ o.result o.ensures o.auto.extents o.auto.starts o.auto.files closed _ (sym c.if-is_ok.false ∙ c.is_ok.ensures.value)
