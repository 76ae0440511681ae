use Rattle.std.proofs.Common.{refl}
use Rattle.listing.proofs.Asked.{called_asks, leaves_called, locates_called, again_asks}
use Rattle.listing.proofs.session.Session.call.Goals as goal

pub returns-in-Open : goal.returns-in-Open
returns-in-Open c = rw c.in-Open.is (λ o. again_asks c.args.self.now _ o)

pub returns-in-Create : goal.returns-in-Create
returns-in-Create c = let k = c.create in rw c.in-Create.is (λ o. called_asks c.args.self.now _ _ _ _ _ _ o k.auto.extents k.auto.starts k.auto.files (leaves_called k.ensures) (λ _ _ _ e. cc))

pub returns-in-Drop : goal.returns-in-Drop
returns-in-Drop c = let k = c.drop in rw c.in-Drop.is (λ o. called_asks c.args.self.now _ _ _ _ _ _ o k.auto.extents k.auto.starts k.auto.files (leaves_called k.ensures) (λ _ _ _ e. cc))

pub returns-in-Grow : goal.returns-in-Grow
returns-in-Grow c = let k = c.grow in rw c.in-Grow.is (λ o. called_asks c.args.self.now _ _ _ _ _ _ o k.auto.extents k.auto.starts k.auto.files k.ensures.called (λ _ _ _ e. cc))

pub returns-in-Publish : goal.returns-in-Publish
returns-in-Publish c = rw c.in-Publish.is (λ o. called_asks c.args.self.now _ _ _ _ _ _ o refl refl refl (c.publish.ensures.called _ _ _) (λ _ _ _ e. cc))

pub returns-in-Cap : goal.returns-in-Cap
returns-in-Cap c = rw c.in-Cap.is (λ o. called_asks c.args.self.now _ _ _ _ _ _ o refl refl refl (c.cap.ensures.called _ _ _) (λ _ _ _ e. cc))

pub returns-in-Locate : goal.returns-in-Locate
returns-in-Locate c = rw c.in-Locate.is (λ o. called_asks c.args.self.now _ _ _ _ _ _ o refl refl refl (locates_called _ _ _ _ _ _ _ _ c.locate.ensures) (λ _ _ _ e. refl))
