-- `accounting::Accounting::post_unreserve` meets its contract: the posting, and the total where it is accepted.
use Rattle.std.proofs.Common.{rules, ℕ, refl, sym, ◌∙◌, ◌≡◌, ◌-◌}
use Rattle.tagspace.specs.Row.{unreserve}
use Rattle.accounting.specs.Table.{Posts, leaving, on_row, unreserving}
use Rattle.numbers.proofs.Answers.{no_error}
use Rattle.accounting.proofs.Handing.{total_kept, total_posted}
use Rattle.accounting.proofs.Accounting.post_unreserve.Goals as goal
use Rattle.accounting.proofs.Accounting.post_unreserve.Goals.{After-post}

made : (c : After-post) → Posts c.args.self.now (on_row c.args.tag (unreserve c.args.bytes)) (leaving c.post.result c.post.new.self)
made c = c.post.ensures (unreserve c.args.bytes) (λ r. refl) (λ r s p. search rules)

pub returns-in_err-post : goal.returns-in_err-post
unfolding unreserving
returns-in_err-post c =
    let m = made (goal.at.returns-in_err-post c).After-post in
    let e : c.from_residual.result ≡ c.post.result = search rules in
    rw e (total_kept _ _ _ (λ (t : ℕ). t - c.args.bytes) _ m (λ z. no_error _ _ (sym z ∙ c.in_err-post.was)))

pub returns : goal.returns
unfolding unreserving
returns c =
    let m = made (goal.at.returns c).After-post in
    total_posted _ _ _ (λ (t : ℕ). t - c.args.bytes) _ m c.in_ok-post.was _ c.saturating_sub-self.ensures
