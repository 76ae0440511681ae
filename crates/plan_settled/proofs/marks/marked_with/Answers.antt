-- `plan_settled::marks::marked_with` meets its contract: settlement is not refused, and its marks are those of the regions.
use Rattle.std.proofs.Common.{ℕ, refl, ◌∙◌}
use lib.ListN.{length-replicate}
use Rattle.plan_settled.specs.Settled.{spoils}
use Rattle.plan_settled.proofs.Passing.{passed_few, passed_layable}
use Rattle.plan_settled.proofs.Settling.{settled_marked}
use Rattle.numbers.proofs.Lists.{list_any_is}
use Rattle.plan_settled.proofs.marks.marked_with.Goals as goal

pub list_fields-requires : goal.list_fields-requires
list_fields-requires c = let f = passed_few c.requires.0 in (f, f, f, f)

pub lay_all-requires : goal.lay_all-requires
lay_all-requires c = passed_layable c.requires.0 _ c.requires.1

pub returns : goal.returns
returns c =
    c.some_marked.ensures ∙ list_any_is spoils _
    ∙ settled_marked c.requires.0 c.list_fields.ensures _ c.as_flattened.ensures.value _ _ c.lay_all.ensures
    (c.lay_all.auto.s ∙ c.requires.1) _ _ _ _ _ (length-replicate {A = ℕ} 64 0) refl c.settle-done.ensures
