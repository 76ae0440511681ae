-- `footprint::records::count_fails` meets its contract: each return is the case that its tests chose.
use Rattle.std.proofs.Common.{sym, ◌∙◌, eq-eqb, ne_eqb}
use Rattle.footprint.specs.Footprint.{count_fails, kind_code}
use Rattle.footprint.specs.declared.RegionKind.TheVariants.{Slot}
use Rattle.footprint.proofs.Passed.{same_kind}
use Rattle.footprint.proofs.records.count_fails.Goals as goal

pub returns-then-header-entry : goal.returns-then-header-entry
unfolding count_fails
returns-then-header-entry c = simp (eq-eqb _ _ c.if-header-entry.true)

pub returns-then-eq : goal.returns-then-eq
unfolding count_fails kind_code
returns-then-eq c = simp (ne_eqb _ _ c.if-header-entry.false, sym (same_kind c.args.entry.kind Slot) ∙ sym c.if-eq.ensures)

pub returns : goal.returns
unfolding count_fails kind_code
returns c = simp (ne_eqb _ _ c.if-header-entry.false, sym (same_kind c.args.entry.kind Slot) ∙ sym c.if-eq.ensures)
