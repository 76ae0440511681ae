-- `footprint::records::check_header` meets its contract: each return is the case that its tests chose.
use Prim.Native.Nat.{ℕ, ◌%◌, ◌^◌}
use mathlib.Core.Bool.{true}
use mathlib.Core.Path.{◌≡◌, ap, sym, ◌∙◌}
use lib.Dec.{eqb}
use borrow.Author.Tests.{eq-eqb, ne_eqb}
use Rattle.footprint.specs.Footprint.{kind_code}
use Rattle.numbers.specs.Refusals.{first, refuse}
use Rattle.footprint.proofs.Blocks.{exact}
use Rattle.footprint.proofs.Passed.{same_kind}
use Rattle.numbers.proofs.Cases.{true_not, false_not}
use Rattle.footprint.proofs.records.check_header.Goals as goal
use Rattle.footprint.proofs.records.check_header.Goals.{Else-ne}

same : (c : Else-ne) → eqb (kind_code c.args.header.kind) (kind_code c.args.entry.kind) ≡ true
same c = sym (same_kind c.args.header.kind c.args.entry.kind) ∙ false_not c.if-ne.ensures

pub returns-then-header-id : goal.returns-then-header-id
unfolding first refuse
returns-then-header-id c = simp (ne_eqb _ _ c.if-header-id.true)

pub returns-then-ne : goal.returns-then-ne
unfolding first refuse
returns-then-ne c = simp (eq-eqb _ _ c.if-header-id.false, sym (same_kind c.args.header.kind c.args.entry.kind) ∙ true_not c.if-ne.ensures)

pub returns-then-header-entry : goal.returns-then-header-entry
unfolding first refuse
returns-then-header-entry c = simp (eq-eqb _ _ c.if-header-id.false, same (goal.at.returns-then-header-entry c).Else-ne, ne_eqb _ _ c.if-header-entry.true)

pub returns-then-not-header : goal.returns-then-not-header
unfolding first refuse
returns-then-not-header c =
    simp (eq-eqb _ _ c.if-header-id.false, same (goal.at.returns-then-not-header c).Else-ne, eq-eqb _ _ c.if-header-entry.false, c.if-not-header.true)

pub returns-then-count_fails : goal.returns-then-count_fails
unfolding first refuse
returns-then-count_fails c =
    simp (
      eq-eqb _ _ c.if-header-id.false,
      same (goal.at.returns-then-count_fails c).Else-ne,
      eq-eqb _ _ c.if-header-entry.false,
      c.if-not-header.false,
      sym c.count_fails.ensures ∙ c.if-count_fails.true,
    )

pub nonzero_rem-entry : goal.nonzero_rem-entry
nonzero_rem-entry c = c.block_of.ensures.2

pub returns-then-entry-block_of-ne0 : goal.returns-then-entry-block_of-ne0
unfolding first refuse
returns-then-entry-block_of-ne0 c = let a = c.args in
    let d : a.entry.data_size % 2 ^ a.header.log2_block ≡ 0 → ⊥ = λ e. c.if-entry-block_of-ne0.true (ap (λ (b : ℕ). a.entry.data_size % b) (exact _ c.block_of.ensures.0 c.requires) ∙ e) in
    simp (
      eq-eqb _ _ c.if-header-id.false,
      same (goal.at.returns-then-entry-block_of-ne0 c).Else-ne,
      eq-eqb _ _ c.if-header-entry.false,
      c.if-not-header.false,
      sym c.count_fails.ensures ∙ c.if-count_fails.false,
      ne_eqb _ _ d,
    )

pub returns : goal.returns
unfolding first refuse
returns c = let a = c.args in
    let d : a.entry.data_size % 2 ^ a.header.log2_block ≡ 0 = sym (ap (λ (b : ℕ). a.entry.data_size % b) (exact _ c.block_of.ensures.0 c.requires)) ∙ c.if-entry-block_of-ne0.false in
    simp (
      eq-eqb _ _ c.if-header-id.false,
      same (goal.at.returns c).Else-ne,
      eq-eqb _ _ c.if-header-entry.false,
      c.if-not-header.false,
      sym
          c.count_fails.ensures ∙ c.if-count_fails.false,
      eq-eqb _ _ d,
    )
