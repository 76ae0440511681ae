-- `footprint::records::lists_fail` meets its contract: each return is the case that its tests chose.
use mathlib.Core.Bool.{true, false}
use mathlib.Core.Path.{◌≡◌, sym, ◌∙◌}
use lib.Dec.{eqb, ltb}
use lib.ListN.{length}
use borrow.Author.Tests.{lt-ltb, le-ltb, eq-eqb, ne_eqb}
use Rattle.footprint.specs.Footprint.{lists_fail, max_extents}
use Rattle.numbers.specs.Pairs.{pairs, is_odd}
use Rattle.numbers.proofs.Pairs.{length_pairs, odd_list, even_list}
use Rattle.footprint.proofs.records.lists_fail.Goals as goal
use Rattle.footprint.proofs.records.lists_fail.Goals.{Else-committed-most, Else-extents-listed, Else-extents-ne0}

even : (c : Else-extents-ne0) → is_odd c.args.extents.now ≡ false
even c = even_list c.args.extents.now c.if-extents-ne0.false

listed : (c : Else-extents-listed) → eqb (length (pairs c.args.extents.now)) c.args.header.extent_count ≡ true
listed c = eq-eqb _ _ (length_pairs _ ∙ c.if-extents-listed.false)

few : (c : Else-committed-most) → ltb (max_extents c.args.limits.log2_block) c.args.entry.extent_count ≡ false
few c = rw (← c.max_extents-most.ensures) (le-ltb _ _ c.if-committed-most.false)

pub returns-then-extents-ne0 : goal.returns-then-extents-ne0
unfolding lists_fail
returns-then-extents-ne0 c = simp (odd_list c.args.extents.now c.if-extents-ne0.true)

pub returns-then-extents-listed : goal.returns-then-extents-listed
unfolding lists_fail
returns-then-extents-listed c = let a = c.args in
    let h : length (pairs a.extents.now) ≡ a.header.extent_count → ⊥ = λ e. c.if-extents-listed.true (sym (length_pairs a.extents.now) ∙ e) in
    simp (even (goal.at.returns-then-extents-listed c).Else-extents-ne0, ne_eqb _ _ h)

pub returns-then-committed-most : goal.returns-then-committed-most
unfolding lists_fail
returns-then-committed-most c = let h : ltb (max_extents c.args.limits.log2_block) c.args.entry.extent_count ≡ true = rw (← c.max_extents-most.ensures) (lt-ltb _ _ c.if-committed-most.true) in
    simp (even (goal.at.returns-then-committed-most c).Else-extents-ne0, listed (goal.at.returns-then-committed-most c).Else-extents-listed, h)

pub returns-then-listed-most : goal.returns-then-listed-most
unfolding lists_fail
returns-then-listed-most c = let h : ltb (max_extents c.args.limits.log2_block) c.args.header.extent_count ≡ true = rw (← c.max_extents-most.ensures) (lt-ltb _ _ c.if-listed-most.true) in
    simp (even (goal.at.returns-then-listed-most c).Else-extents-ne0, listed (goal.at.returns-then-listed-most c).Else-extents-listed, few (goal.at.returns-then-listed-most c).Else-committed-most, h)

pub returns : goal.returns
unfolding lists_fail
returns c = let h : ltb (max_extents c.args.limits.log2_block) c.args.header.extent_count ≡ false = rw (← c.max_extents-most.ensures) (le-ltb _ _ c.if-listed-most.false) in
    simp (even (goal.at.returns c).Else-extents-ne0, listed (goal.at.returns c).Else-extents-listed, few (goal.at.returns c).Else-committed-most, h)
