-- `regionmap::RegionMap::from_extents` meets its contract: each return is a case of `Made`.
use mathlib.Core.Bool.{or-true}
use Rattle.numbers.specs.declared.refusal.Refusal.TheVariants.{Lists, Past}
use Rattle.std.proofs.Common.{rules, ◌≡◌, ◌≤◌, false, Err, ap, sym, ◌∙◌, length, arith, lt-ltb, le-ltb, ltb-false}
use Rattle.numbers.specs.Pairs.{pairs}
use Rattle.numbers.specs.Range.{total}
use Rattle.numbers.specs.Refusals.{each_extent}
use Rattle.regionmap.specs.Map.{extents_fail, too_few, limit, passes_top}
use Rattle.numbers.proofs.Cases.{or-false}
use Rattle.numbers.proofs.Chunks.{length_ranges}
use Rattle.numbers.proofs.Refusals.{reason_above}
use Rattle.regionmap.proofs.Making.{from_lists, from_each, from_past, made_refused, made}
use Rattle.regionmap.proofs.RegionMap.from_extents.Goals as goal
use Rattle.regionmap.proofs.RegionMap.from_extents.Goals.{In_ok-capacity, Else-too_few, then-pairs-gt-MOST-via-then-pairs-gt-MOST as many, then-pairs-gt-MOST-via-else-pairs-gt-MOST+then-too_few as few}

-- what the tests up to a place have shown
lists : (c : Else-too_few) → extents_fail c.args.extents.now c.args.starts.now c.args.files.now ≡ false
unfolding extents_fail too_few
lists c =
    simp (
      c.in_ok-pairs.ensures.0,
      ap length (sym c.in_ok-pairs.ensures.1) ∙ length_ranges c.in_ok-pairs.pairs.now,
      le-ltb limit (length c.in_ok-pairs.pairs.now) c.if-pairs-gt-MOST.false,
      sym c.too_few.ensures ∙ c.if-too_few.false,
    )

clean : (c : In_ok-capacity) → (each_extent passes_top 0 (pairs c.args.extents.now) ≡ 0) × (c.in_ok-capacity.capacity ≡ total (pairs c.args.extents.now))
clean c = rw (sym c.in_ok-pairs.ensures.1) c.in_ok-capacity.ensures

pub returns-in_err-pairs : goal.returns-in_err-pairs
unfolding extents_fail
returns-in_err-pairs c =
    let e : c.from_residual.result ≡ Err Lists = search rules in
    rw e (made_refused _ _ _ _ Lists (from_lists _ _ _ _ (simp c.in_err-pairs.ensures.0)))

pub returns-then-pairs-gt-MOST : goal.returns-then-pairs-gt-MOST
unfolding extents_fail too_few
returns-then-pairs-gt-MOST c =
    let n : length (pairs c.args.extents.now) ≡ length c.in_ok-pairs.pairs.now = ap length (sym c.in_ok-pairs.ensures.1) ∙ length_ranges c.in_ok-pairs.pairs.now in
    made_refused _ _ _ _ Lists (from_lists _ _ _ _
    (elim c.then-pairs-gt-MOST.branch [
      | many w ↦ rw n (simp (lt-ltb limit (length c.in_ok-pairs.pairs.now) w.if-pairs-gt-MOST.true, or-true))
      | few w ↦ rw n (simp (sym w.too_few.ensures ∙ w.if-too_few.true, or-true))
    ]))

pub returns-in_err-capacity : goal.returns-in_err-capacity
returns-in_err-capacity c =
    let r = c.in_err-capacity.field-0.0 in
    let e : c.from_residual-in_err-capacity.result ≡ Err r = search rules in
    rw e (made_refused _ _ _ _ r (from_each _ _ _ _ (lists (goal.at.returns-in_err-capacity c).Else-too_few) _
    (rw (sym c.in_ok-pairs.ensures.1) c.in_err-capacity.ensures)
    (λ z. let h = reason_above r in absurd (omega arith))))

pub returns-then-len-capacity : goal.returns-then-len-capacity
returns-then-len-capacity c =
    let k = clean (goal.at.returns-then-len-capacity c).In_ok-capacity in
    made_refused _ _ _ _ Past (from_past _ _ _ _ (lists (goal.at.returns-then-len-capacity c).Else-too_few) k.0 (omega (arith, k.1, c.if-len-capacity.true)))

pub lay-laid-requires : goal.lay-laid-requires
lay-laid-requires c =
    let o = or-false _ _ (sym c.too_few.ensures ∙ c.if-too_few.false) in
    (c.in_ok-capacity.ensures.0, ltb-false _ _ o.0, ltb-false _ _ o.1)

pub returns : goal.returns
returns c =
    let a = c.args in
    let k = clean (goal.at.returns c).In_ok-capacity in
    let n : length (pairs a.extents.now) ≤ limit = rw (ap length (sym c.in_ok-pairs.ensures.1) ∙ length_ranges c.in_ok-pairs.pairs.now) c.if-pairs-gt-MOST.false in
    made a.extents.now a.len a.starts.now a.files.now (lists (goal.at.returns c).Else-too_few) k.0 (omega (arith, k.1, c.if-len-capacity.false)) n k.1
    (rw (sym c.in_ok-pairs.ensures.1) c.lay-laid.ensures)
