-- `footprint::check_before_overlap` meets its contract: the tests in order, three, then those of the header, then those of the extents.
use Rattle.std.proofs.Common.{rules}
use Prim.Native.Nat.{ℕ}
use mathlib.Core.List.{List, ◌++◌}
use mathlib.Core.Logic.{⊎_elim}
use mathlib.Core.Path.{◌≡◌, sym, ◌∙◌}
use native.Mathlib.Omega.{arith}
use Rattle.footprint.specs.Footprint.{entry_tests, header_tests, extent_tests, committed}
use Rattle.footprint.specs.Inner.{before_last}
use Rattle.numbers.specs.Refusals.{first, refuse, refusal_number, refusal_in}
use Rattle.footprint.proofs.Passed.{Logs, logs_pass, own_log, lists_pass, header_count}
use Rattle.numbers.proofs.Refusals.{first_go, first_stop, reason_above}
use Rattle.footprint.proofs.check_before_overlap.Goals as goal
use Rattle.footprint.proofs.check_before_overlap.Goals.{Else-entry_fails, Else-logs_fail, In_ok-check_header}

logs : (c : Else-logs_fail) → Logs c.args.limits c.args.header
logs c = logs_pass _ _ (sym c.logs_fail.ensures ∙ c.if-logs_fail.false)

abbrev entry-tests : (c : Else-entry_fails) → List ℕ
entry-tests c = let a = c.args in entry_tests a.limits a.entry a.header a.extents.now a.places

entry_go : (c : Else-entry_fails) → first (entry-tests c) ≡ 0
unfolding first refuse
entry_go c = simp (sym c.lists_fail.ensures ∙ c.if-lists_fail.false, sym c.logs_fail.ensures ∙ c.if-logs_fail.false, sym c.entry_fails.ensures ∙ c.if-entry_fails.false)

abbrev header-tests : (c : Else-entry_fails) → List ℕ
header-tests c = let a = c.args in header_tests a.id a.entry a.header

abbrev extent-tests : (c : Else-entry_fails) → List ℕ
extent-tests c = let a = c.args in extent_tests a.limits a.entry (committed a.entry a.extents.now)

header_go : (c : In_ok-check_header) → first (header_tests c.args.id c.args.entry c.args.header) ≡ 0
header_go c = sym c.in_ok-check_header.ensures

pub returns-then-lists_fail : goal.returns-then-lists_fail
unfolding before_last first refuse
returns-then-lists_fail c = simp (sym c.lists_fail.ensures ∙ c.if-lists_fail.true)

pub returns-then-logs_fail : goal.returns-then-logs_fail
unfolding before_last first refuse
returns-then-logs_fail c = simp (sym c.lists_fail.ensures ∙ c.if-lists_fail.false, sym c.logs_fail.ensures ∙ c.if-logs_fail.true)

pub entry_fails-requires : goal.entry_fails-requires
entry_fails-requires c = (logs (goal.at.entry_fails-requires c).Else-logs_fail).high

pub returns-then-entry_fails : goal.returns-then-entry_fails
unfolding before_last first refuse
returns-then-entry_fails c =
    simp (
      sym c.lists_fail.ensures ∙ c.if-lists_fail.false,
      sym c.logs_fail.ensures ∙ c.if-logs_fail.false,
      sym
          c.entry_fails.ensures ∙ c.if-entry_fails.true,
    )

pub check_header-requires : goal.check_header-requires
check_header-requires c = own_log c.args.limits c.args.header (logs (goal.at.check_header-requires c).Else-logs_fail)

pub returns-in_err-check_header : goal.returns-in_err-check_header
unfolding before_last
returns-in_err-check_header c =
    let a = c.args in
    let h = header_tests a.id a.entry a.header in
    let t = entry_tests a.limits a.entry a.header a.extents.now a.places in
    let x = extent_tests a.limits a.entry (committed a.entry a.extents.now) in
    let n = refusal_number c.in_err-check_header.field-0.0 in
    let r : refusal_in c.from_residual.result ≡ n = search rules in
    let g : first (t ++ h) ≡ n = first_go t h (entry_go (goal.at.returns-in_err-check_header c).Else-entry_fails) ∙ sym c.in_err-check_header.ensures in
    r ∙ sym (first_stop (t ++ h) x (λ z. let k = reason_above c.in_err-check_header.field-0.0 in absurd (omega (arith, g, z, k))) ∙ g)

pub check_extents-requires : goal.check_extents-requires
check_extents-requires c = let a = c.args in
    let l = lists_pass a.limits a.entry _ _ _ (sym c.lists_fail.ensures ∙ c.if-lists_fail.false) in
    ⊎_elim (λ e. omega (arith, l.listed)) (λ e. omega (arith, l.listed)) (header_count _ _ a.header (header_go (goal.at.check_extents-requires c).In_ok-check_header))

pub returns : goal.returns
unfolding before_last
returns c =
    c.check_extents.ensures ∙ sym (first_go (entry-tests (goal.at.returns c).Else-entry_fails ++ header-tests (goal.at.returns c).Else-entry_fails)
    (extent-tests (goal.at.returns c).Else-entry_fails)
    (first_go (entry-tests (goal.at.returns c).Else-entry_fails) (header-tests (goal.at.returns c).Else-entry_fails)
    (entry_go (goal.at.returns c).Else-entry_fails) ∙ header_go (goal.at.returns c).In_ok-check_header))
