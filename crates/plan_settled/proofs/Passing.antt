-- What it means that 1 to 14 passed.
use Prim.Native.Nat.{ℕ, ◌*◌, ◌+◌, ◌≤◌, ◌<◌}
use mathlib.Core.Bool.{Bool}
use mathlib.Core.List.{List, [], ◌∷◌, map}
use mathlib.Core.Logic.{⊎_elim}
use mathlib.Core.Path.{◌≡◌, refl, ap, sym, subst, ◌∙◌}
use native.Mathlib.Nat.{mul-suc}
use native.Mathlib.Omega.{arith}
use lib.ListN.{length, length-map}
use Rattle.footprint.specs.declared.Limits.{Limits}
use Rattle.numbers.specs.Lists.{All}
use Rattle.numbers.specs.Refusals.{refuse}
use Rattle.numbers.specs.Sums.{sum}
use Rattle.plan_checks.specs.Early.{early_refusal, ranges_of}
use Rattle.plan_checks.specs.Opening.{records_of, opening_of}
use Rattle.plan_record.specs.declared.Record.{Record}
use Rattle.plan_settled.specs.Settled.{Covered, Passed, Layable}
use Rattle.footprint.proofs.Regular.{accepted_regular}
use Rattle.model.proofs.Opening.{count_of, listed_by, each_both, ListsIn, lists_pass, LogsIn, logs_pass}
use Rattle.model.proofs.Refused.{marked_in}
use Rattle.numbers.proofs.Lists.{all_imp}
use Rattle.numbers.proofs.Pairs.{length_pairs}
use Rattle.plan_checks.proofs.Early.{open_early, open_late, early_passed}
use Rattle.plan_record.specs.Record.{record_of}
use Rattle.model.specs.Open as model

each_itself : (ms : List model.Record) (l : List ℕ) → model.each_record (λ (r : model.Record) (xs : List ℕ). r) ms l ≡ ms
unfolding model.each_record
each_itself [] l = refl
each_itself (r ∷ ms) l = ap (λ (t : List model.Record). r ∷ t) (each_itself ms _)

sum_bounded : (f : model.Record → ℕ) (b : ℕ) (ms : List model.Record) → All (λ (r : model.Record). f r ≤ b) ms
    → sum (map f ms) ≤ b * length ms
unfolding sum
sum_bounded f b [] a = omega arith
sum_bounded f b (r ∷ ms) a = let i = sum_bounded f b ms a.1 in let h = a.0 in let e = mul-suc b (length ms) in omega arith

-- a record whose check passes lists its committed extents
pub check_lists : (lim : Limits) (r : model.Record) (xs : List ℕ) → model.record_refusal lim r xs ≡ 0 → count_of r ≤ listed_by r
check_lists lim r xs z =
    ⊎_elim (λ e. omega arith) (λ e. omega (arith, e.1))
    (accepted_regular lim r.number r.entry r.header xs (2 * (count_of r + 2)) z).agreed.count

module _ {lim : Limits} {rs : List Record} {l : List ℕ} {k : ℕ} (p : Passed lim rs l k) where
  abbrev pub opening : model.Opening
  opening = opening_of lim rs l k p.places

  abbrev ms : List model.Record
  ms = records_of rs

  pub passed_lists : ListsIn opening
  passed_lists = lists_pass opening (early_passed opening p.none).0.lists

  pub passed_logs : LogsIn opening
  passed_logs = logs_pass opening (early_passed opening p.none).0.logs

  pub passed_few : length rs ≤ 64
  passed_few = omega (arith, passed_lists.few, length-map rs record_of)

  pub passed_all : All Covered ms
  passed_all =
      subst (All Covered) (each_itself ms l)
      (each_both (model.record_refusal lim) (λ (r : model.Record) (xs : List ℕ). r)
      (λ (r : model.Record). count_of r ≤ 60) (λ (m : ℕ). m ≡ 0)
      Covered
      (λ r xs c z. check_lists lim r xs z)
      ms
      l
      passed_lists.counts
      (early_passed opening p.none).1)

  pub passed_ranges : sum (map ranges_of ms) ≤ 3968
  passed_ranges =
      let most : All (λ (r : model.Record). ranges_of r ≤ 62) ms =
      all_imp (λ (r : model.Record). count_of r ≤ 60) (λ (r : model.Record). ranges_of r ≤ 62) (λ r c. omega arith) ms passed_lists.counts in
      let b = sum_bounded ranges_of 62 ms most in
      let f = passed_few in
      let m = length-map rs record_of in
      omega arith

  pub passed_listed : 2 * sum (map listed_by ms) ≤ length l
  passed_listed = omega (arith, passed_lists.listed, length_pairs l)

  pub passed_layable : (s : ℕ) → s ≡ 7936 → Layable lim ms (length l) s
  passed_layable s e =
      let r = passed_ranges in
      record { high = passed_logs.high; all = passed_all; long = record { extents = passed_listed; room = omega arith } }

-- ---- the number that open gives

module _ (o : model.Opening) (m : ℕ) (e : m ≡ early_refusal o) where
  pub refused_early : 0 < m → m ≡ model.open_refusal o
  refused_early h = e ∙ sym (open_early o (λ z. omega (arith, e, z)))

  pub refused_last : m ≡ 0 → (b : Bool) → b ≡ marked_in o → refuse 15 b ≡ model.open_refusal o
  refused_last z b t = sym (open_late o (sym e ∙ z) ∙ ap (refuse 15) (sym t))
