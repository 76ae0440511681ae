-- 2 over all records is the model's.
use Rattle.std.proofs.Common.{ℕ, ◌≤◌, Bool, true, false, not, ◌&&◌, ◌||◌, List, [], ◌∷◌, eqb, ◌≡◌, refl, sym, le-ltb, lt-ltb, leb, le-leb}
use Rattle.std.proofs.lemmas.Bool.{lt-leb}
use Rattle.std.specs.List.{list_any}
use Rattle.footprint.specs.Footprint.{logs_fail}
use Rattle.footprint.specs.declared.Limits.{Limits}
use Rattle.numbers.specs.Lists.{any}
use Rattle.plan_checks.specs.Opening.{records_of, opening_of}
use Rattle.plan_record.specs.declared.Record.{Record}
use Rattle.model.specs.Open.{logs_fail_in}
use Rattle.numbers.proofs.Cases.{by_lt}
use Rattle.model.specs.Open as model

-- a header's block log is neither 9 nor the container's
abbrev pub other : ℕ → Record → Bool
other log r = not (eqb r.header.log2_block 9) && not (eqb r.header.log2_block log)

neither : (a b : Bool) → (not a && not b) ≡ not (a || b)
neither true b = refl
neither false b = refl

own_fails : (lim : Limits) → 12 ≤ lim.log2_block → lim.log2_block ≤ 16 → (r : Record) → logs_fail lim r.header ≡ other lim.log2_block r
unfolding logs_fail
own_fails lim low high r =
    simp (le-ltb _ _ low, le-ltb _ _ high) (sym (neither (eqb r.header.log2_block 9) (eqb r.header.log2_block lim.log2_block)))

any_fails : (lim : Limits) → 12 ≤ lim.log2_block → lim.log2_block ≤ 16 → (rs : List Record)
    → any (λ (r : model.Record). logs_fail lim r.header) (records_of rs) ≡ list_any (other lim.log2_block) rs
unfolding any
any_fails lim low high [] = refl
any_fails lim low high (r ∷ rs) = rw (own_fails lim low high r, any_fails lim low high rs) refl

-- 2 as the code tests it
pub logs_by : (lim : Limits) (rs : List Record) (l : List ℕ) (scratch places : ℕ)
    → logs_fail_in (opening_of lim rs l scratch places)
    ≡ (not (leb 12 lim.log2_block && leb lim.log2_block 16) || list_any (other lim.log2_block) rs)
unfolding logs_fail_in
logs_by lim rs l scratch places =
    by_lt lim.log2_block 12 (λ h. rw (lt-ltb _ _ h, lt-leb 12 lim.log2_block h) refl)
    (λ h. by_lt 16 lim.log2_block (λ g. rw (le-ltb _ _ h, lt-ltb _ _ g, le-leb _ _ h, lt-leb lim.log2_block 16 g) refl)
    (λ g. simp (le-ltb _ _ h, le-ltb _ _ g, le-leb _ _ h, le-leb _ _ g) (any_fails lim h g rs)))
