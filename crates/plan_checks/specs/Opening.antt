-- Document 01, "The plan (added)", open: what its arguments stand for.
use Rattle.std.specs.Prelude.{ℕ, List, map}
use Rattle.footprint.specs.declared.Limits.{Limits}
use Rattle.plan_checks.specs.declared.container.Opening.{Opening}
use Rattle.plan_record.specs.Record.{record_of}
use Rattle.plan_record.specs.declared.Record.{Record}
use Rattle.model.specs.Open as model

abbrev pub records_of : List Record → List model.Record
records_of rs = map record_of rs

abbrev pub numbers_of : List Record → List ℕ
numbers_of rs = map (λ (r : model.Record). r.number) (records_of rs)

-- Of the lent scratch and the plan's lists only the numbers of their places are told.
abbrev pub opening_of : Limits → List Record → (listed : List ℕ) → (scratch places : ℕ) → model.Opening
opening_of lim rs listed scratch places =
    record { limits = lim; records = records_of rs; extents = listed; scratch = scratch; places = places }

-- The same of the container as open is given it.
abbrev pub opening_from : Opening → (scratch places : ℕ) → model.Opening
opening_from opening scratch places = opening_of opening.limits opening.records.now opening.listed.now scratch places
