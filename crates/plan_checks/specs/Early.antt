-- Open's refusals but 15, and what the check of each record asks.
use Rattle.std.specs.Prelude.{ℕ, ◌+◌, ◌*◌, ◌≤◌, List, [], ◌∷◌, map}
use Rattle.model.specs.Open.{Record, Opening, each_record, lists_fail_in, logs_fail_in, length_fails, record_refusal, shared}
use Rattle.numbers.specs.Refusals.{refuse, first}
use Rattle.numbers.specs.Sums.{sum}
use Rattle.model.proofs.Opening.{count_of, listed_by}

-- "1, 2 and 3 are tested over all, each record is then checked in order .., then 14": `open_refusal` without its last test.
unfoldable pub early_refusal : Opening → ℕ
early_refusal o =
    first (refuse 1 (lists_fail_in o) ∷
    refuse 2 (logs_fail_in o) ∷
    refuse 3 (length_fails o.limits) ∷
    first (each_record (record_refusal o.limits) o.records o.extents) ∷
    refuse 14 (shared (map (λ (r : Record). r.number) o.records)) ∷ [])

-- How many ranges the footprint of a record has.
abbrev pub ranges_of : Record → ℕ
ranges_of r = count_of r + 2

-- The lists are long enough for the records.
pub record Listed (rs : List Record) (listed scratch : ℕ) : Type 0 where
  pub extents : 2 * sum (map listed_by rs) ≤ listed
  pub room : 2 * sum (map ranges_of rs) ≤ scratch
