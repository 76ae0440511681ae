-- A walk along the records: what is left begins with the next one, and its extents.
use Rattle.std.proofs.Common.{ℕ, ◌-◌, ◌*◌, ◌≤◌, List, ◌∷◌, map, length, ◌≡◌, refl, ap, ◌∙◌, arith}
use lib.ListN.{length-drop}
use Rattle.numbers.specs.Sums.{sum}
use Rattle.plan_checks.specs.Each.{Handed}
use Rattle.plan_checks.specs.Early.{Listed, ranges_of}
use Rattle.plan_checks.specs.Opening.{records_of}
use Rattle.plan_record.specs.Record.{record_of}
use Rattle.plan_record.specs.declared.Record.{Record}
use Rattle.model.proofs.Opening.{listed_by}
use Rattle.model.specs.Open as model

module _ {rs rs' : List Record} {l l' own : List ℕ} {one : Record} (h : Handed rs l one own rs' l') where
  abbrev this : model.Record
  this = record_of one

  pub records_next : records_of rs ≡ this ∷ records_of rs'
  records_next = ap records_of h.first

  -- what each record and its extents make
  pub each_next : {A : Type 0} (f : model.Record → List ℕ → A)
      → model.each_record f (records_of rs) l ≡ f this own ∷ model.each_record f (records_of rs') l'
  unfolding model.each_record
  each_next f = rw (h.first, h.extents, h.others) refl

  -- its own lists, and the rest for those behind it
  pub listed_next : (m : ℕ) → Listed (records_of rs) (length l) m
      → (2 * listed_by this ≤ length l) × (2 * ranges_of this ≤ m) × Listed (records_of rs') (length l') (m - 2 * ranges_of this)
  unfolding sum
  listed_next m a =
      let x = ap (λ (ms : List model.Record). sum (map listed_by ms)) records_next in
      let y = ap (λ (ms : List model.Record). sum (map ranges_of ms)) records_next in
      let n : length l' ≡ length l - 2 * listed_by this = ap length h.others ∙ length-drop (2 * listed_by this) l in
      (omega (arith, a.extents), omega (arith, a.room), record { extents = omega (arith, a.extents); room = omega (arith, a.room) })
