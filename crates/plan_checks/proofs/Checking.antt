-- 4 to 13: each record's own check, in order.
use Rattle.std.proofs.Common.{ℕ, ◌+◌, ◌*◌, ◌≤◌, ◌<◌, List, [], ◌∷◌, length, take, ◌≡◌, refl, ap, sym, ◌∙◌, arith, ne_eqb}
use Rattle.std.specs.Prelude.{Option, Some, None, Ok}
use Rattle.footprint.specs.Footprint.{answer_of, check_of, refusal_of}
use Rattle.footprint.specs.declared.Extent.{Extent}
use Rattle.footprint.specs.declared.Limits.{Limits}
use Rattle.numbers.specs.Range.{Range}
use Rattle.numbers.specs.Refusals.{Answer, first, number_of}
use Rattle.numbers.proofs.Answers.{number_told}
use lib.Seq.{length-take-le}
use Rattle.plan_checks.specs.Each.{Handed}
use Rattle.plan_checks.specs.Early.{Listed}
use Rattle.plan_checks.specs.Opening.{records_of}
use Rattle.plan_record.specs.declared.Record.{Record}
use Rattle.plan_checks.proofs.Along.{listed_next, each_next}
use Rattle.plan_record.specs.Record.{record_of}
use Rattle.model.specs.Open.{each_record, record_refusal}

-- what the checks of the records that are left say is what all say
pub record Checking (lim : Limits) (rs left : List Record) (l rest s : List ℕ) : Type 0 where
  pub long : Listed (records_of left) (length rest) (length s)
  pub decides : first (each_record (record_refusal lim) (records_of rs) l) ≡ first (each_record (record_refusal lim) (records_of left) rest)

module _ {lim : Limits} {rs left : List Record} {l rest s : List ℕ} (g : Checking lim rs left l rest s) where
  module _ {one : Record} {left' : List Record} {own rest' : List ℕ} (h : Handed left rest one own left' rest') where
    -- the scratch that its footprint takes
    abbrev k : ℕ
    k = 2 * (one.entry.extent_count + 2)

    pub own_room : k ≤ length s
    own_room = (listed_next h (length s) g.long).1

    pub own_scratch : k ≡ length (take k s)
    own_scratch = sym (length-take-le k s own_room)

    -- what its check answered
    module _ {a : Answer (List Range)} (e : a ≡ check_of lim one.number one.entry one.header own (length (take k s))) where
      refusal : number_of a ≡ record_refusal lim (record_of one) own
      refusal = ap number_of e ∙ number_told _ _ ∙ ap (refusal_of _ _ _ _ _) (sym own_scratch)

      its : first (each_record (record_refusal lim) (records_of rs) l)
          ≡ first (number_of a ∷ each_record (record_refusal lim) (records_of left') rest')
      its = g.decides ∙ ap first (each_next h (record_refusal lim)) ∙ rw refusal refl

      pub check_fails : 0 < number_of a → number_of a ≡ first (each_record (record_refusal lim) (records_of rs) l)
      unfolding first
      check_fails p = sym (its ∙ simp (ne_eqb (number_of a) 0 (λ z. omega arith)))

      pub check_on : number_of a ≡ 0 → (s' : List ℕ) → length s' ≡ length s → Checking lim rs left' l rest' s'
      unfolding first
      check_on z s' e =
          let t = (listed_next h (length s) g.long).2 in
          record { long = record { extents = t.extents; room = omega (arith, t.room) }; decides = its ∙ simp z }

  pub check_ends : left ≡ [] → 0 ≡ first (each_record (record_refusal lim) (records_of rs) l)
  unfolding first each_record
  check_ends z = sym (g.decides ∙ rw z refl)

pub usable_none : (x : Option Extent) → number_of (answer_of (Ok x)) ≡ 0
usable_none None = refl
usable_none (Some x) = refl
