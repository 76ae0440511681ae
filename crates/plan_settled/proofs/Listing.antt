-- The records' fields in lists.
use Rattle.std.proofs.Common.{ℕ, suc, ◌+◌, ◌≤◌, ◌<◌, List, [], ◌∷◌, ◌++◌, map, length, get_or, take, set, ◌≡◌, ap, sym, ◌∙◌, arith}
use mathlib.Core.List.{map-append, map-map}
use lib.Seq.{take-suc, take_all, length-take-le}
use lib.ListN.{length-map}
use Rattle.numbers.specs.Lists.{written}
use Rattle.plan_checks.specs.Early.{ranges_of}
use Rattle.plan_checks.specs.Opening.{records_of}
use Rattle.plan_record.specs.Record.{record_of}
use Rattle.plan_record.specs.declared.Record.{Record}
use Rattle.plan_settled.specs.Settled.{seq_of, name_length, bytes_of, FieldsIn}
use Rattle.numbers.proofs.Lists.{all_append, written_next}
use Rattle.plan_record.proofs.Naming.{name-length}
use Rattle.model.specs.Open as model

abbrev Wide : Record → Type 0
Wide r = length r.name.bytes ≡ 24

module _ (rs : List Record) (i : ℕ) (d : Record) (h : i < length rs) where
  abbrev this : Record
  this = get_or rs i d

  next : take (i + 1) rs ≡ take i rs ++ (this ∷ [])
  next = let e : i + 1 ≡ suc i = omega arith in rw e (take-suc rs i d h)

  -- one more field behind those that are written
  field_on : {A : Type 0} (f : Record → A) (s₀ s : List A) → i < length s₀ → s ≡ written (map f (take i rs)) s₀
      → set s i (f this) ≡ written (map f (take (i + 1) rs)) s₀
  field_on {A} f s₀ s r e =
      let n : length (map f (take i rs)) ≡ i = length-map (take i rs) f ∙ length-take-le i rs (omega arith) in
      ap (λ (t : List A). set t i (f this)) e
      ∙ written_next (map f (take i rs)) s₀ i (f this) n r
      ∙ ap (λ (t : List A). written t s₀) (sym (ap (map f) next ∙ map-append f (take i rs) (this ∷ [])))

  of_record : (f : model.Record → ℕ) (s₀ s : List ℕ) → i < length s₀ → s ≡ written (map f (records_of (take i rs))) s₀
      → set s i (f (record_of this)) ≡ written (map f (records_of (take (i + 1) rs))) s₀
  of_record f s₀ s r e =
      let g : Record → ℕ = λ q. f (record_of q) in
      field_on g s₀ s r (e ∙ ap (λ (t : List ℕ). written t s₀) (map-map f record_of (take i rs)))
      ∙ ap (λ (t : List ℕ). written t s₀) (sym (map-map f record_of (take (i + 1) rs)))

  pub fields_on : {seqs₀ seqs counts₀ counts lens₀ lens : List ℕ} {names₀ names : List (List ℕ)}
      → FieldsIn (take i rs) seqs₀ seqs counts₀ counts lens₀ lens names₀ names
      → i < length seqs₀ → i < length counts₀ → i < length lens₀ → i < length names₀
      → (name : List ℕ) → (name ≡ this.name.bytes) × (length name ≡ 24)
      → FieldsIn (take (i + 1) rs) seqs₀ (set seqs i this.entry.footprint_seq) counts₀ (set counts i (this.entry.extent_count + 2)) lens₀
      (set lens i this.name.len) names₀ (set names i name)
  fields_on {seqs₀} {seqs} {counts₀} {counts} {lens₀} {lens} {names₀} {names} g a b c e name w =
      record {
        all_seqs = of_record seq_of seqs₀ seqs a g.all_seqs;
        all_counts = of_record ranges_of counts₀ counts b g.all_counts;
        all_lens = ap (set lens i) (sym (name-length this.name.bytes this.name.len)) ∙ of_record name_length lens₀ lens c g.all_lens;
        all_names = ap (set names i) w.0 ∙ field_on bytes_of names₀ names e g.all_names;
        wide = rw next (all_append Wide (take i rs) (this ∷ []) g.wide (sym (ap length w.0) ∙ w.1, tt));
      }

pub fields_end : (rs : List Record) (i : ℕ) → length rs ≤ i → {seqs₀ seqs counts₀ counts lens₀ lens : List ℕ} {names₀ names : List (List ℕ)}
    → FieldsIn (take i rs) seqs₀ seqs counts₀ counts lens₀ lens names₀ names → FieldsIn rs seqs₀ seqs counts₀ counts lens₀ lens names₀ names
fields_end rs i h g = rw (sym (take_all i rs h)) g
