-- Three loops: the highest sequence number, a row for each region, and the usages.
use Prim.Native.Nat.{ℕ, ◌+◌, ◌*◌, ◌≤◌, ◌<◌, max, min}
use mathlib.Core.List.{List, [], ◌∷◌, ◌++◌, append_assoc, append-nil, map, map-append, reverse, reverse-cons}
use mathlib.Core.Path.{◌≡◌, refl, ap, sym, ◌∙◌}
use native.Mathlib.Omega.{arith}
use lib.ListN.{length, get_or, set, replicate, length-append, length-map, length-set, length-reverse, length-replicate}
use Rattle.std.specs.List.{fold}
use lib.Seq.{get_or-set_same, get_or-set_other}
use Rattle.footprint.specs.Footprint.{block_of}
use Rattle.numbers.specs.Sums.{top}
use Rattle.footprint.specs.declared.Limits.{Limits}
use Rattle.numbers.specs.Lists.{written}
use Rattle.plan_checks.specs.Opening.{records_of}
use Rattle.plan_open.specs.Accounts.{tag_of, size_of, len_of, UsageIn, HasPlaces}
use Rattle.plan_open.specs.Build.{Rows}
use Rattle.plan_record.specs.Plan.{blank_region, past_region}
use Rattle.plan_record.specs.Record.{record_of}
use Rattle.plan_record.specs.declared.Record.{Record}
use Rattle.plan_record.specs.declared.Region.{Region}
use Rattle.plan_settled.specs.Settled.{seq_of}
use Rattle.numbers.proofs.Cases.{by_eq}
use Rattle.numbers.proofs.Lists.{written_next}
use Rattle.model.specs.Open as model

-- ---- the highest sequence number

pub fold_highest : (n : ℕ) (rs : List Record) → fold (λ (a : ℕ) (r : Record). max a r.entry.footprint_seq) n rs
    ≡ max n (model.highest (map seq_of (records_of rs)))
unfolding model.highest
fold_highest n [] = omega arith
fold_highest n (r ∷ rs) = fold_highest (max n r.entry.footprint_seq) rs ∙ omega arith

-- ---- a row for each region

pub record Rowing (gs : List Region) (i : ℕ) : Type 0 where
  pub inside : i ≤ 64
  pub full : length gs ≡ 64
  pub row : (j : ℕ) → j < i → (get_or gs j past_region).row ≡ j

none_left : (rest : List Record) → length rest ≡ 0 → rest ≡ []
none_left [] z = refl
none_left (r ∷ rest) z = absurd (omega arith)

pub row_begins : (gs : List Region) → gs ≡ replicate 64 (blank_region 0) → Rowing gs 0
row_begins gs e =
    record { inside = omega arith; full = ap length e ∙ length-replicate 64 (blank_region 0); row = λ j h. absurd (omega arith) }

-- a region that names its row, set in its place
pub row_set : (gs : List Region) (i : ℕ) (g : Region) → length gs ≡ 64 → i < 64 → g.row ≡ i → (j : ℕ)
    → ((j ≡ i → ⊥) → (get_or gs j past_region).row ≡ j)
    → (get_or (set gs i g) j past_region).row ≡ j
row_set gs i g l h e j f =
    by_eq j i (λ q. rw (q, get_or-set_same gs i g past_region (omega arith)) e) (λ d. rw (get_or-set_other gs i j g past_region d) (f d))

pub row_on : (gs : List Region) (i : ℕ) → Rowing gs i → i < 64 → (g : Region) → g ≡ blank_region i → Rowing (set gs i g) (i + 1)
row_on gs i r h g e =
    record {
      inside = omega arith;
      full = length-set gs i g ∙ r.full;
      row = λ j k. row_set gs i g r.full h (ap (λ (q : Region). q.row) e) j (λ d. r.row j (omega (arith, d, k)));
    }

pub row_ends : (gs : List Region) (i : ℕ) → Rowing gs i → 64 ≤ i → Rows gs
row_ends gs i r h = record { full = r.full; row = λ j k. r.row j (omega arith) }

-- ---- the usages, the last record's first

pub len_is : (lim : Limits) (m : model.Record) (b len : ℕ) → b ≡ block_of lim → b ≤ 65536 → len ≡ min (2 * b + m.entry.capacity) top
    → len ≡ len_of lim m
len_is lim m b len e h q = rw (q, sym e) (omega arith)

-- those of the records behind rest are listed
pub record Using (lim : Limits) (rs rest : List Record) (tags₀ tags logical₀ logical physical₀ physical : List ℕ) (i : ℕ) : Type 0 where
  pub done : List Record
  pub whole : rest ++ done ≡ rs
  pub count : i ≡ length done
  pub listed : UsageIn lim (reverse (records_of done)) tags₀ tags logical₀ logical physical₀ physical

pub use_begins : (lim : Limits) (rs : List Record) (tags logical physical : List ℕ) (i : ℕ) → i ≡ 0 → (rest : List Record) → rest ≡ rs
    → Using lim rs rest tags tags logical logical physical physical i
use_begins lim rs tags logical physical i z rest e =
    record {
      done = [];
      whole = append-nil rest ∙ e;
      count = z;
      listed = record { all_tags = refl; all_logical = refl; all_physical = refl };
    }

module _ (f : model.Record → ℕ) (done : List Record) (one : Record) where
  turned_next : map f (reverse (records_of (one ∷ done))) ≡ map f (reverse (records_of done)) ++ (f (record_of one) ∷ [])
  turned_next = ap (map f) (reverse-cons (record_of one) (records_of done)) ∙ map-append f (reverse (records_of done)) (record_of one ∷ [])

  turned_length : length (map f (reverse (records_of done))) ≡ length done
  turned_length = length-map (reverse (records_of done)) f ∙ length-reverse (records_of done) ∙ length-map done record_of

  turned_on : (s₀ s : List ℕ) (x : ℕ) → length done < length s₀ → x ≡ f (record_of one) → s ≡ written (map f (reverse (records_of done))) s₀
      → set s (length done) x ≡ written (map f (reverse (records_of (one ∷ done)))) s₀
  turned_on s₀ s x h q e =
      rw (q, e, turned_next) (written_next (map f (reverse (records_of done))) s₀ (length done) (f (record_of one)) turned_length h)

module _ {lim : Limits} {rs rest : List Record} {tags₀ tags logical₀ logical physical₀ physical : List ℕ} {n : ℕ}
    (g : Using lim rs rest tags₀ tags logical₀ logical physical₀ physical n)
    (r : HasPlaces (length rs) (length tags₀) (length logical₀) (length physical₀)) where
  -- one more stands behind what is then left
  module _ (left : List Record) (one : Record) (e : rest ≡ left ++ (one ∷ [])) (i m : ℕ) (p : i ≡ n) (q : m ≡ n + 1) where
    behind : left ++ (one ∷ g.done) ≡ rs
    behind = sym (append_assoc left (one ∷ []) g.done) ∙ ap (λ (l : List Record). l ++ g.done) (sym e) ∙ g.whole

    pub use_room : i < length rs
    use_room =
        let a = ap length behind in
        let b = length-append left (one ∷ g.done) in
        omega (arith, g.count)

    pub use_on : (len : ℕ) → len ≡ len_of lim (record_of one)
        → Using lim rs left tags₀ (set tags i one.tag) logical₀ (set logical i one.entry.data_size) physical₀ (set physical i len) m
    use_on len w =
        let k : i ≡ length g.done = p ∙ g.count in
        let h = use_room in
        record {
          done = one ∷ g.done;
          whole = behind;
          count = omega (arith, g.count);
          listed =
              rw k (record {
                all_tags = turned_on tag_of g.done one tags₀ tags one.tag (omega (arith, r.for_tags)) refl g.listed.all_tags;
                all_logical =
                    turned_on size_of g.done one logical₀ logical one.entry.data_size
                    (omega (arith, r.for_logical)) refl g.listed.all_logical;
                all_physical =
                    turned_on (len_of lim) g.done one physical₀ physical len (omega (arith, r.for_physical)) w g.listed.all_physical;
              });
        }

  pub use_ends : length rest ≡ 0 → UsageIn lim (reverse (records_of rs)) tags₀ tags logical₀ logical physical₀ physical
  use_ends z =
      let e : g.done ≡ rs = ap (λ (l : List Record). l ++ g.done) (sym (none_left rest z)) ∙ g.whole in
      rw (sym e) g.listed
