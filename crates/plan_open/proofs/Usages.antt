-- The accounts of the records: their rows are the model's, and each tag's totals are.
use Prim.Native.Nat.{ℕ, ◌+◌, ◌*◌, ◌≤◌}
use mathlib.Core.Bool.{false}
use mathlib.Core.List.{List, [], ◌∷◌, ◌++◌, map, map-append, map-map, reverse, reverse-cons}
use mathlib.Core.Path.{◌≡◌, refl, ap, sym, ◌∙◌}
use native.Mathlib.Omega.{arith}
use lib.ListN.{length, take, drop, length-map, length-reverse}
use lib.Seq.{take_at}
use borrow.Author.Tests.{eq-eqb, ne_eqb}
use Rattle.std.specs.Prelude.{Ok}
use Rattle.accounting.specs.declared.entries.Usage.{Usage}
use Rattle.accounting.specs.Entries.{usage, usages, add_all, of_tag, no_tags, differ, Counts}
use Rattle.accounting.specs.Table.{Table, table_of, accounts_of, on_row}
use Rattle.accounting.specs.declared.Posted.{Posted}
use Rattle.footprint.specs.declared.Limits.{Limits}
use Rattle.model.specs.Region.{footprint_len}
use Rattle.model.specs.World.{TagRow}
use Rattle.numbers.specs.Keyed.{put_keyed}
use Rattle.numbers.specs.Lists.{All, written}
use Rattle.numbers.specs.Sums.{top, stop, sum}
use Rattle.plan_open.specs.Accounts.{tag_of, size_of, len_of, usage_of, UsageIn, Accounted}
use Rattle.plan_record.specs.Plan.{cap_of}
use Rattle.tagspace.specs.Row.{blank, add_usage}
use Rattle.tagspace.specs.declared.TagSpace.{TagSpace}
use Rattle.accounting.proofs.Tables.{table_accounts}
use Rattle.accounting.proofs.Words.{few_usages, usage_row}
use Rattle.footprint.proofs.Regular.{accepted_regular}
use Rattle.model.proofs.Figures.{footprint-len}
use Rattle.model.proofs.Opening.{count_of, listed_by}
use Rattle.model.proofs.Regions.{if_tag, sum_tag}
use Rattle.numbers.proofs.Cases.{by_eq}
use Rattle.numbers.proofs.Keyed.{map_put, map_keyed}
use Rattle.numbers.proofs.Sums.{sum_append}
use Rattle.accounting.specs.Table as accounting
use Rattle.model.specs.Open as model
use Rattle.model.specs.Region as model_region
use Rattle.model.specs.World as model_world

-- ---- the record of the usages

usages_map : (lim : Limits) (ms : List model.Record) → usages (map tag_of ms) (map size_of ms) (map (len_of lim) ms) ≡ map (usage_of lim) ms
unfolding usages
usages_map lim [] = refl
usages_map lim (m ∷ ms) = ap (λ (l : List Usage). usage_of lim m ∷ l) (usages_map lim ms)

-- the front of a list, as the code takes it
front : (ms : List model.Record) (n : ℕ) → length ms ≡ n → (f : model.Record → ℕ) (s₀ s : List ℕ) → s ≡ written (map f (reverse ms)) s₀
    → take n s ≡ map f (reverse ms)
front ms n e f s₀ s q =
    let a = length-map (reverse ms) f in
    let b = length-reverse ms in
    ap (take n) q ∙ take_at (map f (reverse ms)) _ n (omega arith)

module _ {lim : Limits} {ms : List model.Record} {t₀ t l₀ l p₀ p : List ℕ} (u : UsageIn lim (reverse ms) t₀ t l₀ l p₀ p) (n : ℕ)
    (e : length ms ≡ n) (few : n ≤ 64) where
  pub posted : (r : Posted)
      → Counts (differ (take n t) (take n l) (take n p)) (usages (take n t) (take n l) (take n p)) r
      → Accounted lim ms r.accounts
  unfolding differ
  posted r c =
      let a = front ms n e tag_of t₀ t u.all_tags in
      let b = front ms n e size_of l₀ l u.all_logical in
      let d = front ms n e (len_of lim) p₀ p u.all_physical in
      let k = length-map (reverse ms) tag_of in
      let j = length-map (reverse ms) size_of in
      let i = length-map (reverse ms) (len_of lim) in
      let m = length-map (reverse ms) (usage_of lim) in
      let v = length-reverse ms in
      let us : List Usage = map (usage_of lim) (reverse ms) in
      let w : usages (take n t) (take n l) (take n p) ≡ us = rw (a, b, d) (usages_map lim (reverse ms)) in
      let s : differ (take n t) (take n l) (take n p) ≡ false = rw (a, b, d) (simp (eq-eqb _ _ (k ∙ sym j), eq-eqb _ _ (k ∙ sym i))) in
      let h : r ≡ record { answer = Ok tt; accounts = accounts_of (add_all us no_tags) } =
      c.answer ∙ simp (s, w) (few_usages us (omega arith)) in
      record { table = ap (λ (q : Posted). table_of q.accounts) h ∙ table_accounts (add_all us no_tags); valid = c.valid }

-- ---- rows: a map that keeps the key goes through `put_keyed` and `keyed`

add_append : (us vs : List Usage) (t : Table) → add_all (us ++ vs) t ≡ add_all vs (add_all us t)
unfolding add_all
add_append [] vs t = refl
add_append (u ∷ us) vs t = add_append us vs _

-- the first record's usage is added last
add_first : (lim : Limits) (m : model.Record) (ms : List model.Record)
    → add_all (map (usage_of lim) (reverse (m ∷ ms))) no_tags
    ≡ on_row (tag_of m) (add_usage (size_of m) (len_of lim m)) (add_all (map (usage_of lim) (reverse ms)) no_tags)
unfolding add_all
add_first lim m ms =
    ap (λ (l : List model.Record). add_all (map (usage_of lim) l) no_tags) (reverse-cons m ms)
    ∙ ap (λ (l : List Usage). add_all l no_tags) (map-append (usage_of lim) (reverse ms) (m ∷ []))
    ∙ add_append (map (usage_of lim) (reverse ms)) (usage_of lim m ∷ []) no_tags

pub rows_are : (lim : Limits) (ms : List model.Record) → map cap_of (add_all (map (usage_of lim) (reverse ms)) no_tags).rows
    ≡ model.rows_for (map tag_of ms)
unfolding model.rows_for on_row add_all
rows_are lim [] = refl
rows_are lim (m ∷ ms) =
    let t : Table = add_all (map (usage_of lim) (reverse ms)) no_tags in
    let x : TagSpace = add_usage (size_of m) (len_of lim m) (accounting.row_of (tag_of m) t.rows) in
    ap (λ (q : Table). map cap_of q.rows) (add_first lim m ms)
    ∙ map_put cap_of accounting.tag_of model_world.tag_of (λ r. refl) x t.rows
    ∙ ap (λ (q : TagRow). put_keyed model_world.tag_of q (map cap_of t.rows))
    (map_keyed cap_of accounting.tag_of model_world.tag_of (λ r. refl) (blank (tag_of m)) (tag_of m) t.rows)
    ∙ ap (λ (l : List TagRow). model_world.with_tag (tag_of m) l) (rows_are lim ms)

-- ---- totals

sum_reverse : {A : Type 0} (f : A → ℕ) (xs : List A) → sum (map f (reverse xs)) ≡ sum (map f xs)
unfolding sum
sum_reverse f [] = refl
sum_reverse {A} f (x ∷ xs) =
    let i = sum_reverse f xs in
    let a = sum_append (map f (reverse xs)) (f x ∷ []) in
    ap (λ (l : List A). sum (map f l)) (reverse-cons x xs) ∙ ap sum (map-append f (reverse xs) (x ∷ [])) ∙ omega arith

usage_sum : (f : Usage → ℕ) (tag : ℕ) (us : List Usage) → sum (map f (of_tag tag us)) ≡ sum (map (λ (u : Usage). if_tag u.tag tag (f u)) us)
unfolding of_tag sum
usage_sum f tag [] = refl
usage_sum f tag (u ∷ us) =
    let i = usage_sum f tag us in by_eq u.tag tag (λ e. simp (eq-eqb _ _ e) (omega arith)) (λ d. simp (ne_eqb _ _ d) (omega arith))

-- the usage of a region
abbrev of_region : Limits → model_region.Region → Usage
of_region lim r = usage r.tag r.published (footprint_len lim r)

-- an accepted record counts what its region holds
own_usage : (lim : Limits) (m : model.Record) (xs : List ℕ) → model.record_refusal lim m xs ≡ 0
    → footprint_len lim (model.region_from m xs) ≤ top
    → usage_of lim m ≡ of_region lim (model.region_from m xs)
own_usage lim m xs z h =
    let c = (accepted_regular lim m.number m.entry m.header xs (2 * (count_of m + 2)) z).capacity in
    let l = footprint-len lim (model.region_from m xs) in
    let e : len_of lim m ≡ footprint_len lim (model.region_from m xs) = omega arith in
    ap (usage (tag_of m) (size_of m)) e

all_usages : (lim : Limits) (ms : List model.Record) (l : List ℕ)
    → All (λ (n : ℕ). n ≡ 0) (model.each_record (model.record_refusal lim) ms l)
    → sum (map (footprint_len lim) (model.each_record model.region_from ms l)) ≤ top
    → map (usage_of lim) ms ≡ map (of_region lim) (model.each_record model.region_from ms l)
unfolding model.each_record sum
all_usages lim [] l a h = refl
all_usages lim (m ∷ ms) l a h =
    rw (own_usage lim m (take (2 * listed_by m) l) a.0 (omega arith), all_usages lim ms (drop (2 * listed_by m) l) a.1 (omega arith))

module _ (lim : Limits) (ms : List model.Record) (l : List ℕ)
    (a : All (λ (n : ℕ). n ≡ 0) (model.each_record (model.record_refusal lim) ms l))
    (h : sum (map (footprint_len lim) (model.each_record model.region_from ms l)) ≤ top) (tag : ℕ) where
  abbrev regions : List model_region.Region
  regions = model.each_record model.region_from ms l

  -- a total over the usages is one over the regions
  total_is : (f : Usage → ℕ) → sum (map f (of_tag tag (map (usage_of lim) (reverse ms))))
      ≡ sum (map (λ (r : model_region.Region). f (of_region lim r)) (model_world.of_tag tag regions))
  total_is f =
      let g : Usage → ℕ = λ u. if_tag u.tag tag (f u) in
      usage_sum f tag (map (usage_of lim) (reverse ms))
      ∙ ap sum (map-map g (usage_of lim) (reverse ms))
      ∙ sum_reverse (λ (m : model.Record). g (usage_of lim m)) ms
      ∙ ap sum (sym (map-map g (usage_of lim) ms))
      ∙ ap (λ (us : List Usage). sum (map g us)) (all_usages lim ms l a h)
      ∙ ap sum (map-map g (of_region lim) regions)
      ∙ sym (sum_tag (λ (r : model_region.Region). f (of_region lim r)) tag regions)

  -- a tag's row has its totals, where they do not stop
  pub row_is : (logical physical : ℕ) → logical ≡ sum (map (λ (r : model_region.Region). r.published) (model_world.of_tag tag regions))
      → physical ≡ sum (map (footprint_len lim) (model_world.of_tag tag regions)) → logical ≤ top → physical ≤ top
      → accounting.row_of tag (add_all (map (usage_of lim) (reverse ms)) no_tags).rows
      ≡ record {
        tag = tag;
        logical = logical;
        physical = physical;
        reserved = 0;
        cap = (model_world.row_of tag (model.rows_for (map tag_of ms))).cap;
      }
  row_is logical physical p q u v =
      let us : List Usage = map (usage_of lim) (reverse ms) in
      let rows : List TagSpace = (add_all us no_tags).rows in
      let x = total_is (λ (w : Usage). w.logical) in
      let y = total_is (λ (w : Usage). w.physical) in
      let r = usage_row tag us in
      let c : model_world.row_of tag (model.rows_for (map tag_of ms)) ≡ cap_of (accounting.row_of tag rows) =
      ap (model_world.row_of tag) (sym (rows_are lim ms))
      ∙ sym (map_keyed cap_of accounting.tag_of model_world.tag_of (λ t. refl) (blank tag) tag rows) in
      let a : stop (0 + sum (map (λ (w : Usage). w.logical) (of_tag tag us))) ≡ logical = omega arith in
      let b : stop (0 + sum (map (λ (w : Usage). w.physical) (of_tag tag us))) ≡ physical = omega arith in
      rw (c, r, a, b)
