-- The plan of accepted arguments is valid, and stands for the world that they make.
use Prim.Native.Nat.{ℕ, ◌+◌, ◌*◌, ◌≤◌, ◌<◌}
use mathlib.Core.List.{List, ◌++◌, map}
use mathlib.Core.Logic.{⊎_elim}
use mathlib.Core.Path.{◌≡◌, refl, ap, sym, subst, ◌∙◌}
use native.Mathlib.Omega.{arith}
use lib.ListN.{length, get_or, take, length-map}
use lib.Seq.{ext_get_or, get_or-take, length-take-le}
use Rattle.accounting.specs.declared.Accounting.{Accounting}
use Rattle.footprint.specs.Footprint.{committed, outside, entry_tests, header_tests, extent_tests}
use Rattle.footprint.specs.declared.Limits.{Limits}
use Rattle.model.specs.World.{World, account_of}
use Rattle.numbers.specs.Lists.{Distinct}
use Rattle.numbers.specs.Pairs.{pairs}
use Rattle.numbers.specs.Range.{Range, total}
use Rattle.numbers.specs.Sums.{top}
use Rattle.plan_checks.specs.Opening.{records_of}
use Rattle.plan_record.specs.Record.{record_of}
use Rattle.plan_open.specs.Accounts.{Accounted}
use Rattle.plan_open.specs.Build.{Accepted, past_record, own_of, Fitting, InRow, Filled, Built}
use Rattle.plan_open.specs.Open.{places_of}
use Rattle.plan_open.specs.Rows.{Fit, region_with}
use Rattle.plan_record.specs.Plan.{Mapped, world_of, region_of, rows_of, row_of, row_in, cap_of, past_region}
use Rattle.plan_record.specs.declared.Plan.{Plan}
use Rattle.plan_record.specs.declared.Record.{Record}
use Rattle.plan_record.specs.declared.Region.{Region}
use Rattle.plan_settled.specs.Settled.{seq_of}
use Rattle.footprint.proofs.Answer.{none_failed}
use Rattle.footprint.proofs.Passed.{Inside}
use Rattle.footprint.proofs.Regular.{accepted_regular}
use Rattle.model.proofs.Figures.{held_most, logical_most, physical_most}
use Rattle.model.proofs.Opening.{count_of, each_length, each_at, Fine, accepted_fine, checks, opened_sound}
use Rattle.std.proofs.lemmas.List.{get_or-map}
use Rattle.numbers.proofs.Lists.{all_at, all_of, all_imp, at_distinct}
use Rattle.numbers.proofs.Pairs.{length_pairs}
use Rattle.numbers.proofs.Refusals.{first_none, first_parts, each_sum}
use Rattle.plan_open.proofs.Usages.{rows_are, row_is}
use Rattle.accounting.specs.Table as accounting
use Rattle.model.specs.Open as model
use Rattle.model.specs.Region as model_region
use Rattle.plan_checks.specs.Opening as checked
use Rattle.regionmap.specs.Map as regionmap
use Rattle.model.proofs.Sound as model_sound

-- ---- an accepted record is fit

module _ (lim : Limits) (r : model.Record) (xs : List ℕ) (z : model.record_refusal lim r xs ≡ 0) where
  abbrev places : ℕ
  places = 2 * (count_of r + 2)

  -- 12, "The sum of extents passes 2^64 - 1", did not apply
  sum_whole : total (committed r.entry xs) ≤ top
  sum_whole =
      let a = (none_failed lim r.number r.entry r.header xs places z).0 in
      let b =
      (first_parts (entry_tests lim r.entry r.header xs places ++ header_tests r.number r.entry r.header)
      (extent_tests lim r.entry (committed r.entry xs)) a).1 in
      let c = each_sum (outside lim r.entry) 0 (committed r.entry xs) (omega arith) (first_none _ _ b).0 in
      omega arith

  pub fit_from : count_of r ≤ 60 → Fit r xs
  fit_from f =
      let g = accepted_regular lim r.number r.entry r.header xs places z in
      let l = length_pairs xs in
      record {
        few = f;
        listed = ⊎_elim (λ e. omega (arith, g.lists.listed, e, l)) (λ e. omega (arith, g.lists.listed, e.1, l)) g.agreed.count;
        ends = all_imp (Inside lim r.entry) (λ (x : Range). x.offset + x.len ≤ top) (λ x i. i.ends) (committed r.entry xs) g.inside;
        whole = sum_whole;
        size = omega (arith, g.entry.size, g.capacity);
      }

module _ {lim : Limits} {rs : List Record} {l xs₀ ss₀ fs₀ : List ℕ} (a : Accepted lim rs l xs₀ ss₀ fs₀) where
  abbrev o : model.Opening
  o = checked.opening_of lim rs l a.scratch (places_of xs₀ ss₀ fs₀)

  abbrev ms : List model.Record
  ms = records_of rs

  fine : Fine o
  fine = accepted_fine o a.none

  sound : model_sound.Sound (model.opened o)
  sound = opened_sound o a.none

  pub build_few : length rs ≤ 64
  build_few = omega (arith, fine.lists.few, length-map rs record_of)

  pub build_log : lim.log2_block ≤ 16
  build_log = fine.logs.high

  pub build_fits : Fitting ms l (length xs₀) (length ss₀) (length fs₀)
  build_fits =
      let p = fine.lists.places in
      let q = length_pairs xs₀ in
      record {
        fit =
            λ i h.
            let e = each_length (model.record_refusal lim) ms l in
            let z =
            sym (each_at (model.record_refusal lim) ms l i past_record 0 h)
            ∙ all_at (λ (m : ℕ). m ≡ 0) (checks o) i 0 fine.checked (omega arith) in
            fit_from lim (get_or ms i past_record) (own_of ms l i) z
            (all_at (λ (r : model.Record). count_of r ≤ 60) ms i past_record fine.lists.counts h);
        for_extents = omega arith;
        for_starts = omega arith;
        for_files = omega arith;
      }

  module _ {xs ss fs : List ℕ} {gs : List Region} (f : Filled ms l xs₀ xs ss₀ ss fs₀ fs gs) (last : ℕ)
      (t : last ≡ model.highest (map seq_of ms)) {acc : Accounting} (c : Accounted lim ms acc) where
    abbrev plan : Plan
    plan = record { limits = lim; last = last; count = length rs; regions = gs; accounts = acc }

    front : length (take (length rs) gs) ≡ length rs
    front = let b = build_few in length-take-le (length rs) gs (omega (arith, f.rows.full))

    -- region i
    at : (i : ℕ) → i < length rs → InRow ms l xs ss fs (take (length rs) gs) i
    at i h =
        rw (get_or-take (length rs) gs i past_region h) (f.each i (omega (arith, h, length-map rs record_of)))

    means : (i : ℕ) → i < length rs → region_of xs (get_or (take (length rs) gs) i past_region)
        ≡ model.region_from (get_or ms i past_record) (own_of ms l i)
    means i h =
        let r = at i h in
        ap (λ (k : ℕ). region_with (row_in k (pairs xs)) (get_or (take (length rs) gs) i past_region)) r.row ∙ r.means

    maps : (i : ℕ) → i < length rs → Mapped xs ss fs (get_or (take (length rs) gs) i past_region)
    maps i h =
        let r = at i h in
        let g : Region = get_or (take (length rs) gs) i past_region in
        record {
          count = r.count;
          room = r.room;
          valid = subst (λ (k : ℕ). regionmap.Valid g.map (row_in k ss) (row_in k fs)) (sym r.row) r.valid;
          lays =
              subst
              (λ (k : ℕ). regionmap.Lays (regionmap.placement_of g.map (row_in k ss) (row_in k fs)) (take g.extent_count (row_in k (pairs xs))))
              (sym r.row) r.lays;
        }

    regions : map (region_of xs) (take (length rs) gs) ≡ model.each_record model.region_from ms l
    regions =
        let b = length-map (take (length rs) gs) (region_of xs) in
        let d = each_length model.region_from ms l in
        let e = length-map rs record_of in
        let g = front in
        ext_get_or model_region.no_region (map (region_of xs) (take (length rs) gs)) (model.each_record model.region_from ms l)
        (omega arith)
        (λ i h.
        get_or-map (region_of xs) (take (length rs) gs) i past_region model_region.no_region (omega arith) ∙ means i (omega arith)
        ∙ sym (each_at model.region_from ms l i past_record model_region.no_region (omega arith)))

    rows : map cap_of (rows_of plan) ≡ model.rows_for (map (λ (r : model.Record). r.tag) ms)
    rows = ap (λ (q : accounting.Table). map cap_of q.rows) c.table ∙ rows_are lim ms

    world : world_of plan xs ≡ model.opened o
    unfolding world_of
    world = rw (regions, rows, t)

    distinct : Distinct (map row_of gs)
    distinct =
        let b = length-map gs row_of in
        let e = f.rows.full in
        at_distinct (map row_of gs) 0
        (λ i j k h q.
        let u = get_or-map row_of gs i past_region 0 (omega arith) ∙ f.rows.row i (omega arith) in
        let v = get_or-map row_of gs j past_region 0 (omega arith) ∙ f.rows.row j (omega arith) in
        omega arith)

    accounted : (tag : ℕ) → accounting.row_of tag (rows_of plan) ≡ account_of (model.opened o) tag
    accounted tag =
        let m = held_most (model.opened o) sound in
        let u = logical_most (model.opened o) sound tag in
        let v = physical_most (model.opened o) sound tag in
        ap (λ (q : accounting.Table). accounting.row_of tag q.rows) c.table
        ∙ row_is lim ms l fine.checked m tag _ _ refl refl (omega arith) (omega arith)

    pub built : Built lim rs l xs₀ xs ss₀ ss fs₀ fs plan
    built =
        let k = build_fits in
        let q = length_pairs xs in
        record {
          valid =
              record {
                full = f.rows.full;
                few = build_few;
                extents = omega (arith, k.for_extents, f.extents.size);
                starts = omega (arith, k.for_starts, f.starts.size);
                files = omega (arith, k.for_files, f.files.size);
                rows = distinct;
                inside =
                    all_of (λ (g : Region). g.row < 64) gs past_region
                    (λ i h. let e = f.rows.row i (omega (arith, h, f.rows.full)) in omega (arith, e, h, f.rows.full));
                mapped = all_of (Mapped xs ss fs) (take (length rs) gs) past_region (λ i h. maps i (omega (arith, h, front)));
                accounts = c.valid;
                accounted = λ tag. accounted tag ∙ ap (λ (w : World). account_of w tag) (sym world);
                sound = subst model_sound.Sound (sym world) sound;
              };
          world = λ scratch room. world;
          extents = f.extents;
          starts = f.starts;
          files = f.files;
        }
