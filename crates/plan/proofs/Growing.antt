-- What each return of `grow` promises.
use Rattle.plan_record.proofs.Places.{found_is}
use Rattle.plan_record.specs.Promises.{Fits}
use Rattle.numbers.specs.declared.refusal.Refusal.TheVariants.{Lists, Full, OverCap, NoRoom, SlotGrows, Unknown}
use Rattle.numbers.specs.declared.refusal.Refusal.{Refusal}
use Prim.Native.Nat.{ℕ, ◌+◌, ◌-◌, ◌*◌, ◌≤◌, ◌<◌, min}
use mathlib.Core.Bool.{Bool, true, false, not}
use mathlib.Core.List.{List, [], ◌∷◌, ◌++◌}
use mathlib.Core.Logic.{inl, inr}
use Rattle.std.specs.Prelude.{Some, None, Ok, Err, Result, Option}
use mathlib.Core.Path.{◌≡◌, refl, ap, sym, subst, ◌∙◌}
use native.Mathlib.Numerals.{add-one}
use native.Mathlib.Omega.{arith}
use lib.Dec.{eqb, leb}
use lib.ListN.{length, take, set, get_or, length-take}
use lib.Seq.{take-suc-set, length-take-le, get_or-set_same}
use borrow.Author.Tests.{le-leb, lt-leb, lt-ltb}
use borrow.Rule.Slice.PartMut.{mid_of, put_mid, put_same}
use Rattle.accounting.specs.declared.Posted.{Posted}
use Rattle.footprint.specs.Footprint.{kind_code}
use Rattle.footprint.specs.declared.RegionKind.TheVariants.{Slot}
use Rattle.model.specs.Span.{least_free}
use Rattle.numbers.specs.Pairs.{pairs}
use Rattle.numbers.specs.Range.{range}
use Rattle.numbers.specs.Refusals.{refuse, first, accepted, refusal_number}
use Rattle.numbers.specs.Sums.{top, stop}
use Rattle.plan_record.specs.Inner.{block_in}
use Rattle.plan_record.specs.Plan.{row_in, places, lists_short, region_of, regions_of, world_of, Mapped, Valid, spot_of, place_in, past_region, reply_of}
use Rattle.plan_record.specs.declared.Plan.{Plan}
use Rattle.plan_record.specs.declared.Region.{Region}
use Rattle.plan.specs.Calls.{Called, Grows, OnePlace}
use Rattle.plan.specs.Inner.{refusing, stretched, len_at, GrowTested}
use Rattle.regionmap.specs.declared.RegionMap.{RegionMap}
use Rattle.sort.specs.Places.{range_of, Put}
use Rattle.sort.specs.declared.pair.Pair.{Pair}
use Rattle.tagspace.specs.Row.{add_usage}
use Rattle.model.proofs.Change.{step_len_some}
use Rattle.model.proofs.Figures.{footprint-len, held_and_free}
use Rattle.model.proofs.Regions.{known_true, if_tag}
use Rattle.model.proofs.Spans.{least_found}
use Rattle.model.proofs.Steps.{grown_next, next_accepted}
use Rattle.model.proofs.Totals.{grow_physical, grow_logical, drop_held}
use Rattle.numbers.proofs.Answers.{accepted_is, answer_value, same_value, not_both, no_error}
use Rattle.numbers.proofs.Cases.{clash}
use Rattle.numbers.proofs.Refusals.{none_first, pass_none, first_go, first_stop, first_one, reason_above}
use Rattle.plan_record.proofs.Changing.{Stays, with_region, world_changed, changed_valid}
use Rattle.plan_record.proofs.Holding.{block_is}
use Rattle.plan_record.proofs.Known.{region_at, known_is, known_not, region_is, mapped_is, row_is, rows_differ, counted_is, tagged_is}
use Rattle.plan_record.proofs.Rows.{row_length, row_own, row_held}
use Rattle.plan_record.proofs.Tags.{Taken, posting_taken, row_no_full, rows_stay, accounted_added, if_none}
use Rattle.plan.proofs.Asking.{asked_full, asked_fits}
use Rattle.plan.proofs.Refusing.{called_refused, called_accepted, Accepts, valid_long}
use Rattle.plan.proofs.Slots.{few_not, place_length, place_other, place_one, place_row}
use Rattle.regionmap.proofs.ByExtents.{extend_goes}
use Rattle.regionmap.proofs.Bytes.{lays_extended}
use Rattle.regionmap.proofs.Means.{some_run}
use Rattle.accounting.specs.Table as accounting
use Rattle.model.specs.Calls as model
use Rattle.model.specs.Region as region
use Rattle.model.specs.World as world
use Rattle.regionmap.specs.Map as regionmap

-- a refused grow leaves the lists
module _ (p : Plan) (id : ℕ) (xs ss fs : List ℕ) where
  pub grows_refused : {n : Refusal} → lists_short xs ss fs ≡ false → Called p (model.grow id) xs ss fs xs ss fs (refusing p n) → Grows p (model.grow id) id xs ss fs xs ss fs (refusing p n)
  grows_refused h k = record { called = k; short = λ z. clash z h; extents = inl refl; starts = inl refl; files = inl refl; odd = refl }

  pub grows_short : lists_short xs ss fs ≡ true → Grows p (model.grow id) id xs ss fs xs ss fs (refusing p Lists)
  grows_short h =
      record {
        called = called_refused p (model.grow id) xs ss fs Lists (λ v. clash h (valid_long xs ss fs p v));
        short = λ z. refl;
        extents = inl refl;
        starts = inl refl;
        files = inl refl;
        odd = refl;
      }

-- ---- the region at a place, of a valid plan

-- the step as the code computes it
pub len-at : (p : Plan) (i : ℕ) {s b : ℕ} → s ≡ model.step (region_at p i).extent_count → b ≡ block_in p → s * b ≡ len_at p i
len-at p i e h = rw (e, h)

module _ (p : Plan) (xs ss fs : List ℕ) (v : Valid p xs ss fs) (i : ℕ) (inside : i < length (regions_of p)) (id : ℕ) (e : i ≡ spot_of p id) where
  abbrev own : region.Region
  own = model.region_in (world_of p xs) id

  known_region : model.known (world_of p xs) id ≡ true
  known_region = known_is p xs id ∙ lt-ltb (spot_of p id) (length (regions_of p)) (omega arith)

  region_here : own ≡ region_of xs (region_at p i)
  region_here = region_is p xs i inside id e

  -- how many extents it has
  count_is : length own.extents ≡ (region_at p i).extent_count
  count_is =
      let t = mapped_is p xs ss fs v i inside in
      ap (λ (r : region.Region). length r.extents) region_here
      ∙ length-take-le (region_at p i).extent_count (row_in (region_at p i).row (pairs xs))
      (omega (arith, t.count, row_length (pairs xs) (region_at p i).row (row_is p xs ss fs v i inside) v.extents))

  len_is : len_at p i ≡ model.step_len (world_of p xs) own
  len_is =
      ap (λ (n : ℕ). model.step n * block_in p) (sym count_is)
      ∙ ap (λ (n : ℕ). model.step (length own.extents) * n) (block_is p xs ss fs v)

  slot_is : eqb (kind_code own.kind) (kind_code Slot) ≡ eqb (kind_code (region_at p i).kind) (kind_code Slot)
  slot_is = ap (λ (r : region.Region). eqb (kind_code r.kind) (kind_code Slot)) region_here

  few : (region_at p i).extent_count < 60 → leb 60 (length own.extents) ≡ false
  few l = let n = count_is in lt-leb 60 (length own.extents) (omega arith)

  tag_not : model.tag_full (world_of p xs) (region_at p i).tag ≡ false
  tag_not = row_no_full (world_of p xs) (region_at p i).tag (tagged_is p xs ss fs v i inside)

  cap_here : (q : Result Bool Refusal) → accounting.Allows p.accounts (region_at p i).tag (len_at p i) q → (b : Bool) → q ≡ Ok b
      → model.cap_fails (world_of p xs) own.tag (model.step_len (world_of p xs) own) ≡ not b
  cap_here q o b h =
      ap (λ (r : region.Region). model.cap_fails (world_of p xs) r.tag (model.step_len (world_of p xs) own)) region_here
      ∙ ap (model.cap_fails (world_of p xs) (region_at p i).tag) (sym len_is)
      ∙ (asked_fits p xs ss fs v (region_at p i).tag (len_at p i) q o b h).1

-- ---- the tests before that of room

module _ (p : Plan) (i : ℕ) (inside : i < length (regions_of p)) where
  tested : (e : Refusal)
      → ((xs ss fs : List ℕ) → Valid p xs ss fs → (id : ℕ) → i ≡ spot_of p id → first (model.grow_tests (world_of p xs) id) ≡ refusal_number e) → GrowTested p i (refusal_number e)
  tested e t = record { told = t; few = λ z. absurd (let h = reason_above e in omega arith) }

  module _ (b : Bool) (b₀ : b ≡ eqb (kind_code (region_at p i).kind) (kind_code Slot)) where
    pub grow_slot : b ≡ true → GrowTested p i 17
    unfolding first refuse
    grow_slot h =
        tested SlotGrows
        (λ xs ss fs v id e. simp (known_region p xs ss fs v i inside id e, slot_is p xs ss fs v i inside id e ∙ sym b₀ ∙ h))

    module _ (t₁₇ : b ≡ false) where
      pub grow_full : 60 ≤ (region_at p i).extent_count → GrowTested p i 19
      unfolding first refuse
      grow_full h =
          tested Full
          (λ xs ss fs v id e.
          let n = count_is p xs ss fs v i inside id e in
          let q : 60 ≤ length (model.region_in (world_of p xs) id).extents = omega arith in
          simp (known_region p xs ss fs v i inside id e, slot_is p xs ss fs v i inside id e ∙ sym b₀ ∙ t₁₇, le-leb _ _ q))

      module _ (t₁₉ : (region_at p i).extent_count < 60) (len : ℕ) (l₀ : len ≡ len_at p i) (q : Result Bool Refusal) (o₀ : accounting.Allows p.accounts (region_at p i).tag len q) where
        o : accounting.Allows p.accounts (region_at p i).tag (len_at p i) q
        o = subst (λ (n : ℕ). accounting.Allows p.accounts (region_at p i).tag n q) l₀ o₀

        -- the tag has a row, so it is no 97th
        pub grow_tags : (e : Refusal) → q ≡ Err e → GrowTested p i (refusal_number e)
        grow_tags e h =
            tested e
            (λ xs ss fs v id y.
            absurd (clash (asked_full p xs ss fs v (region_at p i).tag (len_at p i) q o e h).0 (tag_not p xs ss fs v i inside id y)))

        module _ (c : Bool) (a : q ≡ Ok c) where
          pub grow_capped : c ≡ false → GrowTested p i 21
          unfolding first refuse
          grow_capped h =
              tested OverCap
              (λ xs ss fs v id e.
              simp (
                known_region p xs ss fs v i inside id e,
                slot_is p xs ss fs v i inside id e ∙ sym b₀ ∙ t₁₇,
                few p xs ss fs v i inside id e t₁₉,
                cap_here p xs ss fs v i inside id e q o c a ∙ ap not h,
              ))

          pub grow_passed : c ≡ true → GrowTested p i 0
          grow_passed h =
              record {
                told = λ xs ss fs v id e.
                    none_first _ (
                      pass_none 16 _ (ap not (known_region p xs ss fs v i inside id e)),
                      (
                        pass_none 17 _ (slot_is p xs ss fs v i inside id e ∙ sym b₀ ∙ t₁₇),
                        (pass_none 19 _ (few p xs ss fs v i inside id e t₁₉), (pass_none 21 _ (cap_here p xs ss fs v i inside id e q o c a ∙ ap not h), tt)),
                      ),
                    );
                few = λ z. t₁₉;
              }

-- ---- the returns

module _ (p : Plan) (xs ss fs : List ℕ) (id : ℕ) where
  abbrev c : model.Call
  c = model.grow id

  abbrev Refuses : Refusal → Type 0
  Refuses n = Called p c xs ss fs xs ss fs (refusing p n)

  pub grow_unknown : place_in p id ≡ None → Refuses Unknown
  unfolding model.refusal_to first refuse
  grow_unknown e = called_refused p c xs ss fs Unknown (λ v. let k = known_not p xs id e in simp k)

  module _ (i : ℕ) (f₀ : place_in p id ≡ Some i) where
    abbrev g : Region
    g = region_at p i

    e : i ≡ spot_of p id
    e = (found_is p id i f₀).0

    inside : i < length (regions_of p)
    inside = (found_is p id i f₀).1

    pub grow_refused : (n : Refusal) → GrowTested p i (refusal_number n) → Refuses n
    unfolding model.refusal_to
    grow_refused n t =
        called_refused p c xs ss fs n
        (λ v.
        let h = reason_above n in
        let k = t.told xs ss fs v id e in
        first_stop (model.grow_tests (world_of p xs) id) _ (λ z. omega arith) ∙ k)

    module _ (t : GrowTested p i 0) (len : ℕ) (l₀ : len ≡ len_at p i) (r₀ : Result (Option ℕ) Refusal) (s : Fits p len xs r₀) where
      t₁₉ : g.extent_count < 60
      t₁₉ = t.few refl

      tests : (v : Valid p xs ss fs) → first (model.grow_tests (world_of p xs) id) ≡ 0
      tests v = t.told xs ss fs v id e

      len_here : (v : Valid p xs ss fs) → len ≡ model.step_len (world_of p xs) (model.region_in (world_of p xs) id)
      len_here v = l₀ ∙ len_is p xs ss fs v i inside id e

      some_bytes : (v : Valid p xs ss fs) → 0 < len
      some_bytes v = let h = step_len_some (world_of p xs) (model.region_in (world_of p xs) id) in omega (arith, len_here v)

      -- the least free span, as it was looked for
      least : (v : Valid p xs ss fs) → reply_of r₀ ≡ accepted (least_free (world_of p xs) (model.step_len (world_of p xs) (model.region_in (world_of p xs) id)))
      least v = s.told ss fs v (some_bytes v) ∙ ap (λ (n : ℕ). accepted (least_free (world_of p xs) n)) (len_here v)

      pub grow_lost : (n : Refusal) → r₀ ≡ Err n → Refuses n
      grow_lost n h = called_refused p c xs ss fs n (λ v. absurd (not_both _ _ (sym (least v) ∙ ap reply_of h)))

      pub grow_no_room : r₀ ≡ Ok None → Refuses NoRoom
      unfolding model.refusal_to model.room_fails refuse
      grow_no_room h =
          called_refused p c xs ss fs NoRoom
          (λ v.
          let y : least_free (world_of p xs) (model.step_len (world_of p xs) (model.region_in (world_of p xs) id)) ≡ None = same_value _ _ (sym (least v) ∙ ap reply_of h) in
          first_go (model.grow_tests (world_of p xs) id) _ (tests v) ∙ first_one _ ∙ rw y)

      module _ (at : ℕ) (t₂₂ : r₀ ≡ Ok (Some at)) (q : Posted) (o : accounting.Posts p.accounts (accounting.on_row g.tag (add_usage 0 len)) q) where
        taken : (v : Valid p xs ss fs) → Taken p xs ss fs v g.tag (add_usage 0 len) (λ r. refl) q
        taken v = posting_taken p xs ss fs v g.tag _ (λ r. refl) q o (row_no_full (world_of p xs) g.tag (tagged_is p xs ss fs v i inside))

        pub grow_never : (n : Refusal) → q.answer ≡ Err n → Refuses n
        grow_never n h = called_refused p c xs ss fs n (λ v. absurd (no_error tt n (sym (taken v).number ∙ h)))

        known_at : (v : Valid p xs ss fs) → model.known (world_of p xs) id ≡ true
        known_at v = known_region p xs ss fs v i inside id e

        region-at : (v : Valid p xs ss fs) → model.region_in (world_of p xs) id ≡ region_of xs g
        region-at v = region_here p xs ss fs v i inside id e

        module _ (j : ℕ) (j₀ : j ≡ min g.row 63) (long : places ≤ length ss) (longer : places ≤ length fs) (ss₁ fs₁ : List ℕ) (r' : Result RegionMap Refusal) where
          abbrev part_of : List ℕ → List ℕ
          part_of l = mid_of (60 * j) (60 * j + 60 - 60 * j) l

          abbrev ss' : List ℕ
          ss' = put_mid (60 * j) (60 * j + 60 - 60 * j) ss ss₁

          abbrev fs' : List ℕ
          fs' = put_mid (60 * j) (60 * j + 60 - 60 * j) fs fs₁

          module _ (x : regionmap.Extended g.map at len (part_of ss) ss₁ (part_of fs) fs₁ r') where
            below : j < 64
            below = omega arith

            starts_one : OnePlace j ss ss'
            starts_one = place_one ss j below long (regionmap.takes_place g.map r') g.map.count g.map.capacity ss₁ x.starts

            files_one : OnePlace j fs fs'
            files_one = place_one fs j below longer (regionmap.takes_place g.map r') g.map.count at fs₁ x.files

            module _ (v : Valid p xs ss fs) where
              abbrev w : world.World
              w = world_of p xs

              mapped_here : Mapped xs ss fs g
              mapped_here = mapped_is p xs ss fs v i inside

              row_here : g.row < 64
              row_here = row_is p xs ss fs v i inside

              j_is : j ≡ g.row
              j_is = let h = row_here in omega arith

              placed : least_free w (model.step_len w (model.region_in w id)) ≡ Some at
              placed = same_value _ _ (sym (least v) ∙ ap reply_of t₂₂)

              ends_low : at + len ≤ top
              unfolding world_of
              ends_low =
                  let u = (least_found w _ at placed).free.upto in
                  omega (arith, len_here v, v.sound.container.file)

              -- the capacity is at most what is held
              whole_low : g.map.capacity + len ≤ top
              unfolding world_of
              whole_low =
                  let u = (least_found w _ at placed).free.upto in
                  let d = drop_held w id (known_true w id (known_at v)) in
                  let h = held_and_free w v.sound in
                  let y = footprint-len w.limits (model.region_in w id) in
                  let k = ap region.capacity (region-at v) ∙ sym mapped_here.lays.capacity in
                  omega (arith, len_here v, v.sound.container.file)

              -- the map before, in its row
              valid_part : regionmap.Valid g.map (part_of ss) (part_of fs)
              valid_part = rw (row_held ss g.row j j₀ row_here, row_held fs g.row j j₀ row_here) mapped_here.valid

              lays_part : regionmap.Lays (regionmap.placement_of g.map (part_of ss) (part_of fs)) (region_of xs g).extents
              lays_part = rw (row_held ss g.row j j₀ row_here, row_held fs g.row j j₀ row_here) mapped_here.lays

              goes : regionmap.extend_refusal (regionmap.placement_of g.map (part_of ss) (part_of fs)) at len (part_of ss) (part_of fs) ≡ 0
              goes =
                  let n = ap (λ (y : region.Region). length y.extents) (sym (region-at v)) ∙ count_is p xs ss fs v i inside id e in
                  extend_goes _ _ lays_part at len (part_of ss) (part_of fs)
                  (few_not g.map.room (part_of ss) (part_of fs)
                  (omega (arith, mapped_here.room, ap length (row_held ss g.row j j₀ row_here), row_length ss g.row row_here long))
                  (omega (arith, mapped_here.room, ap length (row_held fs g.row j j₀ row_here), row_length fs g.row row_here longer)))
                  (some_bytes v) ends_low whole_low (omega (arith, mapped_here.room, n, t₁₉))

              answered : regionmap.outcome_of r' ss₁ fs₁ ≡ accepted (regionmap.extended (regionmap.placement_of g.map (part_of ss) (part_of fs)) at len)
              answered = x.answer valid_part ∙ answer_value _ _ goes

            -- the room is never short
            pub grow_stuck : (k : Refusal) → r' ≡ Err k → lists_short xs ss fs ≡ false → Grows p c id xs ss fs xs ss' fs' (refusing p k)
            grow_stuck k w₀ h =
                let y : ss₁ ≡ part_of ss = x.starts ∙ rw w₀ in
                let z : fs₁ ≡ part_of fs = x.files ∙ rw w₀ in
                let a' : ss' ≡ ss = ap (put_mid (60 * j) (60 * j + 60 - 60 * j) ss) y ∙ put_same (60 * j) (60 * j + 60 - 60 * j) ss in
                let b' : fs' ≡ fs = ap (put_mid (60 * j) (60 * j + 60 - 60 * j) fs) z ∙ put_same (60 * j) (60 * j + 60 - 60 * j) fs in
                rw (a', b')
                (grows_refused p id xs ss fs h
                (called_refused p c xs ss fs k (λ v. absurd (not_both _ _ (sym (answered v) ∙ ap (λ (u : Result RegionMap Refusal). regionmap.outcome_of u ss₁ fs₁) w₀)))))

            module _ (next : RegionMap) (w₀ : r' ≡ Ok next) (xs' : List ℕ) (pr : Pair) (pr₀ : range_of pr ≡ range at len) (u : Put xs (60 * j + g.extent_count) pr xs') where
              abbrev g' : Region
              g' = stretched g next at len

              abbrev p' : Plan
              p' = with_region p i g' q.accounts

              pairs_next : pairs xs' ≡ set (pairs xs) (60 * j + g.extent_count) (range at len)
              pairs_next = u.stored ∙ rw pr₀

              extents_one : OnePlace j (pairs xs) (pairs xs')
              extents_one = inr (g.extent_count, range at len, t₁₉, pairs_next)

              module _ (v : Valid p xs ss fs) where
                placement_next : regionmap.placement_of next ss₁ fs₁ ≡ regionmap.extended (regionmap.placement_of g.map (part_of ss) (part_of fs)) at len
                placement_next = same_value _ _ (sym (ap (λ (y : Result RegionMap Refusal). regionmap.outcome_of y ss₁ fs₁) w₀) ∙ answered v)

                starts_row : row_in g.row ss' ≡ ss₁
                starts_row = ap (λ (k : ℕ). row_in k ss') (sym (j_is v)) ∙ place_row ss j below long (regionmap.takes_place g.map r') g.map.count g.map.capacity ss₁ x.starts

                files_row : row_in g.row fs' ≡ fs₁
                files_row = ap (λ (k : ℕ). row_in k fs') (sym (j_is v)) ∙ place_row fs j below longer (regionmap.takes_place g.map r') g.map.count at fs₁ x.files

                extents_next : take (g.extent_count + 1) (row_in g.row (pairs xs')) ≡ (region_of xs g).extents ++ (range at len ∷ [])
                extents_next =
                    let n = row_length (pairs xs) g.row (row_here v) v.extents in
                    rw (pairs_next, j_is v, row_own (pairs xs) g.row g.extent_count (range at len) t₁₉, add-one)
                    (take-suc-set (row_in g.row (pairs xs)) g.extent_count (range at len) (omega (arith, t₁₉)))

                mapped_next : Mapped xs' ss' fs' g'
                mapped_next =
                    record {
                      count = omega (arith, t₁₉);
                      room = ap (λ (y : regionmap.Placement). y.room) placement_next ∙ (mapped_here v).room;
                      valid =
                          rw (starts_row, files_row)
                          (subst (λ (y : Result RegionMap Refusal). regionmap.HandsValid y ss₁ fs₁) w₀ (x.valid (valid_part v)));
                      lays =
                          rw (starts_row, files_row, extents_next, placement_next)
                          (lays_extended _ _ at len (some_run g.map (part_of ss) (part_of fs)) (lays_part v) (some_bytes v) (whole_low v) (ends_low v));
                    }

                region_next : region_of xs' g' ≡ model.grown at (model.step_len (w v) (model.region_in (w v) id)) (region_of xs g)
                region_next =
                    let m = ap (λ (y : regionmap.Placement). y.len) placement_next in
                    let h : stop (at + len) ≡ at + len = let n = ends_low v in omega arith in
                    rw (extents_next, m, h, len_here v)

                others : (k : ℕ) → k < length (regions_of p) → (k ≡ i → ⊥) → Stays xs ss fs xs' ss' fs' (region_at p k)
                others k h d =
                    let n = counted_is p xs ss fs v in
                    let y : (region_at p k).row ≡ j → ⊥ = λ z. rows_differ p xs ss fs v i inside k (omega (arith, v.few)) d (z ∙ j_is v) in
                    record {
                      extents = place_other j (pairs xs) (pairs xs') extents_one (region_at p k).row y;
                      starts = place_other j ss ss' starts_one (region_at p k).row y;
                      files = place_other j fs fs' files_one (region_at p k).row y;
                    }

                world_next : world_of p' xs' ≡ model.grown_at (w v) id at
                world_next =
                    world_changed p xs ss fs v i inside g' q.accounts xs' ss' fs' others id _ e region_next
                    (rows_stay p xs ss fs v g.tag _ (λ r. refl) (tagged_is p xs ss fs v i inside) q.accounts (taken v).table)

                accepts : Accepts p c xs ss fs xs' ss' fs' (Some at) p' v
                unfolding model.byte_for
                accepts =
                    let n = grown_next (w v) id at (tests v) (placed v) in
                    let z = (accepted_is _ _ _ n.0).0 in
                    let k = known_true (w v) id (known_at v) in
                    record {
                      passes = z;
                      byte = sym (placed v);
                      world = world_next ∙ sym n.1 ∙ next_accepted (w v) c z;
                      valid = λ so.
                          changed_valid p xs ss fs v i inside g' q.accounts xs' ss' fs' others refl mapped_next
                          (omega (arith, place_length j (pairs xs) (pairs xs') extents_one, v.extents))
                          (omega (arith, place_length j ss ss' starts_one, v.starts))
                          (omega (arith, place_length j fs fs' files_one, v.files))
                          (taken v).valid
                          (accounted_added p xs ss fs v g.tag 0 len p' xs' (ap (λ (y : accounting.Table). y.rows) (taken v).table)
                          (λ t. ap (λ (y : world.World). world.logical y t) world_next ∙ grow_logical (w v) id k at t ∙ if_none g.tag t _)
                          (λ t.
                          ap (λ (y : world.World). world.physical y t) world_next ∙ grow_physical (w v) id k at t
                          ∙ ap (λ (y : region.Region). world.physical (w v) t + if_tag y.tag t (model.step_len (w v) (model.region_in (w v) id))) (region-at v)
                          ∙ ap (λ (y : ℕ). world.physical (w v) t + if_tag g.tag t y) (sym (len_here v)))
                          so)
                          so;
                    }

              -- the row in the plan handed back
              named_row : length p.regions ≡ 64 → j ≡ min (get_or p'.regions (spot_of p id) past_region).row 63
              named_row f =
                  let n = length-take p.count p.regions in
                  j₀ ∙ ap (λ (y : Region). min y.row 63)
                  (sym (ap (λ (k : ℕ). get_or (set p.regions i g') k past_region) (sym e) ∙ get_or-set_same p.regions i g' past_region (omega (arith, inside))))

              pub grow_done : length p.regions ≡ 64 → lists_short xs ss fs ≡ false → Grows p c id xs ss fs xs' ss' fs' (record { reply = Ok (Some at); plan = p' })
              grow_done f h =
                  let k = named_row f in
                  record {
                    called = called_accepted p c xs ss fs xs' ss' fs' (Some at) p' accepts;
                    short = λ z. clash z h;
                    extents = subst (λ (y : ℕ). OnePlace y (pairs xs) (pairs xs')) k extents_one;
                    starts = subst (λ (y : ℕ). OnePlace y ss ss') k starts_one;
                    files = subst (λ (y : ℕ). OnePlace y fs fs') k files_one;
                    odd = u.behind;
                  }
