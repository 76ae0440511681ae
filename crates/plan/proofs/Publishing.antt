-- What each return of `publish` promises.
use Rattle.plan_record.proofs.Places.{found_is}
use Rattle.numbers.specs.declared.refusal.Refusal.TheVariants.{Unknown, NoMultiple}
use Rattle.numbers.specs.declared.refusal.Refusal.{Refusal}
use Rattle.std.specs.Prelude.{Ok, Err, Some, None, Result}
use Prim.Native.Nat.{ℕ, ◌+◌, ◌-◌, ◌%◌, ◌^◌, ◌≤◌, ◌<◌, min, max}
use mathlib.Core.Bool.{true}
use mathlib.Core.List.{List, []}
use mathlib.Core.Logic.{⊎_elim}
use mathlib.Core.Path.{◌≡◌, refl, ap, sym, subst, ◌∙◌}
use native.Mathlib.Omega.{arith}
use lib.Dec.{ltb}
use lib.ListN.{length}
use borrow.Author.Tests.{eq-eqb, ne_eqb, lt-ltb, le-ltb}
use Rattle.accounting.specs.declared.Posted.{Posted}
use Rattle.model.specs.Calls.{publish, known, region_in, refusal_to, byte_for, accept, published_to, published_at}
use Rattle.numbers.specs.Refusals.{refuse, first, refusal_number, answer, refused}
use Rattle.plan_record.specs.Plan.{row_in, region_of, regions_of, world_of, Mapped, Valid, spot_of, place_in}
use Rattle.plan_record.specs.declared.Plan.{Plan}
use Rattle.plan_record.specs.declared.Region.{Region}
use Rattle.plan.specs.Calls.{Changes}
use Rattle.plan.specs.Inner.{refusing}
use Rattle.regionmap.specs.declared.RegionMap.{RegionMap}
use Rattle.tagspace.specs.Row.{add_usage}
use Rattle.model.proofs.Regions.{known_true, if_tag}
use Rattle.model.proofs.Totals.{publish_physical, publish_logical}
use Rattle.numbers.proofs.Answers.{accepted_is, one_passes, one_fails, not_both, same_number, no_error}
use Rattle.numbers.proofs.Cases.{by_lt}
use Rattle.plan_record.proofs.Changing.{with_region, stays_same, world_changed, changed_valid}
use Rattle.plan_record.proofs.Known.{region_at, known_here, known_not, region_is, mapped_is, log_most, regular_is, tagged_is}
use Rattle.plan_record.proofs.Tags.{Taken, posting_taken, row_no_full, rows_stay, accounted_added, if_none, if_more}
use Rattle.plan.proofs.Refusing.{called_refused, called_accepted, Accepts}
use Rattle.regionmap.proofs.Bytes.{lays_published}
use Rattle.accounting.specs.Table as accounting
use Rattle.model.specs.Region as model
use Rattle.model.specs.World as world
use Rattle.regionmap.specs.Map as regionmap

module _ (p : Plan) (id len : ℕ) where
  pub publish_unknown : place_in p id ≡ None → Changes p (publish id len) (refusing p Unknown)
  unfolding refusal_to first refuse
  publish_unknown e =
      record { called = λ xs ss fs. called_refused p (publish id len) xs ss fs Unknown (λ v. let k = known_not p xs id e in simp k) }

  module _ (i : ℕ) (f₀ : place_in p id ≡ Some i) where
    abbrev g : Region
    g = region_at p i

    e : i ≡ spot_of p id
    e = (found_is p id i f₀).0

    inside : i < length (regions_of p)
    inside = (found_is p id i f₀).1

    module _ (b : ℕ) (d : b ≡ 2 ^ min g.log2_block 16) where
      -- the header's block
      block_same : (xs ss fs : List ℕ) → Valid p xs ss fs → b ≡ 2 ^ (region_in (world_of p xs) id).log2
      block_same xs ss fs v =
          let r = regular_is p xs ss fs v i inside in
          let h : min g.log2_block 16 ≡ g.log2_block = ⊎_elim (λ q. omega arith) (λ q. omega (arith, q, log_most p xs ss fs v)) r.log in
          d ∙ ap (λ (n : ℕ). 2 ^ n) h ∙ sym (ap (λ (q : model.Region). 2 ^ q.log2) (region_is p xs i inside id e))

      pub publish_odd : (len % b ≡ 0 → ⊥) → Changes p (publish id len) (refusing p NoMultiple)
      unfolding refusal_to first refuse
      publish_odd n =
          record {
            called = λ xs ss fs.
                called_refused p (publish id len) xs ss fs NoMultiple
                (λ v.
                let k = known_here p xs id i f₀ in
                let q = block_same xs ss fs v in
                simp (k, ne_eqb (len % 2 ^ (region_in (world_of p xs) id).log2) 0 (λ z. n (ap (λ (c : ℕ). len % c) q ∙ z))));
          }

      module _ (z : len % b ≡ 0) where
        multiple : (xs ss fs : List ℕ) → Valid p xs ss fs → len % 2 ^ (region_in (world_of p xs) id).log2 ≡ 0
        multiple xs ss fs v = ap (λ (c : ℕ). len % c) (sym (block_same xs ss fs v)) ∙ z

        -- the capacity is that of the map
        capacity_is : (xs ss fs : List ℕ) → Valid p xs ss fs → model.capacity (region_in (world_of p xs) id) ≡ g.map.capacity
        capacity_is xs ss fs v = ap model.capacity (region_is p xs i inside id e) ∙ sym (mapped_is p xs ss fs v i inside).lays.capacity

        -- the answer is 23 where a map answers so
        pub publish_past : (r : Result RegionMap Refusal) (n : Refusal) → regionmap.Published g.map len r → r ≡ Err n → Changes p (publish id len) (refusing p n)
        unfolding refusal_to first refuse
        publish_past r n u w =
            let o : answer (refuse 23 (ltb g.map.capacity len)) (regionmap.published (regionmap.placement_of g.map [] []) len) ≡ refused (refusal_number n) =
            sym (u.answer [] []) ∙ ap (λ (q : Result RegionMap Refusal). regionmap.outcome_of q [] []) w in
            let t : g.map.capacity < len =
            by_lt g.map.capacity len (λ h. h) (λ h. absurd (not_both _ _ (sym (one_passes 23 _ _ (le-ltb _ _ h)) ∙ o))) in
            let f : 23 ≡ refusal_number n = same_number _ _ (sym (one_fails 23 _ _ (omega arith) (lt-ltb _ _ t)) ∙ o) in
            record {
              called = λ xs ss fs.
                  called_refused p (publish id len) xs ss fs n
                  (λ v.
                  let k = known_here p xs id i f₀ in
                  let c = capacity_is xs ss fs v in
                  let q : model.capacity (region_in (world_of p xs) id) < len = omega arith in
                  simp (k, eq-eqb _ _ (multiple xs ss fs v), lt-ltb _ _ q) f);
            }

        module _ (next : RegionMap) (r₀ : Result RegionMap Refusal) (u₀ : regionmap.Published g.map len r₀) (w₀ : r₀ ≡ Ok next) where
          u : regionmap.Published g.map len (Ok next)
          u = subst (regionmap.Published g.map len) w₀ u₀

          placed : (ss fs : List ℕ) → (g.map.capacity < len → ⊥) × (regionmap.published (regionmap.placement_of g.map ss fs) len ≡ regionmap.placement_of next ss fs)
          unfolding refuse
          placed ss fs =
              let q = accepted_is _ _ _ (sym (u.answer ss fs)) in
              (λ h. let n : refuse 23 (ltb g.map.capacity len) ≡ 23 = simp (lt-ltb _ _ h) in omega (arith, q.0), q.1)

          abbrev g' : Region
          g' =
              record {
                number = g.number;
                tag = g.tag;
                name = g.name;
                kind = g.kind;
                flags = g.flags;
                log2_block = g.log2_block;
                header_a = g.header_a;
                header_b = g.header_b;
                span_start = g.span_start;
                span_end = g.span_end;
                footprint_seq = g.footprint_seq;
                extent_count = g.extent_count;
                row = g.row;
                map = next;
              }

          len_is : next.len ≡ max g.map.len len
          len_is = sym (ap (λ (q : regionmap.Placement). q.len) (placed [] []).1)

          mapped_next : (xs ss fs : List ℕ) → Valid p xs ss fs → Mapped xs ss fs g'
          mapped_next xs ss fs v =
              let t = mapped_is p xs ss fs v i inside in
              let q = (placed (row_in g.row ss) (row_in g.row fs)).1 in
              record {
                count = t.count;
                room = sym (ap (λ (q : regionmap.Placement). q.room) q) ∙ t.room;
                valid = u.valid (row_in g.row ss) (row_in g.row fs) t.valid;
                lays = subst (λ (y : regionmap.Placement). regionmap.Lays y (region_of xs g).extents) q (lays_published _ _ len t.lays);
              }

          module _ (more : ℕ) (n₀ : more ≡ next.len - g.map.len) (q : Posted) (o₀ : accounting.Posts p.accounts (accounting.on_row g.tag (add_usage more 0)) q) where
            o : accounting.Posts p.accounts (accounting.on_row g.tag (add_usage (next.len - g.map.len) 0)) q
            o = subst (λ (n : ℕ). accounting.Posts p.accounts (accounting.on_row g.tag (add_usage n 0)) q) n₀ o₀

            -- the tag has a row, so nothing is refused
            pub publish_never : (n : Refusal) → q.answer ≡ Err n → Changes p (publish id len) (refusing p n)
            publish_never n h =
                record {
                  called = λ xs ss fs.
                      called_refused p (publish id len) xs ss fs n
                      (λ v.
                      let t = posting_taken p xs ss fs v g.tag _ (λ r. refl) q o (row_no_full (world_of p xs) g.tag (tagged_is p xs ss fs v i inside)) in
                      absurd (no_error tt n (sym t.number ∙ h)));
                }

            abbrev p' : Plan
            p' = with_region p i g' q.accounts

            module _ (xs ss fs : List ℕ) (v : Valid p xs ss fs) where
              abbrev w : world.World
              w = world_of p xs

              known_region : known w id ≡ true
              known_region = known_here p xs id i f₀

              taken : Taken p xs ss fs v g.tag (add_usage (next.len - g.map.len) 0) (λ r. refl) q
              taken = posting_taken p xs ss fs v g.tag _ (λ r. refl) q o (row_no_full w g.tag (tagged_is p xs ss fs v i inside))

              fits : len ≤ model.capacity (region_in w id)
              fits = by_lt g.map.capacity len (λ y. absurd ((placed [] []).0 y)) (λ y. let c = capacity_is xs ss fs v in omega arith)

              region_next : region_of xs g' ≡ published_to len (region_of xs g)
              region_next = ap (λ (n : ℕ). model.with_data (region_of xs g).extents n g.span_start g.span_end (region_of xs g)) len_is

              world_next : world_of p' xs ≡ published_at w id len
              world_next =
                  world_changed p xs ss fs v i inside g' q.accounts xs ss fs (λ n y z. stays_same) id (published_to len) e region_next
                  (rows_stay p xs ss fs v g.tag _ (λ r. refl) (tagged_is p xs ss fs v i inside) q.accounts taken.table)

              logical_next : (t : ℕ) → world.logical (world_of p' xs) t ≡ world.logical w t + if_tag g.tag t (next.len - g.map.len)
              logical_next t =
                  let k = publish_logical w id (known_true w id known_region) len t in
                  ap (λ (y : world.World). world.logical y t) world_next
                  ∙ if_more g.tag t g.map.len next.len _ _ (omega (arith, len_is))
                  (rw len_is
                  (subst (λ (r : model.Region). world.logical (published_at w id len) t + if_tag r.tag t r.published ≡ world.logical w t + if_tag r.tag t (max r.published len))
                  (region_is p xs i inside id e) k))

              accepts : Accepts p (publish id len) xs ss fs xs ss fs None p' v
              unfolding refusal_to first refuse byte_for accept
              accepts =
                  record {
                    passes = simp (known_region, eq-eqb _ _ (multiple xs ss fs v), le-ltb _ _ fits);
                    byte = refl;
                    world = world_next;
                    valid = λ s.
                        changed_valid p xs ss fs v i inside g' q.accounts xs ss fs (λ n y z. stays_same) refl (mapped_next xs ss fs v) v.extents v.starts v.files
                        taken.valid
                        (accounted_added p xs ss fs v g.tag (next.len - g.map.len) 0 p' xs (ap (λ (y : accounting.Table). y.rows) taken.table) logical_next
                        (λ t. ap (λ (y : world.World). world.physical y t) world_next ∙ publish_physical w id (known_true w id known_region) len t ∙ if_none g.tag t _) s) s;
                  }

            pub publish_done : Changes p (publish id len) (record { reply = Ok None; plan = p' })
            publish_done = record { called = λ xs ss fs. called_accepted p (publish id len) xs ss fs xs ss fs None p' (accepts xs ss fs) }
