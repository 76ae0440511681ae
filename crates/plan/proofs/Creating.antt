-- What each return of `create` promises.
use Rattle.std.specs.Option.{is_some}
use Rattle.plan_record.specs.Promises.{Fits, Named}
use Rattle.numbers.specs.declared.refusal.Refusal.TheVariants.{Lists, NumberHeld, NameHeld, Full, LastNumber, OverCap, NoRoom}
use Rattle.numbers.specs.declared.refusal.Refusal.{Refusal}
use Prim.Native.Nat.{ℕ, ◌+◌, ◌*◌, ◌≤◌, ◌<◌}
use mathlib.Core.Bool.{Bool, true, false, not, or-true}
use mathlib.Core.List.{List, [], ◌∷◌, ◌++◌, map, map-append}
use mathlib.Core.Logic.{inr}
use Rattle.std.specs.Prelude.{Some, None, Ok, Err, Result, Option}
use mathlib.Core.Path.{◌≡◌, refl, ap, sym, subst, ◌∙◌}
use native.Mathlib.Numerals.{add-one}
use native.Mathlib.Omega.{arith}
use lib.Dec.{eqb, leb}
use lib.ListN.{length, take, set, length-map, length-set}
use lib.Seq.{take-suc-set, map-set_same}
use borrow.Author.Tests.{eq-eqb, ne_eqb, lt-ltb, le-ltb, le-leb, lt-leb}
use Rattle.accounting.specs.declared.Posted.{Posted}
use Rattle.model.specs.Span.{least_free}
use Rattle.numbers.specs.Lists.{All, any, same, Distinct}
use Rattle.numbers.specs.Refusals.{refuse, first, accepted, refusal_number}
use Rattle.numbers.specs.Sums.{top, stop, sum}
use Rattle.plan_record.specs.Inner.{block_in, has_name}
use Rattle.plan_record.specs.Plan.{row_in, region_of, regions_of, rows_of, row_of, cap_of, world_of, Mapped, Valid, place_in, past_region, reply_of}
use Rattle.plan_record.specs.Record.{text_of}
use Rattle.plan_record.specs.declared.names.Name.{Name}
use Rattle.plan_record.specs.declared.Plan.{Plan}
use Rattle.plan_record.specs.declared.Region.{Region}
use Rattle.plan.specs.Calls.{Called}
use Rattle.plan.specs.Inner.{refusing, fresh, CreateTested, with_new, Adds}
use Rattle.regionmap.specs.declared.RegionMap.{RegionMap}
use Rattle.runs.specs.Runs.{runs_from, joined, not_empty}
use Rattle.tagspace.specs.Row.{add_usage}
use Rattle.model.proofs.Create.{creates}
use Rattle.model.proofs.Regions.{if_tag}
use Rattle.model.proofs.Spans.{least_found, block_some}
use Rattle.model.proofs.Steps.{created_next, next_accepted}
use Rattle.model.proofs.Totals.{create_physical, create_logical}
use Rattle.numbers.proofs.Answers.{accepted_is, same_value, not_both, no_error}
use Rattle.numbers.proofs.Cases.{clash}
use Rattle.numbers.proofs.Lists.{all_set, any_map, all_append, all_at}
use Rattle.numbers.proofs.Refusals.{none_first, pass_none, first_go, first_stop, first_one, reason_above}
use Rattle.plan_record.proofs.Holding.{block_is}
use Rattle.plan_record.proofs.Known.{region_at, known_here, known_not, counted_is}
use Rattle.plan_record.proofs.Tags.{table_in, Taken, posting_taken, with-tag, accounted_added, if_none}
use Rattle.plan.proofs.Asking.{asked_full, asked_fits}
use Rattle.plan.proofs.Capping.{with_accounts}
use Rattle.plan.proofs.Refusing.{called_refused, called_accepted, Accepts}
use Rattle.accounting.specs.Table as accounting
use Rattle.model.specs.Calls as model
use Rattle.model.specs.Region as region
use Rattle.model.specs.World as world
use Rattle.regionmap.specs.Map as regionmap

-- ---- a map of no extents

abbrev no_extents : RegionMap
no_extents = record { first = 0; len = 0; capacity = 0; count = 0; room = 60 }

module _ (ss fs : List ℕ) where
  none_valid : regionmap.Valid no_extents ss fs
  unfolding regionmap.runs_to
  none_valid =
      record {
        starts = omega arith;
        files = omega arith;
        sound = record { laid = (refl, refl); inside = (omega arith, tt); whole = omega arith; fits = omega arith; counted = omega arith; limited = omega arith };
      }

  none_lays : regionmap.Lays (regionmap.placement_of no_extents ss fs) []
  unfolding regionmap.runs_to sum runs_from joined not_empty
  none_lays = record { runs = inr refl; capacity = refl }

-- ---- what the tests ask, of the plan's world

module _ (p : Plan) (xs : List ℕ) where
  regions_many : length (world_of p xs).regions ≡ length (regions_of p)
  unfolding world_of
  regions_many = length-map (regions_of p) (region_of xs)

  named_is : (name : List ℕ) → model.named (world_of p xs) name ≡ any (has_name name) (regions_of p)
  unfolding world_of model.named
  named_is name = any_map (λ (r : region.Region). same r.name name) (region_of xs) (regions_of p)

  last_is : (world_of p xs).last ≡ p.last
  unfolding world_of
  last_is = refl

  two_is : (ss fs : List ℕ) → Valid p xs ss fs → (block : ℕ) → block ≡ block_in p → 2 * block ≡ model.header_len (world_of p xs)
  two_is ss fs v block e = ap (λ (n : ℕ). 2 * n) (e ∙ block_is p xs ss fs v)

-- ---- the tests before that of room

pub not_held : (p : Plan) (id : ℕ) (o : Option ℕ) → o ≡ place_in p id → (b : Bool) → b ≡ is_some o → b ≡ false → place_in p id ≡ None
not_held p id None e b d f = sym e
not_held p id (Some i) e b d f = absurd (clash d f)

module _ (p : Plan) (id tag : ℕ) (name : List ℕ) where
  -- one of them failed
  tested : (e : Refusal) → ((xs ss fs : List ℕ) → Valid p xs ss fs → first (model.create_tests (world_of p xs) id tag name) ≡ refusal_number e) → CreateTested p id tag name (refusal_number e)
  tested e t =
      let d : refusal_number e ≡ 0 → ⊥ = λ z. let h = reason_above e in omega arith in
      record { told = t; short = λ z. absurd (d z); few = λ z. absurd (d z); below = λ z. absurd (d z) }

  pub create_long : 24 < length name → CreateTested p id tag name 1
  unfolding first refuse
  create_long l = tested Lists (λ xs ss fs v. simp (lt-ltb _ _ l))

  module _ (t₁ : length name ≤ 24) where
    pub create_held : (o : Option ℕ) → o ≡ place_in p id → (b : Bool) → b ≡ is_some o → b ≡ true → CreateTested p id tag name 14
    unfolding first refuse
    create_held None e b d t = absurd (clash t d)
    create_held (Some i) e b d t = tested NumberHeld (λ xs ss fs v. let k = known_here p xs id i (sym e) in simp (le-ltb _ _ t₁, k))

    module _ (t₁₄ : place_in p id ≡ None) (b : Bool) (nd : Named p name b) where
      pub create_named : b ≡ true → CreateTested p id tag name 18
      unfolding first refuse
      create_named h =
          tested NameHeld
          (λ xs ss fs v.
          let k = known_not p xs id t₁₄ in
          let q : model.named (world_of p xs) name ≡ true = named_is p xs name ∙ sym (nd.told t₁) ∙ h in
          simp (le-ltb _ _ t₁, k, q))

      module _ (t₁₈ : b ≡ false) (m : ℕ) (a : m ≡ length (regions_of p)) where
        named_not : (xs : List ℕ) → model.named (world_of p xs) name ≡ false
        named_not xs = named_is p xs name ∙ sym (nd.told t₁) ∙ t₁₈

        pub create_full : 64 ≤ m → CreateTested p id tag name 19
        unfolding first refuse
        create_full l =
            tested Full
            (λ xs ss fs v.
            let k = known_not p xs id t₁₄ in
            let n = regions_many p xs in
            let h : 64 ≤ length (world_of p xs).regions = omega arith in
            simp (le-ltb _ _ t₁, k, named_not xs, le-leb _ _ h))

        module _ (t₆₄ : m < 64) (block : ℕ) (b₀ : block ≡ block_in p) (q : Result Bool Refusal) (o : accounting.Allows p.accounts tag (2 * block) q) where
          few_not : (xs : List ℕ) → leb 64 (length (world_of p xs).regions) ≡ false
          few_not xs = let n = regions_many p xs in lt-leb 64 (length (world_of p xs).regions) (omega arith)

          pub create_tags : (e : Refusal) → q ≡ Err e → CreateTested p id tag name (refusal_number e)
          unfolding first refuse
          create_tags e h =
              tested e
              (λ xs ss fs v.
              let f = asked_full p xs ss fs v tag (2 * block) q o e h in
              let k = known_not p xs id t₁₄ in
              simp (le-ltb _ _ t₁, k, named_not xs, f.0, f.1, or-true))

          module _ (c : Bool) (t₁₉ : q ≡ Ok c) where
            tag_not : (xs ss fs : List ℕ) → Valid p xs ss fs → model.tag_full (world_of p xs) tag ≡ false
            tag_not xs ss fs v = (asked_fits p xs ss fs v tag (2 * block) q o c t₁₉).0

            pub create_last : p.last ≡ top → CreateTested p id tag name 20
            unfolding first refuse
            create_last l =
                tested LastNumber
                (λ xs ss fs v.
                let k = known_not p xs id t₁₄ in
                simp (le-ltb _ _ t₁, k, named_not xs, few_not xs, tag_not xs ss fs v, eq-eqb _ _ (last_is p xs ∙ l)))

            module _ (t₂₀ : p.last ≡ top → ⊥) where
              last_not : (xs : List ℕ) → eqb (world_of p xs).last top ≡ false
              last_not xs = ne_eqb _ _ (λ z. t₂₀ (sym (last_is p xs) ∙ z))

              cap_here : (xs ss fs : List ℕ) → Valid p xs ss fs → model.cap_fails (world_of p xs) tag (model.header_len (world_of p xs)) ≡ not c
              cap_here xs ss fs v =
                  ap (model.cap_fails (world_of p xs) tag) (sym (two_is p xs ss fs v block b₀)) ∙ (asked_fits p xs ss fs v tag (2 * block) q o c t₁₉).1

              pub create_capped : c ≡ false → CreateTested p id tag name 21
              unfolding first refuse
              create_capped h =
                  tested OverCap
                  (λ xs ss fs v.
                  let k = known_not p xs id t₁₄ in
                  simp (le-ltb _ _ t₁, k, named_not xs, few_not xs, tag_not xs ss fs v, last_not xs, cap_here xs ss fs v ∙ ap not h))

              pub create_passed : c ≡ true → CreateTested p id tag name 0
              create_passed h =
                  record {
                    told = λ xs ss fs v.
                        none_first _ (
                          pass_none 1 _ (le-ltb _ _ t₁),
                          (
                            pass_none 14 _ (known_not p xs id t₁₄),
                            (
                              pass_none 18 _ (named_not xs),
                              (
                                pass_none 19 _ (simp (few_not xs, tag_not xs ss fs v)),
                                (pass_none 20 _ (last_not xs), (pass_none 21 _ (cap_here xs ss fs v ∙ ap not h), tt)),
                              ),
                            ),
                          ),
                        );
                    short = λ z. t₁;
                    few = λ z. omega arith;
                    below = λ z. t₂₀;
                  }

-- ---- the region that is added

pub adds : (p : Plan) (id tag : ℕ) (name : List ℕ) (at : ℕ) (m : ℕ) → m ≡ length (regions_of p) → (own : Name) → text_of own ≡ name
    → (block : ℕ) → block ≡ block_in p → (g : Region)
    → g ≡ fresh (region_at p m).row id tag own p.limits.log2_block at block (p.last + 1)
    → Adds p id tag name at (record { limits = p.limits; last = p.last + 1; count = m + 1; regions = set p.regions m g; accounts = p.accounts })
adds p id tag name at m e own n block b g h = record { own = own; named = n; is = rw (h, b, e) }

-- ---- the returns

module _ (p : Plan) (xs ss fs : List ℕ) (id tag : ℕ) (name : List ℕ) where
  abbrev c : model.Call
  c = model.create id tag name

  abbrev Refuses : Refusal → Type 0
  Refuses k = Called p c xs ss fs xs ss fs (refusing p k)

  pub create_refused : (e : Refusal) → CreateTested p id tag name (refusal_number e) → Refuses e
  unfolding model.refusal_to
  create_refused e t =
      called_refused p c xs ss fs e
      (λ v.
      let h = reason_above e in
      let k = t.told xs ss fs v in
      first_stop (model.create_tests (world_of p xs) id tag name) _ (λ z. omega arith) ∙ k)

  module _ (t : CreateTested p id tag name 0) (block : ℕ) (b₀ : block ≡ block_in p) (r₀ : Result (Option ℕ) Refusal) (s : Fits p (2 * block) xs r₀) where
    tests : (v : Valid p xs ss fs) → first (model.create_tests (world_of p xs) id tag name) ≡ 0
    tests v = t.told xs ss fs v

    some_bytes : (v : Valid p xs ss fs) → 0 < 2 * block
    some_bytes v = let h = block_some (world_of p xs) in omega (arith, two_is p xs ss fs v block b₀)

    -- the least free span, as it was looked for
    least : (v : Valid p xs ss fs) → reply_of r₀ ≡ accepted (least_free (world_of p xs) (model.header_len (world_of p xs)))
    least v = s.told ss fs v (some_bytes v) ∙ ap (λ (n : ℕ). accepted (least_free (world_of p xs) n)) (two_is p xs ss fs v block b₀)

    pub create_lost : (e : Refusal) → r₀ ≡ Err e → Refuses e
    create_lost e h = called_refused p c xs ss fs e (λ v. absurd (not_both _ _ (sym (least v) ∙ ap reply_of h)))

    pub create_no_room : r₀ ≡ Ok None → Refuses NoRoom
    unfolding model.refusal_to model.room_fails refuse
    create_no_room h =
        called_refused p c xs ss fs NoRoom
        (λ v.
        let y : least_free (world_of p xs) (model.header_len (world_of p xs)) ≡ None = same_value _ _ (sym (least v) ∙ ap reply_of h) in
        first_go (model.create_tests (world_of p xs) id tag name) _ (tests v) ∙ first_one _ ∙ rw y)

    module _ (at : ℕ) (t₂₂ : r₀ ≡ Ok (Some at)) (q : Posted) (o : accounting.Posts p.accounts (accounting.on_row tag (add_usage 0 (2 * block))) q) where
      -- the 97th tag was asked for before
      taken : (v : Valid p xs ss fs) → Taken p xs ss fs v tag (add_usage 0 (2 * block)) (λ r. refl) q
      taken v =
          posting_taken p xs ss fs v tag (add_usage 0 (2 * block)) (λ r. refl) q o (creates (world_of p xs) id tag name (tests v)).row

      pub create_never : (e : Refusal) → q.answer ≡ Err e → Refuses e
      create_never e h = called_refused p c xs ss fs e (λ v. absurd (no_error tt e (sym (taken v).number ∙ h)))

      module _ (r : Plan) (x : Adds (with_accounts p q.accounts) id tag name at r) where
        abbrev m : ℕ
        m = length (regions_of p)

        abbrev g : Region
        g = fresh (region_at p m).row id tag x.own p.limits.log2_block at (block_in p) (p.last + 1)

        abbrev p' : Plan
        p' = with_new (with_accounts p q.accounts) g

        module _ (v : Valid p xs ss fs) where
          placed : least_free (world_of p xs) (model.header_len (world_of p xs)) ≡ Some at
          placed = same_value _ _ (sym (least v) ∙ ap reply_of t₂₂)

          inside : m < length p.regions
          inside = omega (arith, t.few refl, v.full)

          region_next : region_of xs g ≡ model.created (world_of p xs) id tag name at
          unfolding world_of
          region_next =
              let l = least_found (world_of p xs) (model.header_len (world_of p xs)) at placed in
              let u = l.free.upto in
              let f = v.sound.container.file in
              let d = block_is p xs ss fs v in
              let hb : stop (at + block_in p) ≡ at + block_in p = omega arith in
              let he : stop (at + 2 * block_in p) ≡ at + 2 * block_in p = omega arith in
              rw (x.named, hb, he, d)

          regions_next : regions_of p' ≡ regions_of p ++ (g ∷ [])
          regions_next =
              ap (λ (k : ℕ). take k (set p.regions m g)) (add-one m) ∙ take-suc-set p.regions m g inside
              ∙ ap (λ (k : ℕ). take k p.regions ++ (g ∷ [])) (counted_is p xs ss fs v)

          world_next : world_of p' xs ≡ model.created_at (world_of p xs) id tag name at
          unfolding world_of
          world_next =
              let rs : map (region_of xs) (regions_of p') ≡ map (region_of xs) (regions_of p) ++ (model.created (world_of p xs) id tag name at ∷ []) =
              ap (map (region_of xs)) regions_next ∙ map-append (region_of xs) (regions_of p) (g ∷ [])
              ∙ ap (λ (y : region.Region). map (region_of xs) (regions_of p) ++ (y ∷ [])) region_next in
              let ts : map cap_of (accounting.table_of q.accounts).rows ≡ world.with_tag tag (map cap_of (rows_of p)) =
              ap (λ (y : accounting.Table). map cap_of y.rows) (taken v).table ∙ with-tag tag (add_usage 0 (2 * block)) (table_in p) (λ r. refl) in
              rw (rs, ts)

          mapped_next : Mapped xs ss fs g
          mapped_next =
              record {
                count = omega arith;
                room = refl;
                valid = none_valid (row_in (region_at p m).row ss) (row_in (region_at p m).row fs);
                lays = none_lays (row_in (region_at p m).row ss) (row_in (region_at p m).row fs);
              }

          accepts : Accepts p c xs ss fs xs ss fs (Some at) p' v
          unfolding model.byte_for
          accepts =
              let k = created_next (world_of p xs) id tag name at (tests v) placed in
              let y = (accepted_is _ _ _ k.0).0 in
              record {
                passes = y;
                byte = sym placed;
                world = world_next ∙ sym k.1 ∙ next_accepted (world_of p xs) c y;
                valid = λ so.
                    record {
                      full = length-set p.regions m g ∙ v.full;
                      few = omega (arith, t.few refl);
                      extents = v.extents;
                      starts = v.starts;
                      files = v.files;
                      rows = subst Distinct (sym (map-set_same row_of p.regions m g past_region refl)) v.rows;
                      inside =
                          all_set (λ (y : Region). y.row < 64) p.regions m g past_region v.inside
                          (all_at (λ (y : Region). y.row < 64) p.regions m past_region v.inside inside);
                      mapped = subst (All (Mapped xs ss fs)) (sym regions_next) (all_append (Mapped xs ss fs) (regions_of p) (g ∷ []) v.mapped (mapped_next, tt));
                      accounts = (taken v).valid;
                      accounted =
                          accounted_added p xs ss fs v tag 0 (2 * block) p' xs (ap (λ (y : accounting.Table). y.rows) (taken v).table)
                          (λ i. ap (λ (y : world.World). world.logical y i) world_next ∙ create_logical (world_of p xs) id tag name at i ∙ if_none tag i _)
                          (λ i.
                          ap (λ (y : world.World). world.physical y i) world_next ∙ create_physical (world_of p xs) id tag name at i
                          ∙ ap (λ (k : ℕ). world.physical (world_of p xs) i + if_tag tag i k) (sym (two_is p xs ss fs v block b₀)))
                          so;
                      sound = so;
                    };
              }

        pub create_done : Called p c xs ss fs xs ss fs (record { reply = Ok (Some at); plan = r })
        create_done = rw x.is (called_accepted p c xs ss fs xs ss fs (Some at) p' accepts)
