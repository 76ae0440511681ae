-- Demand 3 of the model: the claim of specs/Demand, of every world that an accepted open starts and a list of calls reaches.
use Prim.Native.Nat.{ℕ, ◌<◌}
use mathlib.Core.List.{List, [], ◌∷◌, ◌++◌}
use mathlib.Core.Logic.{inr}
use Rattle.std.specs.Prelude.{None, Some}
use mathlib.Core.Path.{◌≡◌, refl, ap, sym, subst, ◌∙◌}
use native.Mathlib.Omega.{arith}
use Rattle.footprint.specs.declared.Limits.{Limits}
use Rattle.freemap.specs.Gaps.{Covered}
use Rattle.model.specs.Calls.{Call, create, grow, region_in, room_fails, header_len, create_tests, step_len, grow_tests, refusal_to, byte_for, world_after}
use Rattle.model.specs.Demand.{Published, byte_at, Room, Demand}
use Rattle.model.specs.Open.{Opening, open_refusal, opened}
use Rattle.model.specs.Region.{Region, footprint, footprints, id_of, no_region, region_of}
use Rattle.model.specs.Span.{least_free}
use Rattle.model.specs.World.{World}
use Rattle.numbers.specs.Keyed.{HasKey}
use Rattle.numbers.specs.Range.{Range, Has, Disjoint}
use Rattle.numbers.specs.Refusals.{accepted, refuse, first}
use Rattle.model.proofs.Change.{step_len_some}
use Rattle.model.proofs.Drops.{drop_unknown}
use Rattle.model.proofs.Figures.{held_and_free, held_most, physical_most, logical_most}
use Rattle.model.proofs.Located.{region_regular, region_ends, located_at}
use Rattle.model.proofs.Opening.{opened_sound}
use Rattle.model.proofs.Regions.{known_true, split, held_front, held_behind, held_split}
use Rattle.model.proofs.Sound.{Sound}
use Rattle.model.proofs.Spans.{block_some, none_found, least_found, none_free}
use Rattle.model.proofs.Stays.{byte_stays}
use Rattle.model.proofs.Steps.{after_sound, room_left}
use Rattle.numbers.proofs.Answers.{answer_number, answer_value, refused_is}
use Rattle.numbers.proofs.Cases.{by_answer, by_eq}
use Rattle.numbers.proofs.Disjoint.{all_shared, disjoint_left, disjoint_right, disjoint_between}
use Rattle.numbers.proofs.Keyed.{has_later, keyed_here, keyed_later}
use Rattle.numbers.proofs.Lists.{any_left, any_right}
use Rattle.numbers.proofs.Refusals.{first_go, first_low, refuse_low}
use Rattle.runs.proofs.Bytes.{byte_in, byte_own}

-- ---- different regions have different bytes

module _ (lim : Limits) (b : ℕ) where
  abbrev In : List Range → Type 0
  In rs = Covered rs b

  -- a byte of a region is held
  region_held : (id : ℕ) (rs : List Region) → HasKey id_of id rs → In (footprint lim (region_of id rs)) → In (footprints lim rs)
  unfolding footprints
  region_held id [] k c = absurd k
  region_held id (r ∷ rs) k c =
      by_eq r.number id
      (λ e. any_left (λ (x : Range). Has x b) (footprint lim r) (footprints lim rs) (subst (λ (q : Region). In (footprint lim q)) (keyed_here id_of no_region id r rs e) c))
      (λ d. any_right (λ (x : Range). Has x b) (footprint lim r) (footprints lim rs)
      (region_held id rs (has_later id_of id r rs d k) (subst (λ (q : Region). In (footprint lim q)) (keyed_later id_of no_region id r rs d) c)))

  -- by one region alone
  one_owner : (id jd : ℕ) (rs : List Region) → Disjoint (footprints lim rs) → HasKey id_of id rs → HasKey id_of jd rs
      → In (footprint lim (region_of id rs)) → In (footprint lim (region_of jd rs)) → id ≡ jd
  unfolding footprints
  one_owner id jd [] a k l c d = absurd k
  one_owner id jd (r ∷ rs) a k l c d =
      by_eq r.number id
      (λ e. by_eq r.number jd (λ f. sym e ∙ f) (λ f. absurd (first_only id jd e f l c d)))
      (λ e. by_eq r.number jd (λ f. absurd (first_only jd id f e k d c))
      (λ f.
      one_owner id jd rs (disjoint_right (footprint lim r) (footprints lim rs) a) (has_later id_of id r rs e k) (has_later id_of jd r rs f l)
      (later id e c) (later jd f d)))
    where
      later : (n : ℕ) → (r.number ≡ n → ⊥) → In (footprint lim (region_of n (r ∷ rs))) → In (footprint lim (region_of n rs))
      later n e c = subst (λ (q : Region). In (footprint lim q)) (keyed_later id_of no_region n r rs e) c

      first_only : (i j : ℕ) → r.number ≡ i → (r.number ≡ j → ⊥) → HasKey id_of j (r ∷ rs)
          → In (footprint lim (region_of i (r ∷ rs))) → In (footprint lim (region_of j (r ∷ rs))) → ⊥
      first_only i j e f l c d =
          all_shared (footprint lim r) (footprints lim rs) (disjoint_between (footprint lim r) (footprints lim rs) a) b
          (subst (λ (q : Region). In (footprint lim q)) (keyed_here id_of no_region i r rs e) c)
          (region_held j rs (has_later id_of j r rs f l) (later j f d))

module _ (w : World) (s : Sound w) where
  -- the byte of a published position is one of the region's
  byte_held : (id p : ℕ) → Published w id p → Covered (footprint w.limits (region_in w id)) (byte_at w id p)
  byte_held id p b =
      let k = known_true w id b.region in
      inr (inr (byte_in (region_in w id).extents p (region_ends w s id k) (omega (arith, b.below, (region_regular w s id k).size))))

  -- a region's extents do not meet
  region_apart : (id : ℕ) → HasKey id_of id w.regions → Disjoint (region_in w id).extents
  region_apart id k =
      let c = split id w.regions k in
      let d : Disjoint (held_front w.limits id w.regions c) =
      disjoint_left (held_front w.limits id w.regions c) (held_behind w.limits id w.regions c) (subst Disjoint (held_split w.limits id w.regions c) s.apart) in
      (disjoint_right (footprints w.limits c.front) (footprint w.limits (region_in w id)) d).1.1

  own_byte : (id p jd q : ℕ) → Published w id p → Published w jd q → byte_at w id p ≡ byte_at w jd q → (id ≡ jd) × (p ≡ q)
  own_byte id p jd q a b e =
      let k = known_true w id a.region in
      let l = known_true w jd b.region in
      let o : id ≡ jd =
      one_owner w.limits (byte_at w id p) id jd w.regions s.apart k l (byte_held id p a)
      (subst (Covered (footprint w.limits (region_in w jd))) (sym e) (byte_held jd q b)) in
      let c : q < (region_in w id).published = subst (λ (n : ℕ). q < (region_in w n).published) (sym o) b.below in
      let z = (region_regular w s id k).size in (
        o,
        byte_own (region_in w id).extents (region_ends w s id k) (region_apart id k) p q (omega (arith, a.below, z)) (omega (arith, c, z))
            (e ∙ ap (λ (n : ℕ). byte_at w n q) (sym o)),
      )

  -- ---- room

  -- of any call that tests room last, and whose byte is the lowest free span
  module _ (tests : List ℕ) (n : ℕ) (c : Call) (pos : 0 < n) (low : first tests < 22)
      (number : refusal_to w c ≡ first (tests ++ (refuse 22 (room_fails w n) ∷ []))) (byte : byte_for w c ≡ least_free w n) where
    no_room : first tests ≡ 0 → least_free w n ≡ None → refusal_to w c ≡ 22
    unfolding room_fails first refuse
    no_room z e = number ∙ first_go tests _ z ∙ rw e

    with_place : (a : ℕ) → least_free w n ≡ Some a → refusal_to w c ≡ first tests
    with_place a e = number ∙ room_left w tests n a e

    room : Room w tests n c
    room =
        record {
          full = λ z h. let e = no_room z (none_found w n h) in rw e (answer_number 22 _ (λ q. omega arith));
          only_full = λ e.
              by_answer (least_free w n)
              (λ a q. let r = (refused_is _ _ 22 e).0 in absurd (omega (arith, r, with_place a q, low)))
              (λ q. none_free w n pos q);
          placed = λ z p f.
              by_answer (least_free w n)
              (λ a q. (a, least_found w n a q, answer_value _ _ (with_place a q ∙ z) ∙ ap accepted (byte ∙ q)))
              (λ q. absurd (none_free w n pos q p f));
        }

  create_low : (id tag : ℕ) (name : List ℕ) → first (create_tests w id tag name) < 22
  create_low id tag name =
      first_low 22 _ (omega arith) (
        refuse_low 22 1 _ (omega arith),
        (
          refuse_low 22 14 _ (omega arith),
          (refuse_low 22 18 _ (omega arith), (refuse_low 22 19 _ (omega arith), (refuse_low 22 20 _ (omega arith), (refuse_low 22 21 _ (omega arith), tt)))),
        ),
      )

  grow_low : (id : ℕ) → first (grow_tests w id) < 22
  grow_low id =
      first_low 22 _ (omega arith)
      (refuse_low 22 16 _ (omega arith), (refuse_low 22 17 _ (omega arith), (refuse_low 22 19 _ (omega arith), (refuse_low 22 21 _ (omega arith), tt))))

  pub sound_demand : Demand w
  unfolding refusal_to byte_for
  sound_demand =
      record {
        located = λ id p b.
            let q = (region_regular w s id (known_true w id b.region)).size in
            located_at w s id b.region p 1 (omega (arith, b.below)) (omega (arith, b.below, q)) (λ j. omega (arith, j.from, j.upto));
        own = own_byte;
        stays = λ id p cs. byte_stays id p w s cs;
        forgets = drop_unknown w s;
        figures = held_and_free w s;
        totals = λ tag. let h = held_most w s in (omega (arith, physical_most w s tag), omega (arith, logical_most w s tag));
        create_room = λ id tag name.
            room (create_tests w id tag name) (header_len w) (create id tag name) (omega (arith, block_some w)) (create_low id tag name) refl refl;
        grow_room = λ id. room (grow_tests w id) (step_len w (region_in w id)) (grow id) (step_len_some w (region_in w id)) (grow_low id) refl refl;
      }

-- what every world has that an accepted open starts and a list of calls reaches
module _ (o : Opening) (z : open_refusal o ≡ 0) (cs : List Call) where
  pub reached_sound : Sound (world_after (opened o) cs)
  reached_sound = after_sound (opened o) (opened_sound o z) cs

  pub demand : Demand (world_after (opened o) cs)
  demand = sound_demand (world_after (opened o) cs) reached_sound
