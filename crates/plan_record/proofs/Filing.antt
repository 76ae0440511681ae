-- A region handed out as open's own record.
use Rattle.numbers.specs.declared.refusal.Refusal.{Refusal}
use Rattle.numbers.specs.declared.refusal.Refusal.TheVariants.{Lists}
use Prim.Native.Nat.{ℕ, ◌+◌, ◌*◌, ◌≤◌, ◌<◌, min}
use mathlib.Core.Bool.{true, ◌||◌, or-true}
use mathlib.Core.List.{List, ◌++◌, append_assoc}
use Rattle.std.specs.Prelude.{Ok, Err, Result}
use mathlib.Core.Path.{◌≡◌, refl, ap, sym, subst, ◌∙◌}
use native.Mathlib.Nat.{zero-add}
use native.Mathlib.Omega.{arith}
use lib.Dec.{ltb}
use lib.ListN.{length, take, drop, get_or, length-map, length-drop, take-append-drop}
use lib.Seq.{sets-eq, drop-drop, drop_at, length-take-le, take-length}
use borrow.Author.Tests.{le-ltb, lt-ltb}
use Rattle.numbers.specs.Pairs.{pairs, flat}
use Rattle.numbers.specs.Range.{Range, total}
use Rattle.numbers.specs.Refusals.{refuse}
use Rattle.numbers.specs.Sums.{sum}
use Rattle.plan_record.specs.Inner.{region_extents, record_for, Lays}
use Rattle.plan_record.specs.Plan.{places, region_of, regions_of, world_of, Valid}
use Rattle.plan_record.specs.Promises.{hand_refusal, Hands}
use Rattle.plan_record.specs.Record.{record_of, blank_record, handed_from}
use Rattle.plan_record.specs.declared.Plan.{Plan}
use Rattle.plan_record.specs.declared.Record.{Record}
use Rattle.plan_record.specs.declared.Region.{Region}
use Rattle.numbers.proofs.Answers.{no_error}
use Rattle.numbers.proofs.Lists.{past_none}
use Rattle.numbers.proofs.Pairs.{flat_append, length_pairs, length_flat, flat_pairs, pairs_flat, pairs_take, pairs_drop, same_pairs}
use Rattle.plan_record.proofs.Fitting.{extents_are}
use Rattle.plan_record.proofs.Known.{region_at, world_at, mapped_is, row_is}
use Rattle.plan_record.proofs.Laying.{extents_length}
use Rattle.model.specs.Open as model
use Rattle.model.specs.Region as region

-- open makes the same region of it
pub handed_again : (r : region.Region) → model.region_from (handed_from r) (flat r.extents) ≡ r
handed_again r = rw (pairs_flat r.extents, take-length r.extents)

-- ---- a list by its pairs and what stands behind them

even_front : (k : ℕ) (l : List ℕ) → 2 * k ≤ length l → take (2 * k) l ≡ flat (take k (pairs l))
even_front k l h =
    let n : length (take (2 * k) l) ≡ 2 * k = length-take-le (2 * k) l h in
    sym (flat_pairs (take (2 * k) l) (omega arith)) ∙ ap flat (pairs_take k l)

by_pairs : (l : List ℕ) → l ≡ flat (pairs l) ++ drop (2 * length (pairs l)) l
by_pairs l =
    let n = length_pairs l in
    sym (take-append-drop (2 * length (pairs l)) l)
    ∙ ap (λ (t : List ℕ). t ++ drop (2 * length (pairs l)) l) (even_front (length (pairs l)) l (omega arith) ∙ ap flat (take-length (pairs l)))

-- ranges laid from the front on are written over the front
pub laid_written : (s t : List ℕ) (rs : List Range) → Lays s t 0 rs → length t ≡ length s → length rs ≤ length (pairs s) → t ≡ flat rs ++ drop (length (flat rs)) s
laid_written s t rs l e h =
    let n = length_flat rs in
    let k = length rs in
    let m : length (pairs t) ≡ length (pairs s) = same_pairs t s e in
    let ps : pairs t ≡ rs ++ drop k (pairs s) = l.stored ∙ sets-eq rs (pairs s) 0 (omega arith) ∙ ap (λ (j : ℕ). rs ++ drop j (pairs s)) (zero-add k) in
    let z : 2 * k + 2 * length (pairs (drop (2 * k) s)) ≡ 2 * length (pairs s) =
    let q = ap length (pairs_drop k s) in let r = length-drop k (pairs s) in omega arith in
    let d : drop (2 * k) s ≡ flat (drop k (pairs s)) ++ drop (2 * length (pairs s)) s =
    by_pairs (drop (2 * k) s) ∙ rw (drop-drop (2 * length (pairs (drop (2 * k) s))) (2 * k) s, z, pairs_drop k s) in
    by_pairs t
    ∙ ap (λ (u : List ℕ). flat (pairs t) ++ u) (ap (λ (j : ℕ). drop (2 * j) t) m ∙ l.behind)
    ∙ ap (λ (u : List Range). flat u ++ drop (2 * length (pairs s)) s) ps
    ∙ ap (λ (u : List ℕ). u ++ drop (2 * length (pairs s)) s) (flat_append rs (drop k (pairs s)))
    ∙ append_assoc (flat rs) (flat (drop k (pairs s))) (drop (2 * length (pairs s)) s)
    ∙ ap (λ (u : List ℕ). flat rs ++ u) (sym (ap (λ (j : ℕ). drop j s) n ∙ d))

-- ---- the returns

filed_is : (xs : List ℕ) (g : Region) (n : ℕ) → n ≡ length (region_of xs g).extents → g.map.capacity ≡ total (region_of xs g).extents → record_of (record_for g n) ≡ handed_from (region_of xs g)
filed_is xs g n a b = rw (a, b)

module _ (p : Plan) (i : ℕ) (xs out₀ : List ℕ) where
  abbrev Gives : List ℕ → Result Record Refusal → Type 0
  Gives out r = Hands p i xs out₀ out r

  abbrev here : region.Region
  here = get_or (world_of p xs).regions i region.no_region

  refused_hands : ((ss fs : List ℕ) → Valid p xs ss fs → (ltb (length (pairs xs)) places || ltb (length (pairs out₀)) (length here.extents)) ≡ true) → Gives out₀ (Err Lists)
  unfolding hand_refusal refuse
  refused_hands f =
      record {
        answer = λ ss fs v. sym (simp (f ss fs v));
        record_is = λ ss fs f v e. absurd (no_error f Lists (sym e));
        behind = λ f e. absurd (no_error f Lists (sym e));
        slots = λ ss fs v. simp (f ss fs v);
        refused = λ n e. refl;
        short = λ h. refl;
      }

  pub hands_short : length (pairs xs) < places → Gives out₀ (Err Lists)
  hands_short h = refused_hands (λ ss fs v. absurd (omega (arith, v.extents)))

  module _ (long : places ≤ length (pairs xs)) where
    passes : (n : ℕ) → length here.extents ≡ n → n ≤ length (pairs out₀) → hand_refusal (world_of p xs) i xs out₀ ≡ 0
    unfolding hand_refusal refuse
    passes n e h = let l : length here.extents ≤ length (pairs out₀) = omega arith in simp (le-ltb _ _ long, le-ltb _ _ l)

    given : (out : List ℕ) (f : Record)
        → ((ss fs : List ℕ) → Valid p xs ss fs → (length here.extents ≤ length (pairs out₀)) × (record_of f ≡ handed_from here) × (out ≡ flat here.extents ++ drop (length (flat here.extents)) out₀))
        → drop (2 * f.entry.extent_count) out ≡ drop (2 * f.entry.extent_count) out₀ → Gives out (Ok f)
    given out f g b =
        record {
          answer = λ ss fs v. sym (passes _ refl (g ss fs v).0);
          record_is = λ ss fs r v e. let q : f ≡ r = cc in ap record_of (sym q) ∙ (g ss fs v).1;
          slots = λ ss fs v. let z = passes _ refl (g ss fs v).0 in rw z (g ss fs v).2;
          behind = λ r e. let q : f ≡ r = cc in rw (← q) b;
          refused = λ n e. absurd (no_error f n e);
          short = λ h. absurd (omega arith);
        }

    module _ (m : ℕ) (a : m ≡ length (regions_of p)) where
      past_is : m ≤ i → here ≡ region.no_region
      unfolding world_of
      past_is h = past_none (world_of p xs).regions i region.no_region (rw (length-map (regions_of p) (region_of xs)) (omega arith))

      pub hands_past : m ≤ i → Gives out₀ (Ok blank_record)
      unfolding flat sum
      hands_past h = let e = past_is h in given out₀ blank_record (λ ss fs v. rw e (omega arith, refl, refl)) refl

      module _ (l : i < m) where
        inside : i < length (regions_of p)
        inside = omega arith

        here_is : here ≡ region_of xs (region_at p i)
        unfolding world_of
        here_is = world_at p xs i inside

        extents_here : (ss fs : List ℕ) → Valid p xs ss fs → region_extents xs (region_at p i) ≡ here.extents
        extents_here ss fs v =
            extents_are xs (region_at p i) (mapped_is p xs ss fs v i inside).count (row_is p xs ss fs v i inside) ∙ sym (ap (λ (r : region.Region). r.extents) here_is)

        count_here : (n : ℕ) → n ≡ min (region_at p i).extent_count 60 → (ss fs : List ℕ) → Valid p xs ss fs → length here.extents ≡ n
        count_here n e ss fs v = ap length (sym (extents_here ss fs v)) ∙ extents_length xs (region_at p i) long ∙ sym e

        pub hands_few : (n : ℕ) → n ≡ min (region_at p i).extent_count 60 → length (pairs out₀) < n → Gives out₀ (Err Lists)
        hands_few n e h =
            refused_hands
            (λ ss fs v. let k = count_here n e ss fs v in let q : length (pairs out₀) < length here.extents = omega arith in simp (lt-ltb _ _ q, or-true))

        pub hands_done : (n : ℕ) → n ≡ min (region_at p i).extent_count 60 → n ≤ length (pairs out₀) → (out : List ℕ) → length out ≡ length out₀
            → Lays out₀ out 0 (region_extents xs (region_at p i)) → Gives out (Ok (record_for (region_at p i) n))
        hands_done n e h out w b =
            given out (record_for (region_at p i) n)
            (λ ss fs v.
            let k = count_here n e ss fs v in
            let x = extents_here ss fs v in
            let t = mapped_is p xs ss fs v i inside in
            let q = ap length x in (
              omega arith,
              filed_is xs (region_at p i) n (sym k ∙ ap (λ (r : region.Region). length r.extents) here_is) t.lays.capacity ∙ ap handed_from (sym here_is),
              laid_written out₀ out here.extents (subst (Lays out₀ out 0) x b) w (omega arith),
            ))
            (let k : length (region_extents xs (region_at p i)) ≡ n = extents_length xs (region_at p i) long ∙ sym e in
            let z = length_flat (region_extents xs (region_at p i)) in
            let d = laid_written out₀ out (region_extents xs (region_at p i)) b w (omega arith) in
            let t : length (flat (region_extents xs (region_at p i))) ≡ 2 * n = omega arith in
            ap (drop (2 * n)) d ∙ drop_at (flat (region_extents xs (region_at p i))) _ (2 * n) t ∙ ap (λ (j : ℕ). drop j out₀) t)
