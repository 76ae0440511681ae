-- Ranges written one by one into the pairs of a list, and the footprints of a plan among them.
use Prim.Native.Nat.{ℕ, suc, ◌+◌, ◌*◌, ◌≤◌, ◌<◌, min}
use mathlib.Core.List.{List, [], ◌∷◌, ◌++◌, append_assoc, append-nil}
use mathlib.Core.Path.{◌≡◌, refl, ap, sym, subst, ◌∙◌}
use native.Mathlib.Nat.{add-zero}
use native.Mathlib.Numerals.{add-one}
use native.Mathlib.Omega.{arith}
use lib.ListN.{length, take, drop, set, get_or, length-append, length-take}
use lib.Seq.{sets, take-suc, take-take, get_or-take, get_or-drop, length-take-le, take-length, take_all}
use Rattle.numbers.specs.Pairs.{pairs}
use Rattle.numbers.specs.Range.{Range, range, blank}
use Rattle.numbers.specs.Sums.{top, stop}
use Rattle.std.specs.Prelude.{fold}
use Rattle.plan_record.specs.Inner.{block_in, region_extents, laid, laid_each, laid_all, Lays, MostRanges}
use Rattle.plan_record.specs.Plan.{row_in, places, regions_of, past_region}
use Rattle.plan_record.specs.declared.Plan.{Plan}
use Rattle.plan_record.specs.declared.Region.{Region}
use Rattle.sort.specs.Places.{range_of, Put}
use Rattle.sort.specs.declared.pair.Pair.{Pair}
use Rattle.numbers.proofs.Pairs.{same_pairs}
use Rattle.plan_record.proofs.Counted.{counted_are}
use Rattle.plan_record.proofs.Rows.{row_length}

-- ---- stores one behind the other

module _ {A : Type 0} where
  pub sets_append : (l : List A) (i : ℕ) (xs ys : List A) → sets l i (xs ++ ys) ≡ sets (sets l i xs) (i + length xs) ys
  sets_append l i [] ys = rw (add-zero i)
  sets_append l i (x ∷ xs) ys =
      let e : suc i + length xs ≡ i + suc (length xs) = omega arith in
      sets_append (set l i x) (suc i) xs ys ∙ ap (λ (n : ℕ). sets (sets (set l i x) (suc i) xs) n ys) e

  pub sets_next : (l : List A) (i n : ℕ) (xs : List A) (x : A) → length xs ≡ n → sets l i (xs ++ (x ∷ [])) ≡ set (sets l i xs) (i + n) x
  sets_next l i n xs x e = sets_append l i xs (x ∷ []) ∙ ap (λ (m : ℕ). set (sets l i xs) (i + m) x) e

-- what stands behind the pairs, after one more store
pub then_behind : (s t u : List ℕ) {i : ℕ} {p : Pair} → Put t i p u → length (pairs t) ≡ length (pairs s)
    → drop (2 * length (pairs s)) t ≡ drop (2 * length (pairs s)) s → drop (2 * length (pairs s)) u ≡ drop (2 * length (pairs s)) s
then_behind s t u w e b = subst (λ (n : ℕ). drop (2 * n) u ≡ drop (2 * n) t) e w.behind ∙ b

-- ---- the loop over a list of ranges

pub record Laying (s t : List ℕ) (at k : ℕ) (rs : List Range) : Type 0 where
  pub below : k ≤ length rs
  pub whole : length t ≡ length s
  pub stored : pairs t ≡ sets (pairs s) at (take k rs)
  pub behind : drop (2 * length (pairs s)) t ≡ drop (2 * length (pairs s)) s

module _ {s : List ℕ} {at : ℕ} {rs : List Range} where
  pub laying_begins : Laying s s at 0 rs
  laying_begins = record { below = omega arith; whole = refl; stored = refl; behind = refl }

  pub laying_turns : {t u : List ℕ} {k : ℕ} {p : Pair} → Laying s t at k rs → k < length rs → Put t (at + k) p u → length u ≡ length t
      → range_of p ≡ get_or rs k blank → Laying s u at (k + 1) rs
  laying_turns {t} {u} {k} {p} g h w n e =
      record {
        below = omega arith;
        whole = n ∙ g.whole;
        stored =
            w.stored ∙ rw (e, g.stored)
            (sym (ap (sets (pairs s) at) (ap (λ (n : ℕ). take n rs) (add-one k) ∙ take-suc rs k blank h)
            ∙ sets_next (pairs s) at k (take k rs) (get_or rs k blank) (length-take-le k rs g.below)));
        behind = then_behind s t u w (same_pairs t s g.whole) g.behind;
      }

  pub laying_ends : {t : List ℕ} {k : ℕ} → Laying s t at k rs → length rs ≤ k → Lays s t at rs
  laying_ends {t} {k} g h =
      let e : k ≡ length rs = omega (arith, g.below) in
      record { stored = g.stored ∙ ap (sets (pairs s) at) (ap (λ (n : ℕ). take n rs) e ∙ take-length rs); behind = g.behind }

-- ---- a region's extents and its footprint

pub part_at : (xs : List ℕ) (n first k : ℕ) → k < n → get_or (take n (drop first (pairs xs))) k blank ≡ get_or (pairs xs) (first + k) blank
part_at xs n first k h = get_or-take n (drop first (pairs xs)) k blank h ∙ get_or-drop first (pairs xs) k blank

module _ (xs : List ℕ) (g : Region) (long : places ≤ length (pairs xs)) where
  pub extents_length : length (region_extents xs g) ≡ min g.extent_count 60
  unfolding region_extents
  extents_length =
      let n = row_length (pairs xs) (min g.row 63) (omega arith) long in
      length-take-le (min g.extent_count 60) (row_in (min g.row 63) (pairs xs)) (omega arith)

  -- as the loop reads them, n from row i
  module _ (n i : ℕ) (a : n ≡ min g.extent_count 60) (b : i ≡ min g.row 63) where
    pub part_extents : take n (drop (60 * i) (pairs xs)) ≡ region_extents xs g
    unfolding region_extents row_in
    part_extents = rw (a, b) (sym (take-take (min g.extent_count 60) 60 (drop (60 * min g.row 63) (pairs xs)) (omega arith)))

    pub part_length : length (take n (drop (60 * i) (pairs xs))) ≡ n
    part_length = ap length part_extents ∙ extents_length ∙ sym a

  pub laid_length : (block : ℕ) → length (laid block xs g) ≡ 2 + min g.extent_count 60
  unfolding laid
  laid_length block = let e = extents_length in omega arith

  pub lays_footprint : (block : ℕ) (s t u v : List ℕ) (at : ℕ) (p q : Pair) → range_of p ≡ range g.header_a block → range_of q ≡ range g.header_b block
      → Put s at p t → Put t (at + 1) q u → Lays u v (at + 2) (region_extents xs g) → length t ≡ length s → length u ≡ length s → Lays s v at (laid block xs g)
  unfolding laid
  lays_footprint block s t u v at p q a b m n l lt lu =
      record {
        stored = l.stored ∙ rw (n.stored, m.stored, a, b) (let e : at + 2 ≡ suc (suc at) = omega arith in rw (e, add-one at));
        behind =
            subst (λ (k : ℕ). drop (2 * k) v ≡ drop (2 * k) u) (same_pairs u s lu) l.behind
            ∙ then_behind s t u n (same_pairs t s lt) m.behind;
      }

-- ---- the loop over the regions

module _ (block : ℕ) (xs : List ℕ) where
  each_next : (rs : List Region) (r : Region) → laid_each block xs (rs ++ (r ∷ [])) ≡ laid_each block xs rs ++ laid block xs r
  unfolding laid_each
  each_next [] r = append-nil (laid block xs r)
  each_next (q ∷ rs) r = ap (λ (l : List Range). laid block xs q ++ l) (each_next rs r) ∙ sym (append_assoc (laid block xs q) (laid_each block xs rs) (laid block xs r))

pub record LayingAll (block : ℕ) (xs : List ℕ) (gs : List Region) (s t : List ℕ) (i at : ℕ) : Type 0 where
  pub below : i ≤ length gs
  pub few : at ≤ 62 * i
  pub ends : at ≡ length (laid_each block xs (take i gs))
  pub whole : length t ≡ length s
  pub stored : pairs t ≡ sets (pairs s) 0 (laid_each block xs (take i gs))
  pub behind : drop (2 * length (pairs s)) t ≡ drop (2 * length (pairs s)) s

module _ {block : ℕ} {xs : List ℕ} {gs : List Region} {s : List ℕ} where
  pub all_begins : LayingAll block xs gs s s 0 0
  unfolding laid_each
  all_begins = record { below = omega arith; few = omega arith; ends = refl; whole = refl; stored = refl; behind = refl }

  pub all_turns : {t u : List ℕ} {i at n : ℕ} → LayingAll block xs gs s t i at → i < length gs → places ≤ length (pairs xs)
      → Lays t u at (laid block xs (get_or gs i past_region)) → n ≡ at + length (laid block xs (get_or gs i past_region)) → length u ≡ length t
      → LayingAll block xs gs s u (i + 1) n
  all_turns {t} {u} {i} {at} {n} g h long l e w =
      let r = get_or gs i past_region in
      let f : laid_each block xs (take (i + 1) gs) ≡ laid_each block xs (take i gs) ++ laid block xs r =
      ap (λ (m : ℕ). laid_each block xs (take m gs)) (add-one i) ∙ ap (laid_each block xs) (take-suc gs i past_region h) ∙ each_next block xs (take i gs) r in
      let m = laid_length xs r long block in
      let b = g.few in
      record {
        below = omega arith;
        few = omega arith;
        whole = w ∙ g.whole;
        ends = rw f (rw length-append (omega (arith, g.ends)));
        stored =
            l.stored ∙ rw g.stored
            (sym (ap (sets (pairs s) 0) f ∙ sets_append (pairs s) 0 (laid_each block xs (take i gs)) (laid block xs r)
            ∙ ap (λ (k : ℕ). sets (sets (pairs s) 0 (laid_each block xs (take i gs))) k (laid block xs r)) (let q : 0 + length (laid_each block xs (take i gs)) ≡ at = omega (arith, g.ends) in q)));
        behind = subst (λ (k : ℕ). drop (2 * k) u ≡ drop (2 * k) t) (same_pairs t s g.whole) l.behind ∙ g.behind;
      }

-- over the regions that a plan counts
module _ (p : Plan) {n : ℕ} (c : n ≡ length (regions_of p)) {block : ℕ} {xs : List ℕ} {s t : List ℕ} {i at : ℕ} (f : LayingAll block xs (take n p.regions) s t i at) where
  g : LayingAll block xs (regions_of p) s t i at
  g = subst (λ (rs : List Region). LayingAll block xs rs s t i at) (counted_are p n c) f

  module _ (b : block ≡ block_in p) (h : length (take n p.regions) ≤ i) where
    past : length (regions_of p) ≤ i
    past = subst (λ (rs : List Region). length rs ≤ i) (counted_are p n c) h

    whole_is : laid_each block xs (take i (regions_of p)) ≡ laid_all p xs
    whole_is = rw b (ap (laid_each (block_in p) xs) (take_all i (regions_of p) past))

    pub all_ends : Lays s t 0 (laid_all p xs)
    all_ends = record { stored = g.stored ∙ ap (sets (pairs s) 0) whole_is; behind = g.behind }

    pub all_length : at ≡ length (laid_all p xs)
    all_length = g.ends ∙ ap length whole_is

-- ---- how many there are at most

module _ (block : ℕ) (xs : List ℕ) where
  laid_most : (r : Region) → length (laid block xs r) ≤ 2 + min r.extent_count 60
  unfolding laid region_extents
  laid_most r = let e = length-take (min r.extent_count 60) (row_in (min r.row 63) (pairs xs)) in omega (arith, e)

  counted_most : (gs : List Region) (n : ℕ) → n + 62 * length gs ≤ top
      → n + length (laid_each block xs gs) ≤ fold {A = Region} {B = ℕ} (λ s r. stop (stop (s + 2) + min r.extent_count 60)) n gs
  unfolding laid_each
  counted_most [] n h = omega arith
  counted_most (g ∷ gs) n h =
      let m = laid_most g in
      let e = length-append (laid block xs g) (laid_each block xs gs) in
      let i = counted_most gs (stop (stop (n + 2) + min g.extent_count 60)) (omega (arith, h)) in
      omega (arith, m, e, i, h)

counted_few : (gs : List Region) (n : ℕ) → fold {A = Region} {B = ℕ} (λ s r. stop (stop (s + 2) + min r.extent_count 60)) n gs ≤ n + 62 * length gs
counted_few [] n = omega arith
counted_few (g ∷ gs) n = let i = counted_few gs (stop (stop (n + 2) + min g.extent_count 60)) in omega (arith, i)

pub most_ranges : (p : Plan) {n k : ℕ} → n ≡ length (regions_of p) → n ≤ 64
    → k ≡ fold {A = Region} {B = ℕ} (λ s r. stop (stop (s + 2) + min r.extent_count 60)) 0 (take n p.regions) → MostRanges p k
most_ranges p {n} {k} c h e =
    let f = e ∙ ap (fold {A = Region} {B = ℕ} (λ s r. stop (stop (s + 2) + min r.extent_count 60)) 0) (counted_are p n c) in
    record {
      enough = λ xs. let m = counted_most (block_in p) xs (regions_of p) 0 (omega (arith, c, h)) in omega (arith, m, f);
      most = let m = counted_few (regions_of p) 0 in omega (arith, m, f, c, h);
    }
