-- The footprint in scratch: the loop that copies the extents, and the one that looks for neighbours that meet.
use Rattle.std.proofs.Common.{take_all}
use Rattle.std.proofs.lemmas.Slice.{take-put_mid}
use borrow.Rule.Slice.PartMut.{put_mid, same_len_mid}
use Prim.Native.Nat.{ℕ, suc, ◌+◌, ◌-◌, ◌*◌, ◌%◌, ◌≤◌, ◌<◌}
use mathlib.Core.Bool.{Bool, false, ◌||◌}
use mathlib.Core.List.{List, [], ◌∷◌, ◌++◌}
use mathlib.Core.Path.{◌≡◌, refl, ap, sym, ◌∙◌}
use native.Mathlib.Omega.{arith}
use lib.Dec.{ltb}
use lib.ListN.{length, get_or, take, drop, set, length-append, length-take, length-set, length-drop}
use lib.Seq.{drop-cons, length-take-le}
use Rattle.footprint.specs.Footprint.{block_of, ranges, footprint_of}
use Rattle.footprint.specs.Inner.{neighbours_meet, LaidOut}
use Rattle.footprint.specs.declared.Entry.{Entry}
use Rattle.footprint.specs.declared.Limits.{Limits}
use Rattle.numbers.specs.Pairs.{pairs, flat}
use Rattle.numbers.specs.Range.{Range, range, blank}
use Rattle.numbers.specs.Refusals.{Answer}
use Rattle.sort.specs.Sort.{sorted, Ascending, Sorted}
use borrow.Author.Tests.{le-ltb}
use Rattle.numbers.proofs.Cases.{by_eq}
use Rattle.numbers.proofs.Lists.{all_imp}
use Rattle.numbers.proofs.Order.{by_length, by_offset, in_offset, in_trans}
use Rattle.numbers.specs.Order.{InOrder}
use Rattle.numbers.proofs.Pairs.{flat_pairs, pairs_flat, pairs_take, even_list}
use Rattle.sort.proofs.Laws.{ascending_at, ascending_sorted, sorted_ascending}

-- none of the first i ranges meets the one in front of it
pub record Looked (rs : List Range) (i : ℕ) : Type 0 where
  pub order : Ascending rs
  pub some : 1 ≤ i
  pub rest : neighbours_meet rs ≡ neighbours_meet (drop (i - 1) rs)

pub look_begins : (rs : List Range) → Ascending rs → Looked rs 1
look_begins rs a = record { order = a; some = omega arith; rest = refl }

first_two : (r q : Range) (rs : List Range) → neighbours_meet (r ∷ q ∷ rs) ≡ (ltb (q.offset - r.offset) r.len || neighbours_meet (q ∷ rs))
unfolding neighbours_meet
first_two r q rs = refl

short : (l : List Range) → length l ≤ 1 → neighbours_meet l ≡ false
unfolding neighbours_meet
short [] h = refl
short (x ∷ []) h = refl
short (x ∷ y ∷ l) h = absurd (omega arith)

module _ {rs : List Range} {i : ℕ} (g : Looked rs i) where
  module _ {a n b m : ℕ} (h : i < length rs) (at : get_or rs (i - 1) blank ≡ range a n) (behind : get_or rs i blank ≡ range b m) where
    pub look_order : a ≤ b
    look_order =
        let o = in_offset (get_or rs (i - 1) blank) (get_or rs i blank) (ascending_at rs (i - 1) i g.order (omega (arith, g.some)) h) in
        omega (arith, o, ap (λ (r : Range). r.offset) at, ap (λ (r : Range). r.offset) behind)

    pub look_next : neighbours_meet rs ≡ (ltb (b - a) n || neighbours_meet (drop i rs))
    look_next =
        let e : suc (i - 1) ≡ i = omega (arith, g.some) in
        let d : drop (i - 1) rs ≡ range a n ∷ drop i rs = drop-cons rs (i - 1) blank (omega arith) ∙ rw (at, e) in
        let f : drop i rs ≡ range b m ∷ drop (suc i) rs = drop-cons rs i blank h ∙ rw behind in
        g.rest ∙ rw d (rw f (first_two (range a n) (range b m) (drop (suc i) rs)))

    pub look_on : ltb (b - a) n ≡ false → Looked rs (i + 1)
    look_on f = let e : i + 1 - 1 ≡ i = omega arith in record { order = g.order; some = omega arith; rest = look_next ∙ simp f (rw e) }

  pub look_ends : length rs ≤ i → neighbours_meet rs ≡ false
  look_ends h = g.rest ∙ short (drop (i - 1) rs) (rw length-drop (omega arith))

-- ---- ranges of which each ends where the next begins, or before

-- x ends where y begins, or before
abbrev InFront : Range → Range → Type 0
InFront x y = x.offset + x.len ≤ y.offset

in_front : (x y : Range) → InFront x y → InOrder x y
in_front x y h =
    by_eq y.offset x.offset (λ e. by_length y x e ∙ le-ltb y.len x.len (omega arith)) (λ n. by_offset y x n ∙ le-ltb y.offset x.offset (omega arith))

pub each_in_front :
    (l : List Range) → ((k : ℕ) → suc k < length l → InFront (get_or l k blank) (get_or l (suc k) blank))
    → Ascending l × (neighbours_meet l ≡ false)
each_in_front [] f = (tt, short [] (omega arith))
each_in_front (x ∷ []) f = ((tt, tt), short (x ∷ []) (omega arith))
each_in_front (x ∷ y ∷ l) f =
    let h : InFront x y = f 0 (omega arith) in
    let r = each_in_front (y ∷ l) (λ k q. f (suc k) (omega arith)) in (
      ((in_front x y h, all_imp (InOrder y) (InOrder x) (λ z i. in_trans x y z (in_front x y h) i) l r.0.0), r.0),
      first_two x y l ∙ simp (le-ltb (y.offset - x.offset) x.len (omega arith), r.1),
    )

-- so far each of the first i does
pub record Lined (rs : List Range) (i : ℕ) : Type 0 where
  pub some : 1 ≤ i
  pub so_far : (k : ℕ) → suc k < i → InFront (get_or rs k blank) (get_or rs (suc k) blank)

pub line_begins : (rs : List Range) → Lined rs 1
line_begins rs = record { some = omega arith; so_far = λ k h. absurd (omega arith) }

module _ {rs : List Range} {i : ℕ} (g : Lined rs i) where
  pub line_on : {a n b m : ℕ} → get_or rs (i - 1) blank ≡ range a n → get_or rs i blank ≡ range b m → a ≤ b → n ≤ b - a → Lined rs (i + 1)
  line_on {a} {n} {b} {m} x y h l =
      record {
        some = omega arith;
        so_far = λ k q.
            by_eq (suc k) i
            (λ e.
            let p : k ≡ i - 1 = omega arith in
            rw (e, p, x, y) (omega arith))
            (λ d. g.so_far k (omega arith));
      }

  pub line_ends : length rs ≤ i → Ascending rs × (neighbours_meet rs ≡ false)
  line_ends h = each_in_front rs (λ k q. g.so_far k (omega arith))

-- the first numbers of a list copied behind the first four slots
pub copied_behind : (s xs ys : List ℕ) → 4 ≤ length s → length s ≤ length xs + 4 → ys ≡ take (length s - 4) xs → put_mid 4 (length s - 4) s ys ≡ take 4 s ++ take (length s - 4) xs
copied_behind s xs ys a b e =
    let n : length ys ≡ length s - 4 = ap length e ∙ length-take-le (length s - 4) xs (omega arith) in
    let m : length (put_mid 4 (length s - 4) s ys) ≡ length s = same_len_mid 4 (length s - 4) s ys (n ∙ sym (length-take-le (length s - 4) (drop 4 s) (omega (arith, length-drop 4 s)))) in
    sym (take_all (length s) (put_mid 4 (length s - 4) s ys) (omega arith)) ∙ take-put_mid 4 (length s - 4) s ys (length s) (omega arith) a ∙ ap (λ (l : List ℕ). take 4 s ++ l) e

-- the slots that are sorted: both header blocks, and the committed extents
module _ (a b c d count : ℕ) (xs : List ℕ) where
  abbrev pub filled : List ℕ → List ℕ
  filled s = take 4 (set (set (set (set s 0 a) 1 b) 2 c) 3 d) ++ take (length (set (set (set (set s 0 a) 1 b) 2 c) 3 d) - 4) xs

  pub filled_pairs : (s : List ℕ) → length s ≡ 2 * (count + 2) → 2 * count ≤ length xs → pairs (filled s) ≡ range a b ∷ range c d ∷ take count (pairs xs)
  unfolding pairs
  filled_pairs [] e h = absurd (omega arith)
  filled_pairs (s0 ∷ []) e h = absurd (omega arith)
  filled_pairs (s0 ∷ s1 ∷ []) e h = absurd (omega arith)
  filled_pairs (s0 ∷ s1 ∷ s2 ∷ []) e h = absurd (omega arith)
  filled_pairs (s0 ∷ s1 ∷ s2 ∷ s3 ∷ s) e h =
      let n : suc (suc (suc (suc (length s)))) - 4 ≡ 2 * count = omega arith in
      rw n (ap (λ (t : List Range). range a b ∷ range c d ∷ t) (pairs_take count xs))

  filled_long : (s : List ℕ) → length s ≡ 2 * (count + 2) → 2 * count ≤ length xs → length (filled s) % 2 ≡ 0
  filled_long s e h =
      let l : length (filled s) ≡ 2 * (count + 2) = rw (length-append, length-take, length-take, length-set, length-set, length-set, length-set) (omega arith) in
      omega arith

-- t is s, filled
module _ (lim : Limits) (e : Entry) (block : ℕ) (xs s t : List ℕ) (b : block ≡ block_of lim) (l : length s ≡ 2 * (e.extent_count + 2))
    (h : 2 * e.extent_count ≤ length xs) (c : t ≡ filled e.header_a block e.header_b block e.extent_count xs s) where
  laid : pairs t ≡ ranges lim e xs
  laid = ap pairs c ∙ filled_pairs e.header_a block e.header_b block e.extent_count xs s l h ∙ rw b

  even : length t % 2 ≡ 0
  even = ap (λ (q : List ℕ). length q % 2) c ∙ filled_long e.header_a block e.header_b block e.extent_count xs s l h

  -- sorted, with what is found of its neighbours
  pub laid_out : (u : List ℕ) (r : Answer (Unit {0})) (m : Bool) → Sorted t u r → m ≡ neighbours_meet (pairs u) → LaidOut lim e xs u m
  laid_out u r m o q =
      let d : u ≡ flat (footprint_of lim e xs) = o.list ∙ simp (even_list t even, laid) in
      record { slots = d; answer = q ∙ ap neighbours_meet (ap pairs d ∙ pairs_flat (footprint_of lim e xs)) }

  pub in_order : (u : List ℕ) (r : Answer (Unit {0})) → Sorted t u r → Ascending (pairs u)
  in_order u r o = rw (o.list, even_list t even) (rw (pairs_flat (sorted (pairs t))) (sorted_ascending (pairs t)))

  -- as it is, where it is in order and apart
  pub laid_apart : Ascending (pairs t) × (neighbours_meet (pairs t) ≡ false) → LaidOut lim e xs t false
  laid_apart o =
      let d : t ≡ flat (footprint_of lim e xs) = sym (flat_pairs t even) ∙ ap flat (sym (ascending_sorted (pairs t) o.0) ∙ ap sorted laid) in
      record { slots = d; answer = sym o.1 ∙ ap neighbours_meet (ap pairs d ∙ pairs_flat (footprint_of lim e xs)) }
