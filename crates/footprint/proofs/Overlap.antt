-- The overlap test: what `overlaps` says of the bytes, and that on a sorted list the neighbours decide.
use Prim.Native.Nat.{ℕ, suc, ◌+◌, ◌-◌, ◌≤◌, ◌<◌}
use mathlib.Core.Bool.{true, false, ◌||◌}
use mathlib.Core.List.{List, [], ◌∷◌}
use mathlib.Core.Path.{◌≡◌, refl, sym, ◌∙◌}
use native.Mathlib.Omega.{arith}
use lib.Dec.{ltb}
use lib.ListN.{length, get_or}
use borrow.Author.Tests.{ltb-true, ltb-false}
use Rattle.footprint.specs.Footprint.{overlaps}
use Rattle.footprint.specs.Inner.{neighbours_meet}
use Rattle.numbers.specs.Lists.{All, any, any_two}
use Rattle.numbers.specs.Order.{precedes, InOrder}
use Rattle.numbers.specs.Range.{Range, end_of, Meet, meets, Disjoint, blank}
use Rattle.numbers.specs.Sums.{top}
use Rattle.sort.specs.Sort.{insert, sorted, Ascending}
use Rattle.numbers.proofs.Cases.{cases, clash, never}
use Rattle.numbers.proofs.Lists.{all_imp, any_at, any_true, of_none, pairwise_before, two_false, of_no_two, or_exchange}
use Rattle.numbers.proofs.Order.{in_offset}
use Rattle.numbers.proofs.Ranges.{end_exact, apart, meets_true, meet_true, meets_false, meets_comm}
use Rattle.sort.proofs.Laws.{test_insert, test_sorted}

-- two ranges of the list, at different places, that meet
pub record TwoMeet (l : List Range) : Type 0 where
  pub left : ℕ
  pub right : ℕ
  pub order : left < right
  pub inside : right < length l
  pub meet : Meet (get_or l left blank) (get_or l right blank)

pub overlaps_true : (l : List Range) → overlaps l ≡ true → TwoMeet l
unfolding any_two
overlaps_true [] e = clash {b = false} e refl
overlaps_true (r ∷ rs) e =
    cases (any (meets r) rs)
    (λ t.
    let m = any_at (λ (q : Range). meets r q ≡ true) rs blank (any_true (meets r) rs t) in
    record { left = 0; right = suc m.0; order = omega arith; inside = omega (arith, m.1); meet = meets_true r (get_or rs m.0 blank) m.2 })
    (λ f.
    let m = overlaps_true rs (sym (simp f) ∙ e) in
    record { left = suc m.left; right = suc m.right; order = omega (arith, m.order); inside = omega (arith, m.inside); meet = m.meet })

-- no two ranges of the list have a common byte
pub overlaps_disjoint : (l : List Range) → overlaps l ≡ false → Disjoint l
overlaps_disjoint = two_false meets (λ (r q : Range). Meet r q → ⊥) meets_false

pub disjoint_overlaps : (l : List Range) → Disjoint l → overlaps l ≡ false
disjoint_overlaps = of_no_two meets (λ (r q : Range). Meet r q → ⊥) (λ r q n. never (meets r q) (λ t. n (meets_true r q t)))

pub overlaps_false : (l : List Range) → overlaps l ≡ false → (i j : ℕ) → i < j → j < length l → Meet (get_or l i blank) (get_or l j blank) → ⊥
overlaps_false l e i j a b = pairwise_before (λ (r q : Range). Meet r q → ⊥) l blank i j (overlaps_disjoint l e) a b

-- ---- the sorted list overlaps itself as the list does

overlaps_insert : (x : Range) (l : List Range) → overlaps (insert x l) ≡ (any (meets x) l || overlaps l)
unfolding any_two any insert
overlaps_insert x [] = refl
overlaps_insert x (y ∷ ys) =
    cases (precedes x y) (λ e. simp e)
    (λ e. simp (e, test_insert (meets y) x ys, overlaps_insert x ys, meets_comm y x) (or_exchange (meets x y) (any (meets y) ys) (any (meets x) ys) (overlaps ys)))

pub overlaps_sorted : (l : List Range) → overlaps (sorted l) ≡ overlaps l
unfolding any_two sorted
overlaps_sorted [] = refl
overlaps_sorted (x ∷ xs) = overlaps_insert x (sorted xs) ∙ rw (test_sorted (meets x) xs, overlaps_sorted xs)

-- ---- of a sorted list of ranges that have bytes and end below 2^64 the neighbours decide

pub record Solid (r : Range) : Type 0 where
  pub some : 0 < r.len
  pub ends : r.offset + r.len ≤ top

-- a range that ends where the next begins meets none of those behind
behind : (r q : Range) (l : List Range) → end_of r ≤ q.offset → All (InOrder q) l → any (meets r) (q ∷ l) ≡ false
behind r q l h a =
    of_none (meets r) (q ∷ l)
    (clear q h, all_imp (InOrder q) (λ (p : Range). meets r p ≡ false) (λ p o. let i = in_offset q p o in clear p (omega arith)) l a)
  where
    clear : (p : Range) → end_of r ≤ p.offset → meets r p ≡ false
    clear p g = cases (meets r p) (λ t. absurd (apart r p g (meets_true r p t))) (λ f. f)

touch : (r q : Range) → Solid r → Solid q → r.offset ≤ q.offset → q.offset - r.offset < r.len → meets r q ≡ true
touch r q a b o h =
    let e = end_exact r a.ends in
    let f = end_exact q b.ends in
    let s = b.some in
    meet_true r q (record {
      byte = q.offset;
      left = record { from = o; upto = omega arith };
      right = record { from = omega arith; upto = omega arith };
    })

pub neighbours_decide : (l : List Range) → Ascending l → All Solid l → neighbours_meet l ≡ overlaps l
unfolding neighbours_meet any_two any
neighbours_decide [] a s = refl
neighbours_decide (r ∷ []) a s = refl
neighbours_decide (r ∷ q ∷ l) a s =
    let o = in_offset r q a.0.0 in
    cases (ltb (q.offset - r.offset) r.len)
    (λ t. simp (t, touch r q s.0 s.1.0 o (ltb-true _ _ t)))
    (λ f.
    let g = ltb-false (q.offset - r.offset) r.len f in
    let e = end_exact r s.0.ends in
    simp (f, behind r q l (omega arith) a.1.0) (neighbours_decide (q ∷ l) a.1 s.1))
