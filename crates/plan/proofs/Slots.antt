-- One place of a row that changes: the row, the other rows, and what stands behind all rows.
use Prim.Native.Nat.{ℕ, ◌+◌, ◌-◌, ◌*◌, ◌≤◌, ◌<◌}
use mathlib.Core.Bool.{Bool, false, cond}
use mathlib.Core.List.{List}
use mathlib.Core.Logic.{inl, inr, ⊎_elim}
use mathlib.Core.Path.{◌≡◌, ap, sym, ◌∙◌}
use native.Mathlib.Omega.{arith}
use lib.ListN.{length, drop, set, length-set}
use lib.Seq.{set_out, drop-set-lt}
use borrow.Author.Tests.{le-ltb}
use borrow.Rule.Slice.PartMut.{mid_of, put_mid, put_same, set_mid_at}
use Rattle.plan_record.specs.Plan.{row_in, places}
use Rattle.plan.specs.Calls.{OnePlace}
use Rattle.numbers.proofs.Cases.{cases, by_lt}
use Rattle.plan_record.proofs.Rows.{row_length, row_own, row_other, row_part}
use Rattle.regionmap.specs.Map as regionmap

module _ {A : Type 0} (row : ℕ) (l₀ l : List A) (o : OnePlace row l₀ l) where
  pub place_length : length l ≡ length l₀
  place_length = ⊎_elim (λ e. ap length e) (λ p. ap length p.3 ∙ length-set l₀ (60 * row + p.0) p.1) o

  pub place_other : (k : ℕ) → (k ≡ row → ⊥) → row_in k l ≡ row_in k l₀
  place_other k d = ⊎_elim (λ e. ap (row_in k) e) (λ p. ap (row_in k) p.3 ∙ row_other l₀ row k p.0 p.1 p.2 d) o

  -- slots behind the 64 rows keep their content
  pub place_behind : row < 64 → drop places l ≡ drop places l₀
  place_behind h = ⊎_elim (λ e. ap (drop places) e) (λ p. ap (drop places) p.3 ∙ drop-set-lt places l₀ (60 * row + p.0) p.1 (let q = p.2 in omega arith)) o

-- a row that was lent as a part, and came back with one place set or none
module _ {A : Type 0} (l : List A) (j : ℕ) (h : j < 64) (long : places ≤ length l) (b : Bool) (k : ℕ) (v : A) (ys : List A) where
  abbrev part : List A
  part = mid_of (60 * j) (60 * j + 60 - 60 * j) l

  abbrev back : List A
  back = put_mid (60 * j) (60 * j + 60 - 60 * j) l ys

  part_length : length part ≡ 60
  part_length = ap length (row_part l j) ∙ row_length l j h long

  same_back : ys ≡ part → back ≡ l
  same_back e = rw e (put_same (60 * j) (60 * j + 60 - 60 * j) l)

  module _ (e : ys ≡ cond b (set part k v) part) where
    pub place_one : OnePlace j l back
    place_one =
        cases b
        (λ t.
        let q : ys ≡ set part k v = e ∙ rw t in
        by_lt k 60
        (λ m. inr (k, v, m, rw q (set_mid_at (60 * j) (60 * j + 60 - 60 * j) k l v (omega (arith, part_length)))))
        (λ m. inl (same_back (q ∙ set_out part k v (omega (arith, part_length))))))
        (λ t. inl (same_back (e ∙ rw t)))

    pub place_row : row_in j back ≡ ys
    place_row =
        cases b
        (λ t.
        let q : ys ≡ set part k v = e ∙ rw t in
        by_lt k 60
        (λ m.
        ap (row_in j) (rw q (set_mid_at (60 * j) (60 * j + 60 - 60 * j) k l v (omega (arith, part_length))))
        ∙ row_own l j k v m ∙ ap (λ (r : List A). set r k v) (sym (row_part l j)) ∙ sym q)
        (λ m. let z = q ∙ set_out part k v (omega (arith, part_length)) in ap (row_in j) (same_back z) ∙ sym (row_part l j) ∙ sym z))
        (λ t. let z : ys ≡ part = e ∙ rw t in ap (row_in j) (same_back z) ∙ sym (row_part l j) ∙ sym z)

-- ---- lists that are long enough for a map

pub few_not : (n : ℕ) (ss fs : List ℕ) → n ≤ length ss → n ≤ length fs → regionmap.too_few n ss fs ≡ false
unfolding regionmap.too_few
few_not n ss fs a b = simp (le-ltb _ _ a, le-ltb _ _ b)
