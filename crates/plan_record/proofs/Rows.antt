-- Rows of a lent list: one place set in a row, and the other rows as they were.
use Prim.Native.Nat.{ℕ, ◌+◌, ◌-◌, ◌*◌, ◌≤◌, ◌<◌, min}
use mathlib.Core.List.{List}
use mathlib.Core.Path.{◌≡◌, ap, ◌∙◌}
use native.Mathlib.Omega.{arith}
use lib.ListN.{length, take, drop, set, get_or, length-drop, length-take}
use lib.Seq.{take-set-le, take-set-lt, drop-set-lt, drop-set-add, get_or-take, get_or-drop}
use borrow.Rule.Slice.PartMut.{mid_of}
use Rattle.plan_record.specs.Plan.{row_in, places}
use Rattle.numbers.proofs.Cases.{by_lt}

module _ {A : Type 0} (xs : List A) where
  pub row_length : (i : ℕ) → i < 64 → places ≤ length xs → length (row_in i xs) ≡ 60
  unfolding row_in
  row_length i h l = simp (length-take, length-drop) (omega arith)

  pub row_at : (i k : ℕ) (d : A) → k < 60 → get_or (row_in i xs) k d ≡ get_or xs (60 * i + k) d
  unfolding row_in
  row_at i k d h = get_or-take 60 (drop (60 * i) xs) k d h ∙ get_or-drop (60 * i) xs k d

  pub row_own : (i k : ℕ) (v : A) → k < 60 → row_in i (set xs (60 * i + k) v) ≡ set (row_in i xs) k v
  unfolding row_in
  row_own i k v h = ap (take 60) (drop-set-add (60 * i) xs k v) ∙ take-set-lt 60 (drop (60 * i) xs) k v h

  pub row_other : (i j k : ℕ) (v : A) → k < 60 → (j ≡ i → ⊥) → row_in j (set xs (60 * i + k) v) ≡ row_in j xs
  unfolding row_in
  row_other i j k v h d =
      by_lt i j (λ l. ap (take 60) (drop-set-lt (60 * j) xs (60 * i + k) v (omega arith)))
      (λ l.
      let m = 60 * i + k - 60 * j in
      let e : 60 * i + k ≡ 60 * j + m = omega arith in
      ap (λ (n : ℕ). take 60 (drop (60 * j) (set xs n v))) e
      ∙ ap (take 60) (drop-set-add (60 * j) xs m v)
      ∙ take-set-le 60 (drop (60 * j) xs) m v (omega (arith, d)))

  -- the part `&xs[60 * i..60 * i + 60]`, as the code computes its length
  pub row_part : (i : ℕ) → mid_of (60 * i) (60 * i + 60 - 60 * i) xs ≡ row_in i xs
  unfolding row_in
  row_part i = let e : 60 * i + 60 - 60 * i ≡ 60 = omega arith in rw e

  -- where the code held the row to those that there are
  pub row_held : (i j : ℕ) → j ≡ min i 63 → i < 64 → mid_of (60 * j) (60 * j + 60 - 60 * j) xs ≡ row_in i xs
  row_held i j e h = row_part j ∙ ap (λ (k : ℕ). row_in k xs) (let d : j ≡ i = omega arith in d)
