-- A row put back into its list: it is that row, the others are as they were, and so is what stands behind.
use Prim.Native.Nat.{ℕ, ◌-◌, ◌+◌, ◌*◌, ◌%◌, ◌≤◌}
use mathlib.Core.List.{List, ◌++◌}
use mathlib.Core.Path.{◌≡◌, ap, sym, ◌∙◌}
use native.Mathlib.Omega.{arith}
use lib.ListN.{length, take, drop, length-drop, take-append-drop}
use lib.Seq.{take-append-le, drop-append-le, take_at, drop_at, drop-drop, length-take-le}
use borrow.Rule.Slice.PartMut.{put_mid, take_put, drop_put, mid_len, same_len_mid}
use Rattle.numbers.specs.Pairs.{pairs}
use Rattle.plan_record.specs.Plan.{row_in}
use Rattle.numbers.proofs.Cases.{by_lt}
use Rattle.numbers.proofs.Pairs.{pairs_append, pairs_take, pairs_drop}

module _ {A : Type 0} where
  pub put_behind : (a e m : ℕ) (xs ys : List A) → a ≤ e → e ≤ m → e ≤ length xs → length ys ≡ e - a
      → drop m (put_mid a (e - a) xs ys) ≡ drop m xs
  put_behind a e m xs ys h k l q =
      let f : e + (m - e) ≡ m = omega arith in
      let split : (zs : List A) → drop m zs ≡ drop (m - e) (drop e zs) =
      λ zs. ap (λ (j : ℕ). drop j zs) (sym f) ∙ sym (drop-drop (m - e) e zs) in
      split (put_mid a (e - a) xs ys) ∙ ap (drop (m - e)) (drop_put a e xs ys h l q) ∙ sym (split xs)

  -- a row in front of the place a
  row_before : (j a : ℕ) (xs : List A) → 60 * j + 60 ≤ a → a ≤ length xs → row_in j xs ≡ row_in j (take a xs)
  unfolding row_in
  row_before j a xs h l =
      let t = length-take-le a xs l in
      let d = length-drop (60 * j) (take a xs) in
      ap (λ (zs : List A). take 60 (drop (60 * j) zs)) (sym (take-append-drop a xs))
      ∙ ap (take 60) (drop-append-le (60 * j) (take a xs) (drop a xs) (omega arith))
      ∙ take-append-le 60 (drop (60 * j) (take a xs)) (drop a xs) (omega arith)

  module _ (i : ℕ) (xs ys : List A) (q : length ys ≡ 60) (l : 60 * i + 60 ≤ length xs) where
    -- as the code takes it
    abbrev put : List A
    put = put_mid (60 * i) (60 * i + 60 - 60 * i) xs ys

    pub row_put : row_in i put ≡ ys
    unfolding row_in
    row_put =
        ap (take 60) (drop_at (take (60 * i) xs) _ (60 * i) (length-take-le (60 * i) xs (omega arith)))
        ∙ take_at ys _ 60 q

    pub row_keep : (j : ℕ) → (j ≡ i → ⊥) → row_in j put ≡ row_in j xs
    unfolding row_in
    row_keep j d =
        let e : length ys ≡ 60 * i + 60 - 60 * i = omega arith in
        by_lt j i
        (λ h.
        let s : length put ≡ length xs =
        same_len_mid (60 * i) (60 * i + 60 - 60 * i) xs ys (e ∙ sym (mid_len (60 * i) (60 * i + 60) xs l)) in
        row_before j (60 * i) put (omega arith) (omega arith)
        ∙ ap (row_in j) (take_put (60 * i) (60 * i + 60 - 60 * i) xs ys (omega arith))
        ∙ sym (row_before j (60 * i) xs (omega arith) (omega arith)))
        (λ h. ap (take 60) (put_behind (60 * i) (60 * i + 60) (60 * j) xs ys (omega arith) (omega (arith, d)) l e))

-- the same of pairs
pub pairs_put : (a k : ℕ) (xs ys : List ℕ) → 2 * a ≤ length xs → length ys % 2 ≡ 0
    → pairs (put_mid (2 * a) (2 * k) xs ys) ≡ put_mid a k (pairs xs) (pairs ys)
pairs_put a k xs ys h e =
    let l = length-take-le (2 * a) xs h in
    pairs_append (take (2 * a) xs) (ys ++ drop (2 * k) (drop (2 * a) xs)) (omega arith)
    ∙ rw (pairs_append ys (drop (2 * k) (drop (2 * a) xs)) e, pairs_take a xs, pairs_drop k (drop (2 * a) xs), pairs_drop a xs)

pub pair_rows : (i : ℕ) (xs ys : List ℕ) → length ys ≡ 120 → 120 * i ≤ length xs
    → pairs (put_mid (120 * i) (120 * i + 120 - 120 * i) xs ys) ≡ put_mid (60 * i) (60 * i + 60 - 60 * i) (pairs xs) (pairs ys)
pair_rows i xs ys q h =
    let a : 120 * i ≡ 2 * (60 * i) = omega arith in
    let b : 120 * i + 120 - 120 * i ≡ 2 * (60 * i + 60 - 60 * i) = omega arith in
    rw (b, a) (pairs_put (60 * i) (60 * i + 60 - 60 * i) xs ys (omega arith) (omega arith))
