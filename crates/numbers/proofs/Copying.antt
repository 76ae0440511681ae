-- One list written over the front of another, item by item.
use Prim.Native.Nat.{ℕ, suc, ◌+◌, ◌-◌, ◌≤◌, ◌<◌, min}
use mathlib.Core.List.{List, [], ◌∷◌, ◌++◌}
use mathlib.Core.Path.{◌≡◌, refl, ap, sym, ◌∙◌}
use native.Mathlib.Omega.{arith}
use lib.ListN.{length, get_or, take, drop, set, length-take, length-drop}
use lib.Seq.{drop-cons, append_snoc, set_at, take-append_seam, take-suc, length-take-le}
use Rattle.std.proofs.Common.{drop_of_length-le, take_all}
use Rattle.std.proofs.lemmas.List.{append-nil, take_min}
use Rattle.numbers.specs.Lists.{written}

module _ {A : Type 0} (xs ys : List A) where
  -- the first i items are written
  pub record Copying (zs : List A) (i : ℕ) : Type 0 where
    pub done : zs ≡ take i xs ++ drop i ys

  pub copying_begins : Copying ys 0
  copying_begins = record { done = refl }

  pub copying_on : (zs : List A) (i : ℕ) (x : A) → i < min (length ys) (length xs) → x ≡ get_or xs i x → Copying zs i → Copying (set zs i x) (i + 1)
  copying_on zs i x l e c =
      let k : i < length xs = omega (arith, l) in
      let m : i < length ys = omega (arith, l) in
      let s : suc i ≡ i + 1 = omega arith in
      let more = drop (suc i) ys in
      let f : take i xs ++ (x ∷ []) ≡ take (suc i) xs = ap (λ a. take i xs ++ (a ∷ [])) e ∙ sym (take-suc xs i x k) in
      let p : set zs i x ≡ take (suc i) xs ++ more =
      ap (λ t. set t i x) (c.done ∙ ap (λ t. take i xs ++ t) (drop-cons ys i x m))
      ∙ set_at (take i xs) (get_or ys i x) more x i (length-take-le i xs (omega (arith, k)))
      ∙ sym (append_snoc (take i xs) x more)
      ∙ ap (λ t. t ++ more) f in
      record { done = p ∙ ap (λ n. take n xs ++ drop n ys) s }

  pub copying_ends : (zs : List A) (i : ℕ) → i ≡ min (length ys) (length xs) → Copying zs i → zs ≡ written (take (length ys) xs) ys
  copying_ends zs i e c =
      let f : take i xs ≡ take (length ys) xs = ap (λ n. take n xs) e ∙ take_min (length ys) xs in
      let b : i ≡ length (take (length ys) xs) = e ∙ sym (length-take (length ys) xs) in
      c.done ∙ ap (λ t. t ++ drop i ys) f ∙ ap (λ n. take (length ys) xs ++ drop n ys) b

  -- all of a list that fits
  pub copied_fits : length xs ≤ length ys → written (take (length ys) xs) ys ≡ written xs ys
  copied_fits l = ap (λ l. written l ys) (take_all (length ys) xs l)

  -- over a list of the same length
  pub copied_whole : length ys ≡ length xs → written (take (length ys) xs) ys ≡ xs
  copied_whole e = copied_fits (omega (arith, e)) ∙ ap (λ l. xs ++ l) (drop_of_length-le ys (omega (arith, e))) ∙ append-nil xs

  -- what stands at the front then
  pub copied_front : length xs ≤ length ys → take (length xs) (written (take (length ys) xs) ys) ≡ xs
  copied_front l = ap (λ l. take (length xs) l) (copied_fits l) ∙ take-append_seam xs (drop (length xs) ys)

-- behind the first k items of a list, up to its end
pub copied_rest : {A : Type 0} (xs s : List A) (k : ℕ) → length s ≤ length xs + k
    → written (take (length (take (length s - k) (drop k s))) (take (length s - k) xs)) (take (length s - k) (drop k s)) ≡ take (length s - k) xs
copied_rest xs s k l =
    let n = length s - k in
    copied_whole (take n xs) (take n (drop k s)) (simp (length-take, length-drop) (omega (arith, l)))
