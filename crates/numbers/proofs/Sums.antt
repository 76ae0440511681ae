-- Sums over lists, and sums that stop at 2^64 - 1.
use Prim.Native.Nat.{ℕ, suc, ◌+◌, ◌^◌, ◌≤◌, ◌<◌}
use mathlib.Core.List.{List, [], ◌∷◌, ◌++◌, map-append}
use mathlib.Core.Bool.{true, false}
use mathlib.Core.Path.{◌≡◌, ap, sym, ◌∙◌}
use native.Mathlib.Omega.{arith}
use lib.ListN.{length, get_or, take, drop, take-append-drop}
use lib.Seq.{take-suc, take-take}
use Rattle.numbers.specs.Range.{Range, total}
use lib.Dec.{ltb}
use borrow.Author.Tests.{lt-ltb, le-ltb}
use Rattle.std.specs.Prelude.{Option, None, Some}
use Rattle.std.specs.Option.{SomeIff}
use Rattle.numbers.specs.Sums.{stop, sum, top}
use Rattle.numbers.proofs.Cases.{by_lt, none_some, same_some}

pub sum_append : (xs ys : List ℕ) → sum (xs ++ ys) ≡ sum xs + sum ys
unfolding sum
sum_append [] ys = omega arith
sum_append (x ∷ xs) ys = let e = sum_append xs ys in omega arith

pub sum_split : (n : ℕ) (xs : List ℕ) → sum (take n xs) + sum (drop n xs) ≡ sum xs
sum_split n xs = sym (sum_append (take n xs) (drop n xs)) ∙ ap sum (take-append-drop n xs)

-- of one more at the end, and of a shorter front
pub sum_next : (l : List ℕ) (i : ℕ) → i < length l → sum (take (suc i) l) ≡ sum (take i l) + get_or l i 0
unfolding sum
sum_next l i h = ap sum (take-suc l i 0 h) ∙ sum_append (take i l) (get_or l i 0 ∷ []) ∙ omega arith

pub sum_front : (l : List ℕ) (i j : ℕ) → i ≤ j → sum (take i l) ≤ sum (take j l)
sum_front l i j h =
    let e = sum_split i (take j l) in
    let f = ap sum (take-take i j l h) in
    omega arith

-- a sum that stopped may be added to as if it had not
pub stop_add : (a b : ℕ) → stop (stop a + b) ≡ stop (a + b)
stop_add a b = omega arith

-- the lengths of ranges together
pub total_append : (xs ys : List Range) → total (xs ++ ys) ≡ total xs + total ys
total_append xs ys = ap sum (map-append (λ (r : Range). r.len) xs ys) ∙ sum_append _ _

pub total_one : (xs : List Range) (x : Range) → total (xs ++ (x ∷ [])) ≡ total xs + x.len
unfolding sum
total_one xs x = let e = total_append xs (x ∷ []) in omega arith

pub total_take : (n : ℕ) (xs : List Range) → total (take n xs) ≤ total xs
total_take n xs =
    let e = total_append (take n xs) (drop n xs) in
    let t = ap total (take-append-drop n xs) in
    omega arith

-- what `checked_add` answers, as a test of the sum
module _ (a b : ℕ) where
  pub checked_over : {r : Option ℕ} → SomeIff r (a + b < 2 ^ 64) (a + b) → r ≡ None → ltb top (a + b) ≡ true
  checked_over {r = None} h e = by_lt top (a + b) (lt-ltb _ _) (λ l. absurd (h (omega arith)))
  checked_over {r = Some s} h e = absurd (none_some (sym e))

  pub record Within (s : ℕ) : Type 0 where
    pub fits : ltb top (a + b) ≡ false
    pub is : s ≡ a + b

  pub checked_within : {s : ℕ} {r : Option ℕ} → SomeIff r (a + b < 2 ^ 64) (a + b) → r ≡ Some s → Within s
  checked_within {r = None} h e = absurd (none_some e)
  checked_within {r = Some _} h e = record { fits = le-ltb _ _ (let l = h.0 in omega arith); is = sym (same_some e) ∙ h.1 }
