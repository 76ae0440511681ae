-- What the library's chains and comparisons compute, in the words of numbers.
use Prim.Native.Nat.{ℕ, zero, suc, ◌+◌, ◌<◌, ◌≤◌}
use mathlib.Core.Bool.{Bool, true, cond}
use mathlib.Core.List.{List, [], ◌∷◌}
use mathlib.Core.Path.{◌≡◌, ap, ◌∙◌}
use native.Mathlib.Nat.{le_of_suc-le-suc}
use native.Mathlib.Omega.{arith}
use lib.ListN.{length, get_or}
use Rattle.numbers.specs.Sums.{top, stop, sum}
use Rattle.std.proofs.lemmas.List.Sums.{sum_by-cons}
use Rattle.std.specs.List.{count_by, fold}

-- a sum that stops
pub fold_stop : (n : ℕ) (l : List ℕ) → n ≤ top → fold (λ (s x : ℕ). stop (s + x)) n l ≡ stop (n + sum l)
unfolding sum
fold_stop n [] h = omega arith
fold_stop n (x ∷ xs) h = fold_stop (stop (n + x)) xs (omega arith) ∙ omega arith

-- where none is counted, none is there
pub none_counted : (f : ℕ → Bool) (l : List ℕ) → count_by f l ≡ 0 → (j : ℕ) → j < length l → f (get_or l j 0) ≡ true → ⊥
none_counted f [] z j h e = absurd (omega arith)
none_counted f (x ∷ xs) z zero h e =
    let o = sum_by-cons (λ (y : ℕ). cond (f y) 1 0) x xs in
    let q : cond {A = ℕ} (f x) 1 0 ≡ 1 = ap (λ (b : Bool). cond {A = ℕ} b 1 0) e in
    omega arith
none_counted f (x ∷ xs) z (suc j) h e =
    let o = sum_by-cons (λ (y : ℕ). cond (f y) 1 0) x xs in
    let q : count_by f xs ≡ 0 = omega arith in
    none_counted f xs q j (le_of_suc-le-suc h) e
