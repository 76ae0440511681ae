-- Flat lists and their pairs: lengths, elements, stores and parts.
use Prim.Native.Nat.{ℕ, zero, suc, ◌+◌, ◌*◌, ◌/◌, ◌%◌, ◌≤◌, ◌<◌}
use mathlib.Core.Bool.{true, false}
use mathlib.Core.List.{List, [], ◌∷◌, ◌++◌}
use mathlib.Core.Path.{◌≡◌, refl, ap, sym, ◌∙◌}
use native.Mathlib.Nat.{not-suc-le-zero}
use native.Mathlib.Omega.{arith}
use lib.ListN.{length, get_or, take, drop, set, length-append}
use lib.Seq.{take_at}
use borrow.Author.Tests.{eq-eqb, ne_eqb}
use Rattle.numbers.specs.Lists.{written}
use Rattle.numbers.specs.Pairs.{is_odd, pairs, flat}
use Rattle.numbers.specs.Range.{Range, range, blank}
use Rattle.numbers.proofs.Lists.{written_next}

two_suc : (i : ℕ) → 2 * suc i ≡ suc (suc (2 * i))
two_suc i = omega arith

two_suc_one : (i : ℕ) → 2 * suc i + 1 ≡ suc (suc (2 * i + 1))
two_suc_one i = omega arith

-- odd or even, as the code tests it
module _ (l : List ℕ) where
  pub odd_list : (length l % 2 ≡ 0 → ⊥) → is_odd l ≡ true
  odd_list d = let h : length l % 2 ≡ 1 = omega (arith, d) in eq-eqb _ _ h

  pub even_list : length l % 2 ≡ 0 → is_odd l ≡ false
  even_list e = ne_eqb (length l % 2) 1 (λ (h : length l % 2 ≡ 1). absurd (omega arith))

pub length_pairs : (l : List ℕ) → length (pairs l) ≡ length l / 2
unfolding pairs
length_pairs [] = refl
length_pairs (o ∷ []) = refl
length_pairs (o ∷ n ∷ l) = let e = length_pairs l in omega arith

-- slices of the same length have as many pairs
pub same_pairs : (s t : List ℕ) → length s ≡ length t → length (pairs s) ≡ length (pairs t)
same_pairs s t e = let a = length_pairs s in let b = length_pairs t in omega arith

-- half of a slice's length, as the code computes it, is the number of its pairs
module _ (s : List ℕ) (n t : ℕ) (e : n ≡ length s / 2) where
  pub half_in : t < n → t < length (pairs s)
  half_in h = let l = length_pairs s in omega arith

  pub half_out : n ≤ t → length (pairs s) ≤ t
  half_out h = let l = length_pairs s in omega arith

-- a pair's two numbers are inside the list
pub pair_in : (l : List ℕ) (i : ℕ) → i < length (pairs l) → 2 * i + 1 < length l
pair_in l i h = let e = length_pairs l in omega arith

pub length_flat : (rs : List Range) → length (flat rs) ≡ 2 * length rs
unfolding flat
length_flat [] = refl
length_flat (r ∷ rs) = let e = length_flat rs in omega arith

pub flat_pairs : (l : List ℕ) → length l % 2 ≡ 0 → flat (pairs l) ≡ l
unfolding flat pairs
flat_pairs [] h = refl
flat_pairs (o ∷ []) h = absurd (omega arith)
flat_pairs (o ∷ n ∷ l) h = ap (λ (t : List ℕ). o ∷ n ∷ t) (flat_pairs l (omega arith))

pub pairs_flat : (rs : List Range) → pairs (flat rs) ≡ rs
unfolding flat pairs
pairs_flat [] = refl
pairs_flat (r ∷ rs) = ap (λ (t : List Range). r ∷ t) (pairs_flat rs)

-- what stands at pair i
pub pair_at : (l : List ℕ) (i : ℕ) → 2 * i + 1 < length l → get_or (pairs l) i blank ≡ range (get_or l (2 * i) 0) (get_or l (2 * i + 1) 0)
unfolding pairs
pair_at [] i h = absurd (not-suc-le-zero h)
pair_at (o ∷ []) i h = absurd (omega arith)
pair_at (o ∷ n ∷ l) zero h = refl
pair_at (o ∷ n ∷ l) (suc i) h = rw (two_suc_one i, two_suc i) (pair_at l i (omega arith))

-- a store of both its numbers
pub pair_set : (l : List ℕ) (i a b : ℕ) → 2 * i + 1 < length l → pairs (set (set l (2 * i) a) (2 * i + 1) b) ≡ set (pairs l) i (range a b)
unfolding pairs
pair_set [] i a b h = absurd (not-suc-le-zero h)
pair_set (o ∷ []) i a b h = absurd (omega arith)
pair_set (o ∷ n ∷ l) zero a b h = refl
pair_set (o ∷ n ∷ l) (suc i) a b h = rw (two_suc_one i, two_suc i) (ap (λ (t : List Range). range o n ∷ t) (pair_set l i a b (omega arith)))

pub pairs_append : (a b : List ℕ) → length a % 2 ≡ 0 → pairs (a ++ b) ≡ pairs a ++ pairs b
unfolding pairs
pairs_append [] b h = refl
pairs_append (o ∷ []) b h = absurd (omega arith)
pairs_append (o ∷ n ∷ a) b h = ap (λ (t : List Range). range o n ∷ t) (pairs_append a b (omega arith))

pub pairs_take : (k : ℕ) (l : List ℕ) → pairs (take (2 * k) l) ≡ take k (pairs l)
unfolding pairs
pairs_take zero l = refl
pairs_take (suc k) [] = rw (two_suc k)
pairs_take (suc k) (o ∷ []) = rw (two_suc k)
pairs_take (suc k) (o ∷ n ∷ l) = rw (two_suc k) (ap (λ (t : List Range). range o n ∷ t) (pairs_take k l))

pub pairs_drop : (k : ℕ) (l : List ℕ) → pairs (drop (2 * k) l) ≡ drop k (pairs l)
unfolding pairs
pairs_drop zero l = refl
pairs_drop (suc k) [] = rw (two_suc k)
pairs_drop (suc k) (o ∷ []) = rw (two_suc k)
pairs_drop (suc k) (o ∷ n ∷ l) = rw (two_suc k) (pairs_drop k l)

-- one more pair, written behind those in front
pub flat_next : (rs : List Range) (r : Range) → flat (rs ++ (r ∷ [])) ≡ flat rs ++ (r.offset ∷ []) ++ (r.len ∷ [])
unfolding flat
flat_next [] r = refl
flat_next (q ∷ rs) r = ap (λ (t : List ℕ). q.offset ∷ q.len ∷ t) (flat_next rs r)

pub pair_written : (rs : List Range) (s : List ℕ) (i a b : ℕ) → length rs ≡ i → 2 * i + 1 < length s → set (set (written (flat rs) s) (2 * i) a)
    (2 * i + 1) b ≡ written (flat (rs ++ (range a b ∷ []))) s
pair_written rs s i a b e h =
    let l : length (flat rs) ≡ 2 * i = length_flat rs ∙ omega arith in
    let m : length (flat rs ++ (a ∷ [])) ≡ 2 * i + 1 = length-append (flat rs) (a ∷ []) ∙ omega arith in
    ap (λ (t : List ℕ). set t (2 * i + 1) b) (written_next (flat rs) s (2 * i) a l (omega arith))
    ∙ written_next (flat rs ++ (a ∷ [])) s (2 * i + 1) b m h
    ∙ ap (λ (t : List ℕ). written t s) (sym (flat_next rs (range a b)))

-- pairs written over a list stand in front
module _ (rs : List Range) (s : List ℕ) where
  pub written_pairs : pairs (written (flat rs) s) ≡ rs ++ pairs (drop (length (flat rs)) s)
  written_pairs =
      let l = length_flat rs in
      pairs_append (flat rs) (drop (length (flat rs)) s) (omega arith) ∙ ap (λ (t : List Range). t ++ pairs (drop (length (flat rs)) s)) (pairs_flat rs)

  pub written_front : (k : ℕ) → k ≡ length rs → take k (pairs (written (flat rs) s)) ≡ rs
  written_front k e = rw written_pairs (take_at rs _ k (sym e))

  pub written_places : length rs ≤ length (pairs (written (flat rs) s))
  written_places = rw (written_pairs, length-append) (omega arith)

pub flat_append : (xs ys : List Range) → flat (xs ++ ys) ≡ flat xs ++ flat ys
unfolding flat
flat_append [] ys = refl
flat_append (x ∷ xs) ys = ap (λ (t : List ℕ). x.offset ∷ x.len ∷ t) (flat_append xs ys)
