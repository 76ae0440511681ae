-- The pairs of a list as the code takes them: its chunks of two.
use Rattle.std.proofs.lemmas.List.{take-map}
use Rattle.std.specs.List.{list_any}
use mathlib.Core.Bool.{Bool, ◌||◌}
use Rattle.numbers.specs.Lists.{any}
use Prim.Native.Nat.{ℕ, zero, suc, ◌/◌}
use mathlib.Core.List.{List, [], ◌∷◌}
use mathlib.Core.Path.{◌≡◌, refl, ap, sym, subst, ◌∙◌}
use native.Mathlib.Omega.{arith}
use lib.ListN.{length, get_or, drop, length-map, take}
use Rattle.std.specs.Simd.{first_chunks}
use Rattle.numbers.specs.Pairs.{pairs, chunk_range, ranges_in}
use Rattle.numbers.specs.Range.{Range, range, blank}

pub length_chunks : {A : Type 0} (k : ℕ) (xs : List A) → length (first_chunks 2 k xs) ≡ k
length_chunks zero xs = refl
length_chunks (suc k) xs = ap suc (length_chunks k (drop 2 xs))

pub chunk_pairs : (xs : List ℕ) → ranges_in (first_chunks 2 (length xs / 2) xs) ≡ pairs xs
unfolding pairs
chunk_pairs [] = refl
chunk_pairs (o ∷ []) = refl
chunk_pairs (o ∷ n ∷ xs) =
    let e : length (o ∷ n ∷ xs) / 2 ≡ suc (length xs / 2) = omega arith in
    let P : ℕ → Type 0 = λ k. ranges_in (first_chunks 2 k (o ∷ n ∷ xs)) ≡ range o n ∷ pairs xs in
    subst P (sym e) (ap (λ (rs : List Range). range o n ∷ rs) (chunk_pairs xs))

pub chunk_at : (cs : List (List ℕ)) (i : ℕ) → get_or (ranges_in cs) i blank ≡ chunk_range (get_or cs i [])
chunk_at [] i = refl
chunk_at (c ∷ cs) zero = refl
chunk_at (c ∷ cs) (suc i) = chunk_at cs i

pub length_ranges : (cs : List (List ℕ)) → length (ranges_in cs) ≡ length cs
length_ranges cs = length-map cs chunk_range

-- a test of the pairs, as the code makes it
pub any_range : (p : Range → Bool) (cs : List (List ℕ)) → list_any (λ (c : List ℕ). p (chunk_range c)) cs ≡ any p (ranges_in cs)
unfolding any
any_range p [] = refl
any_range p (c ∷ cs) = ap (λ (b : Bool). p (chunk_range c) || b) (any_range p cs)

pub any_first : (p : Range → Bool) (n : ℕ) (cs : List (List ℕ)) → list_any (λ (c : List ℕ). p (chunk_range c)) (take n cs) ≡ any p (take n (ranges_in cs))
any_first p n cs = any_range p (take n cs) ∙ ap (any p) (sym (take-map chunk_range n cs))
