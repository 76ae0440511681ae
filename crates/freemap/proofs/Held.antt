-- Bytes held and bytes free: ranges of which no two meet, and one range more or less.
use Rattle.std.proofs.Common.{◌≡◌, ℕ, zero, suc, ◌+◌, ◌-◌, ◌≤◌, min, max, Bool, true, false, ◌||◌, List, [], ◌∷◌, ◌++◌, sym, refl, ap, ◌∙◌, arith}
use Rattle.freemap.specs.Bytes.{counted}
use Rattle.freemap.specs.Gaps.{covered, gaps_of}
use Rattle.numbers.specs.Lists.{All, any}
use Rattle.numbers.specs.Range.{Range, end_of, has, Disjoint, Within, total}
use Rattle.numbers.specs.Sums.{top, sum}
use Rattle.freemap.proofs.Words.{covered_true, free_and_covered}
use Rattle.numbers.proofs.Cases.{cases, by_lt, clash}
use Rattle.numbers.proofs.Disjoint.{MeetsNone, none_shared, disjoint_middle, disjoint_without}
use Rattle.numbers.proofs.Lists.{any_append, or_swap}
use Rattle.numbers.proofs.Ranges.{end_exact, has_true, true_has}

-- ---- bytes counted

range_counted : (r : Range) (b n : ℕ) → counted (has r) b n ≡ min (b + n) (end_of r) - max b r.offset
unfolding counted
range_counted r b zero = omega arith
range_counted r b (suc n) =
    let i = range_counted r (suc b) n in
    cases (has r b)
    (λ e. let h = has_true r b e in let l = h.from in let u = h.upto in simp e (omega arith))
    (λ e.
    by_lt b r.offset (λ l. simp e (omega arith))
    (λ l. by_lt b (end_of r) (λ u. clash (true_has r b (record { from = l; upto = u })) e) (λ u. simp e (omega arith))))

or_counted : (f g : ℕ → Bool) (b n : ℕ) → ((x : ℕ) → f x ≡ true → g x ≡ true → ⊥) → counted (λ (x : ℕ). f x || g x) b n ≡ counted f b n + counted g b n
unfolding counted
or_counted f g b zero h = refl
or_counted f g b (suc n) h =
    let i = or_counted f g (suc b) n h in
    cases (f b)
    (λ e. cases (g b) (λ d. absurd (h b e d)) (λ d. simp (e, d) (omega arith)))
    (λ e. cases (g b) (λ d. simp (e, d) (omega arith)) (λ d. simp (e, d) i))

none_counted : (b n : ℕ) → counted (λ (x : ℕ). false) b n ≡ 0
unfolding counted
none_counted b zero = refl
none_counted b (suc n) = none_counted (suc b) n

same_counted : (f g : ℕ → Bool) → ((x : ℕ) → f x ≡ g x) → (b n : ℕ) → counted f b n ≡ counted g b n
unfolding counted
same_counted f g e b zero = refl
same_counted f g e b (suc n) = rw (e b, same_counted f g e (suc b) n)

-- ---- one range in the middle of others

pub covered_with : (xs : List Range) (y : Range) (ys : List Range) (b : ℕ) → covered (xs ++ (y ∷ ys)) b ≡ (has y b || covered (xs ++ ys) b)
unfolding covered any
covered_with xs y ys b =
    let f : Range → Bool = λ r. has r b in
    any_append f xs (y ∷ ys) ∙ or_swap (any f xs) (f y) (any f ys) ∙ ap (λ (t : Bool). f y || t) (sym (any_append f xs ys))

module _ (te len : ℕ) (small : len ≤ top) where
  -- The bytes of [table end, length) that some range has.
  abbrev pub held : List Range → ℕ
  held rs = counted (covered rs) te (len - te)

  module _ (y : Range) (w : Within te len y) where
    first_counted : (rs : List Range) → MeetsNone y rs → counted (λ (b : ℕ). has y b || covered rs b) te (len - te) ≡ y.len + held rs
    first_counted rs n =
        let l = w.from in
        let u = w.upto in
        let e = end_exact y (omega arith) in
        let c = range_counted y te (len - te) in
        or_counted (has y) (covered rs) te (len - te)
        (λ x p q. none_shared y rs n x (has_true y x p) (covered_true rs x q))
        ∙ omega (arith, c, e)

    -- with a range that meets no other, as many bytes more are held and fewer are free; without it the other way round
    module _ (xs ys : List Range) (n : MeetsNone y (xs ++ ys)) where
      pub held_with : held (xs ++ (y ∷ ys)) ≡ y.len + held (xs ++ ys)
      held_with =
          same_counted (covered (xs ++ (y ∷ ys))) (λ (b : ℕ). has y b || covered (xs ++ ys) b) (covered_with xs y ys) te (len - te)
          ∙ first_counted (xs ++ ys) n

      pub free_with : total (gaps_of te len (xs ++ (y ∷ ys))) + y.len ≡ total (gaps_of te len (xs ++ ys))
      free_with =
          omega (arith, held_with, free_and_covered te len (xs ++ (y ∷ ys)), free_and_covered te len (xs ++ ys))

  -- the same of several, as the ranges of a region are
  module _ (xs ys : List Range) where
    pub held_with_all : (zs : List Range) → All (Within te len) zs → Disjoint (xs ++ (zs ++ ys)) → held (xs ++ (zs ++ ys)) ≡ total zs + held (xs ++ ys)
    unfolding sum
    held_with_all [] a d = omega arith
    held_with_all (z ∷ zs) a d =
        let i = held_with_all zs a.1 (disjoint_without xs z (zs ++ ys) d) in
        held_with z a.0 xs (zs ++ ys) (disjoint_middle xs z (zs ++ ys) d) ∙ omega arith

    pub free_with_all : (zs : List Range) → All (Within te len) zs → Disjoint (xs ++ (zs ++ ys)) → total (gaps_of te len (xs ++ (zs ++ ys))) + total zs ≡ total (gaps_of te len (xs ++ ys))
    free_with_all zs a d =
        omega (arith, held_with_all zs a d, free_and_covered te len (xs ++ (zs ++ ys)), free_and_covered te len (xs ++ ys))

  -- ---- ranges of which no two meet have as many bytes as their lengths say

  pub held_counted : (rs : List Range) → All (Within te len) rs → Disjoint rs → held rs ≡ total rs
  unfolding covered any sum
  held_counted [] a d = none_counted te (len - te)
  held_counted (r ∷ rs) a d = first_counted r a.0 rs d.0 ∙ omega (arith, held_counted rs a.1 d.1)

  -- so their lengths and those of the gaps make up the container behind its table
  pub held_and_free : (rs : List Range) → All (Within te len) rs → Disjoint rs → total (gaps_of te len rs) + total rs ≡ len - te
  held_and_free rs a d = ap (λ (k : ℕ). total (gaps_of te len rs) + k) (sym (held_counted rs a d)) ∙ free_and_covered te len rs
