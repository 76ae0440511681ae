-- Tests in order: the first that fails gives its number; extents tested one by one.
use Rattle.numbers.specs.declared.refusal.Refusal.TheVariants.{Lists, Block, Length, Entry, NumbersDiffer, KindsDiffer, FlagsDiffer, NotReady, HeaderCount, NoMultiple, Outside, ExtentSum, Overlaps, NumberHeld, Marked, Unknown, SlotGrows, NameHeld, Full, LastNumber, OverCap, NoRoom, Past, Crosses, Malformed}
use Rattle.numbers.specs.declared.refusal.Refusal.{Refusal}
use Rattle.std.proofs.Common.{lit<}
use Prim.Native.Nat.{ℕ, zero, suc, ◌+◌, ◌≤◌, ◌<◌}
use mathlib.Core.Bool.{Bool, true, false}
use mathlib.Core.List.{List, [], ◌∷◌, ◌++◌}
use mathlib.Core.Logic.{◌⊎◌, inl, inr}
use mathlib.Core.Path.{◌≡◌, refl, sym, ◌∙◌}
use native.Mathlib.Nat.{le_of_suc-le-suc, not-suc-le-zero}
use native.Mathlib.Omega.{arith}
use lib.Dec.{ltb}
use lib.ListN.{length, get_or, drop, drop_of_length-le}
use borrow.Author.Tests.{eq-eqb, ne_eqb, ltb-false, le-ltb}
use Rattle.numbers.specs.Lists.{All}
use Rattle.numbers.specs.Range.{Range, blank, total}
use Rattle.numbers.specs.Refusals.{first, refuse, each_extent, refusal_number}
use Rattle.numbers.specs.Sums.{top, sum}
use Rattle.numbers.proofs.Cases.{by_eq}
use Rattle.numbers.proofs.Lists.{from_here}

pub first_one : (n : ℕ) → first (n ∷ []) ≡ n
unfolding first
first_one n = by_eq n 0 (λ e. simp e) (λ d. simp (ne_eqb _ _ d))

-- the tests of the first list decide, and where none fails those of the second
pub first_stop : (ns ms : List ℕ) → (first ns ≡ 0 → ⊥) → first (ns ++ ms) ≡ first ns
unfolding first
first_stop [] ms d = absurd (d refl)
first_stop (n ∷ ns) ms d = by_eq n 0 (λ e. simp (eq-eqb _ _ e) (first_stop ns ms (λ z. d (simp (eq-eqb _ _ e) z)))) (λ n0. simp (ne_eqb _ _ n0))

pub first_go : (ns ms : List ℕ) → first ns ≡ 0 → first (ns ++ ms) ≡ first ms
unfolding first
first_go [] ms z = refl
first_go (n ∷ ns) ms z =
    by_eq n 0 (λ e. simp (eq-eqb _ _ e) (first_go ns ms (sym (simp (eq-eqb _ _ e)) ∙ z)))
    (λ d. absurd (d (sym (simp (ne_eqb _ _ d)) ∙ z)))

-- no test failed
pub first_none : (n : ℕ) (ns : List ℕ) → first (n ∷ ns) ≡ 0 → (n ≡ 0) × (first ns ≡ 0)
unfolding first
first_none n ns z =
    by_eq n 0 (λ e. (e, sym (simp (eq-eqb _ _ e)) ∙ z)) (λ d. absurd (d (sym (simp (ne_eqb _ _ d)) ∙ z)))

pub first_parts : (ns ms : List ℕ) → first (ns ++ ms) ≡ 0 → (first ns ≡ 0) × (first ms ≡ 0)
first_parts ns ms z =
    by_eq (first ns) 0 (λ e. (e, sym (first_go ns ms e) ∙ z)) (λ d. absurd (d (sym (first_stop ns ms d) ∙ z)))

pub none_first : (ns : List ℕ) → All (λ (n : ℕ). n ≡ 0) ns → first ns ≡ 0
unfolding first
none_first [] a = refl
none_first (n ∷ ns) a = simp a.0 (none_first ns a.1)

-- the other way round
pub first_all : (ns : List ℕ) → first ns ≡ 0 → All (λ (n : ℕ). n ≡ 0) ns
first_all [] z = tt
first_all (n ∷ ns) z = let p = first_none n ns z in (p.0, first_all ns p.1)

pub pass_none : (n : ℕ) (b : Bool) → b ≡ false → refuse n b ≡ 0
unfolding refuse
pass_none n b e = simp e

pub refuse_none : (n : ℕ) (b : Bool) → 0 < n → refuse n b ≡ 0 → b ≡ false
unfolding refuse
refuse_none n true p z = absurd (omega arith)
refuse_none n false p z = refl

-- no number reaches a bound that no test's number reaches
pub first_low : (m : ℕ) (ns : List ℕ) → 0 < m → All (λ (n : ℕ). n < m) ns → first ns < m
unfolding first
first_low m [] p a = p
first_low m (n ∷ ns) p a = by_eq n 0 (λ e. simp (eq-eqb _ _ e) (first_low m ns p a.1)) (λ d. simp (ne_eqb _ _ d) a.0)

-- a number below a bound, and those of the extents
pub refuse_low : (m n : ℕ) (b : Bool) → n < m → refuse n b < m
unfolding refuse
refuse_low m n true p = p
refuse_low m n false p = omega arith

-- where every test's number reaches a bound, so does the one that is given, if one is
abbrev pub NoneBelow : ℕ → ℕ → Type 0
NoneBelow m n = (n ≡ 0) ⊎ (m ≤ n)

pub first_high : (m : ℕ) (ns : List ℕ) → All (NoneBelow m) ns → NoneBelow m (first ns)
unfolding first
first_high m [] a = inl refl
first_high m (n ∷ ns) a =
    by_eq n 0 (λ e. simp (eq-eqb _ _ e) (first_high m ns a.1)) (λ d. simp (ne_eqb _ _ d) a.0)

pub refuse_high : (m n : ℕ) (b : Bool) → m ≤ n → NoneBelow m (refuse n b)
unfolding refuse
refuse_high m n true p = inr p
refuse_high m n false p = inl refl

-- ---- the first number that is not 0, by its place

pub record FirstAt (ns : List ℕ) (i : ℕ) : Type 0 where
  pub inside : i < length ns
  pub before : (j : ℕ) → j < i → get_or ns j 0 ≡ 0
  pub here : get_or ns i 0 ≡ 0 → ⊥

pub first_at : (ns : List ℕ) (i : ℕ) → FirstAt ns i → first ns ≡ get_or ns i 0
unfolding first
first_at [] i p = absurd (not-suc-le-zero p.inside)
first_at (n ∷ ns) zero p = simp (ne_eqb n 0 p.here)
first_at (n ∷ ns) (suc i) p =
    simp (p.before 0 (omega arith))
    (first_at ns i (record { inside = le_of_suc-le-suc p.inside; before = λ j h. p.before (suc j) (omega arith); here = p.here }))

pub at_first : (ns : List ℕ) → (first ns ≡ 0 → ⊥) → (i : ℕ) × FirstAt ns i
unfolding first
at_first [] d = absurd (d refl)
at_first (n ∷ ns) d =
    by_eq n 0
    (λ e.
    let q = at_first ns (λ z. d (simp e z)) in
    (suc q.0, record { inside = omega (arith, q.1.inside); before = behind n ns e q.0 q.1.before; here = q.1.here }))
    (λ n0. (0, record { inside = omega arith; before = λ j h. absurd (not-suc-le-zero h); here = n0 }))
  where
    behind : (n : ℕ) (ns : List ℕ) → n ≡ 0 → (i : ℕ) → ((j : ℕ) → j < i → get_or ns j 0 ≡ 0) → (j : ℕ) → j < suc i → get_or (n ∷ ns) j 0 ≡ 0
    behind n ns e i f zero h = e
    behind n ns e i f (suc j) h = f j (le_of_suc-le-suc h)

-- ---- extents one by one

module _ (outside : Range → Bool) where
  pub each_high : (s : ℕ) (xs : List Range) → NoneBelow 11 (each_extent outside s xs)
  unfolding each_extent
  each_high s [] = inl refl
  each_high s (x ∷ xs) = first_high 11 _ (refuse_high 11 11 _ (omega arith), (refuse_high 11 12 _ (omega arith), (each_high (s + x.len) xs, tt)))

  -- no extent is outside, and no sum passes
  pub each_none : (s : ℕ) (xs : List Range) → All (λ (x : Range). outside x ≡ false) xs → s + total xs ≤ top → each_extent outside s xs ≡ 0
  unfolding each_extent first refuse sum
  each_none s [] a h = refl
  each_none s (x ∷ xs) a h = simp (a.0, le-ltb top (s + x.len) (omega arith)) (first_one _ ∙ each_none (s + x.len) xs a.1 (omega arith))

  pub each_low : (s : ℕ) (xs : List Range) → each_extent outside s xs < 13
  unfolding each_extent
  each_low s [] = omega arith
  each_low s (x ∷ xs) = first_low 13 _ (omega arith) (refuse_low 13 11 _ (omega arith), (refuse_low 13 12 _ (omega arith), (each_low (s + x.len) xs, tt)))

  -- what it means that no extent failed
  each_next : (s : ℕ) (x : Range) (xs : List Range) → each_extent outside s (x ∷ xs) ≡ 0 → (outside x ≡ false) × (ltb top (s + x.len) ≡ false) × (each_extent outside (s + x.len) xs ≡ 0)
  unfolding each_extent
  each_next s x xs z =
      let a = first_none _ _ z in
      let b = first_none _ _ a.1 in
      let c = first_none _ _ b.1 in
      (refuse_none 11 _ (omega arith) a.0, refuse_none 12 _ (omega arith) b.0, c.0)

  pub each_inside : (s : ℕ) (xs : List Range) → each_extent outside s xs ≡ 0 → All (λ (x : Range). outside x ≡ false) xs
  each_inside s [] z = tt
  each_inside s (x ∷ xs) z = let e = each_next s x xs z in (e.0, each_inside (s + x.len) xs e.2)

  pub each_sum : (s : ℕ) (xs : List Range) → s ≤ top → each_extent outside s xs ≡ 0 → s + total xs ≤ top
  unfolding sum
  each_sum s [] h z = omega arith
  each_sum s (x ∷ xs) h z =
      let e = each_next s x xs z in
      let i = each_sum (s + x.len) xs (ltb-false _ _ e.1) e.2 in
      omega arith

-- ---- a walk along extents: those in front of i are neither outside nor too long together, and their lengths sum to s
pub record Walked (outside : Range → Bool) (xs : List Range) (n i s : ℕ) : Type 0 where
  pub all : n ≡ length xs
  pub below : i ≤ n
  pub sums : s + total (drop i xs) ≡ total xs
  pub rest : each_extent outside 0 xs ≡ each_extent outside s (drop i xs)

pub walk_begins : (outside : Range → Bool) (xs : List Range) (n : ℕ) → n ≡ length xs → Walked outside xs n 0 0
walk_begins outside xs n e = record { all = e; below = omega arith; sums = omega arith; rest = refl }

module _ {outside : Range → Bool} {xs : List Range} {n i s : ℕ} (g : Walked outside xs n i s) where
  module _ (l : i < n) (x : Range) (at : get_or xs i blank ≡ x) where
    next : drop i xs ≡ x ∷ drop (i + 1) xs
    next = from_here xs i blank (omega (arith, g.all)) ∙ rw at

    pub walk_outside : outside x ≡ true → each_extent outside 0 xs ≡ 11
    unfolding first refuse each_extent
    walk_outside o = g.rest ∙ rw next (simp o)

    module _ (o : outside x ≡ false) where
      pub walk_over : ltb top (s + x.len) ≡ true → each_extent outside 0 xs ≡ 12
      unfolding first refuse each_extent
      walk_over p = g.rest ∙ rw next (simp (o, p))

      pub walk_on : ltb top (s + x.len) ≡ false → Walked outside xs n (i + 1) (s + x.len)
      unfolding first refuse each_extent sum
      walk_on p =
          let t : total (drop i xs) ≡ x.len + total (drop (i + 1) xs) = rw next in
          record {
            all = g.all;
            below = omega arith;
            sums = omega (arith, g.sums, t);
            rest = g.rest ∙ rw next (simp (o, p) (first_one (each_extent outside (s + x.len) (drop (i + 1) xs))));
          }

  module _ (l : n ≤ i) where
    pub walk_ends : each_extent outside 0 xs ≡ 0
    unfolding each_extent
    walk_ends = g.rest ∙ rw (drop_of_length-le xs {i = i} (omega (arith, g.all)))

    pub walk_sum : s ≡ total xs
    unfolding sum
    walk_sum =
        let t : total (drop i xs) ≡ 0 = rw (drop_of_length-le xs {i = i} (omega (arith, g.all))) in
        omega (arith, g.sums, t)

-- a reason's number is not 0
pub reason_above : (r : Refusal) → 0 < refusal_number r
reason_above Lists = lit< tt
reason_above Block = lit< tt
reason_above Length = lit< tt
reason_above Entry = lit< tt
reason_above NumbersDiffer = lit< tt
reason_above KindsDiffer = lit< tt
reason_above FlagsDiffer = lit< tt
reason_above NotReady = lit< tt
reason_above HeaderCount = lit< tt
reason_above NoMultiple = lit< tt
reason_above Outside = lit< tt
reason_above ExtentSum = lit< tt
reason_above Overlaps = lit< tt
reason_above NumberHeld = lit< tt
reason_above Marked = lit< tt
reason_above Unknown = lit< tt
reason_above SlotGrows = lit< tt
reason_above NameHeld = lit< tt
reason_above Full = lit< tt
reason_above LastNumber = lit< tt
reason_above OverCap = lit< tt
reason_above NoRoom = lit< tt
reason_above Past = lit< tt
reason_above Crosses = lit< tt
reason_above Malformed = lit< tt
