-- Refusal 1: what the tests on counts and lists have found.
use Prim.Native.Nat.{ℕ, ◌+◌, ◌*◌, ◌/◌, ◌%◌, ◌≤◌, ◌<◌}
use mathlib.Core.Bool.{Bool, true, false, not, ◌&&◌, and-false, or-true}
use mathlib.Core.Logic.{◌⊎◌, inl, inr, ⊎_elim}
use mathlib.Core.Path.{◌≡◌, sym, ◌∙◌}
use native.Mathlib.Omega.{arith}
use lib.Dec.{eqb, ltb}
use lib.ListN.{length, take}
use borrow.Author.Tests.{le-ltb, lt-ltb, ltb-true, ltb-false, eqb-true, eq-eqb}
use Rattle.numbers.specs.Lists.{All, any}
use Rattle.numbers.specs.Pairs.{pairs}
use Rattle.numbers.specs.Sums.{top, stop}
use Rattle.settle.specs.Inner.{Enough, Short, OwnShort}
use Rattle.settle.specs.Regions.{Lent}
use Rattle.settle.specs.Settle.{range_count, too_long, lent_fails, settle_fails}
use Rattle.numbers.proofs.Cases.{cases, by_lt, clash, or-false}
use Rattle.numbers.proofs.Lists.{all_imp, any_false, of_none}
use Rattle.numbers.proofs.Pairs.{length_pairs, odd_list, even_list}

-- ---- one length

module _ (unnamed : Bool) (n : ℕ) where
  pub name_short : n ≤ 24 → false ≡ too_long unnamed n
  unfolding too_long
  name_short h = sym (simp (le-ltb 24 n h))

  pub name_none : 24 < n → unnamed ≡ true → not (eqb n 255) ≡ too_long unnamed n
  unfolding too_long
  name_none h e = sym (simp (lt-ltb 24 n h, e))

  pub name_long : 24 < n → unnamed ≡ false → true ≡ too_long unnamed n
  unfolding too_long
  name_long h e = sym (simp (lt-ltb 24 n h, e))

-- ---- the lists of one kind

module _ (unnamed : Bool) (g : Lent) where
  -- one test that fails is enough
  pub fails_count : 1024 < g.count → true ≡ lent_fails unnamed g
  unfolding lent_fails
  fails_count h = simp (lt-ltb _ _ h)

  pub fails_seqs : length g.seqs < g.count → true ≡ lent_fails unnamed g
  unfolding lent_fails
  fails_seqs h = simp (lt-ltb _ _ h, or-true)

  pub fails_counts : length g.counts < g.count → true ≡ lent_fails unnamed g
  unfolding lent_fails
  fails_counts h = simp (lt-ltb _ _ h, or-true)

  pub fails_lens : length g.lens < g.count → true ≡ lent_fails unnamed g
  unfolding lent_fails
  fails_lens h = simp (lt-ltb _ _ h, or-true)

  pub fails_names : length g.names < 24 * g.count → true ≡ lent_fails unnamed g
  unfolding lent_fails
  fails_names h = simp (lt-ltb _ _ h, or-true)

  pub fails_odd : (length g.ranges % 2 ≡ 0 → ⊥) → true ≡ lent_fails unnamed g
  unfolding lent_fails
  fails_odd h = simp (odd_list g.ranges h, or-true)

  pub fails_ranges : length g.ranges / 2 < stop (range_count g) → true ≡ lent_fails unnamed g
  unfolding lent_fails
  fails_ranges h =
      let l = length_pairs g.ranges in
      let i : length (pairs g.ranges) < range_count g = omega arith in
      simp (lt-ltb _ _ i, or-true)

  -- the last test decides where no other fails
  pub enough_long : Enough g → any (too_long unnamed) (take g.count g.lens) ≡ lent_fails unnamed g
  unfolding lent_fails
  enough_long h =
      simp (
        le-ltb _ _ h.few,
        le-ltb _ _ h.seqs,
        le-ltb _ _ h.counts,
        le-ltb _ _ h.lens,
        le-ltb _ _ h.names,
        h.even,
        le-ltb _ _ h.ranges,
      )

  pub fails_long : g.count ≤ 1024 → g.count ≤ length g.seqs → g.count ≤ length g.counts → g.count ≤ length g.lens → 24 * g.count ≤ length g.names
      → length g.ranges % 2 ≡ 0 → length g.ranges < top → stop (range_count g) ≤ length g.ranges / 2 → any (too_long unnamed) (take g.count g.lens) ≡ lent_fails unnamed g
  fails_long a b c d e f s h =
      let l = length_pairs g.ranges in
      enough_long (record { few = a; seqs = b; counts = c; lens = d; names = e; even = even_list g.ranges f; ranges = omega arith })

  -- ---- what it means that none of them fails

  pub passed : lent_fails unnamed g ≡ false → Enough g × All (λ (n : ℕ). too_long unnamed n ≡ false) (take g.count g.lens)
  unfolding lent_fails
  passed e =
      let a = or-false _ _ e in
      let b = or-false _ _ a.0 in
      let c = or-false _ _ b.0 in
      let d = or-false _ _ c.0 in
      let f = or-false _ _ d.0 in
      let h = or-false _ _ f.0 in
      let i = or-false _ _ h.0 in (
        record {
          few = ltb-false 1024 g.count i.0;
          seqs = ltb-false (length g.seqs) g.count i.1;
          counts = ltb-false (length g.counts) g.count h.1;
          lens = ltb-false (length g.lens) g.count f.1;
          names = ltb-false (length g.names) (24 * g.count) d.1;
          even = c.1;
          ranges = ltb-false (length (pairs g.ranges)) (range_count g) b.1;
        },
        any_false (too_long unnamed) (take g.count g.lens) a.1,
      )

-- and the other way round
pub short_passes : (g : Lent) → Enough g → Short g → lent_fails false g ≡ false
unfolding too_long
short_passes g h s =
    sym (enough_long false g h)
    ∙ of_none (too_long false) _ (all_imp (λ (n : ℕ). n ≤ 24) (λ (n : ℕ). too_long false n ≡ false) (λ n l. simp (le-ltb 24 n l)) (take g.count g.lens) s)

pub own_short_passes : (g : Lent) → Enough g → OwnShort g → lent_fails true g ≡ false
unfolding too_long
own_short_passes g h s =
    sym (enough_long true g h)
    ∙ of_none (too_long true) _
    (all_imp (λ (n : ℕ). (n ≤ 24) ⊎ (n ≡ 255)) (λ (n : ℕ). too_long true n ≡ false)
    (λ n. ⊎_elim (λ l. simp (le-ltb 24 n l)) (λ e. simp (eq-eqb n 255 e, and-false))) (take g.count g.lens) s)

pub short : (g : Lent) → lent_fails false g ≡ false → Short g
unfolding too_long
short g e =
    all_imp (λ (n : ℕ). too_long false n ≡ false) (λ (n : ℕ). n ≤ 24)
    (λ n d. cases (ltb 24 n) (λ t. clash {b = ltb 24 n && true} (simp t) d) (λ f. ltb-false 24 n f)) (take g.count g.lens) (passed false g e).1

pub own_short : (g : Lent) → lent_fails true g ≡ false → OwnShort g
unfolding too_long
own_short g e =
    all_imp (λ (n : ℕ). too_long true n ≡ false) (λ (n : ℕ). (n ≤ 24) ⊎ (n ≡ 255))
    (λ n d. cases (ltb 24 n)
    (λ t. cases (eqb n 255) (λ q. inr (eqb-true n 255 q)) (λ q. clash {b = ltb 24 n && not (eqb n 255)} (simp (t, q)) d))
    (λ f. inl (ltb-false 24 n f))) (take g.count g.lens) (passed true g e).1

-- ---- all tests

module _ (us un : Lent) (marks scratch : ℕ) where
  pub fails_usable : lent_fails false us ≡ true → true ≡ settle_fails us un marks scratch
  unfolding settle_fails
  fails_usable e = simp e

  pub fails_unavailable : lent_fails true un ≡ true → true ≡ settle_fails us un marks scratch
  unfolding settle_fails
  fails_unavailable e = simp (e, or-true)

  pub fails_marks : marks < us.count → true ≡ settle_fails us un marks scratch
  unfolding settle_fails
  fails_marks h = simp (lt-ltb _ _ h, or-true)

  -- with the numbers of ranges as the code counts them
  module _ (a b : ℕ) (d : a ≡ stop (range_count us)) (e : b ≡ stop (range_count un)) where
    pub fails_many : ltb 65536 (a + b) ≡ true → true ≡ settle_fails us un marks scratch
    unfolding settle_fails
    fails_many f =
        let h = ltb-true 65536 (a + b) f in
        let i : 65536 < range_count us + range_count un = omega arith in
        simp (lt-ltb _ _ i, or-true)

    -- the last test decides where no other fails
    pub fails_scratch : lent_fails false us ≡ false → lent_fails true un ≡ false → ltb 65536 (a + b) ≡ false → us.count ≤ marks
        → ltb (scratch / 16) (a + b) ≡ settle_fails us un marks scratch
    unfolding settle_fails
    fails_scratch f g c m =
        let h = ltb-false 65536 (a + b) c in
        let i : range_count us + range_count un ≤ 65536 = omega arith in
        let j : a + b ≡ range_count us + range_count un = omega arith in
        simp (f, g, le-ltb 65536 (range_count us + range_count un) i, le-ltb marks us.count m, j)
        (by_lt (scratch / 16) (range_count us + range_count un)
        (λ k. lt-ltb _ _ k ∙ sym (lt-ltb scratch (16 * (range_count us + range_count un)) (omega arith)))
        (λ k. le-ltb _ _ k ∙ sym (le-ltb scratch (16 * (range_count us + range_count un)) (omega arith))))
