-- Ranges and their bytes.
use Prim.Native.Nat.{ℕ, ◌+◌, ◌≤◌, ◌<◌, min, max}
use mathlib.Core.Bool.{true, false}
use mathlib.Core.Path.{◌≡◌, sym, ◌∙◌}
use native.Mathlib.Omega.{arith}
use borrow.Author.Tests.{ltb-true, lt-ltb, leb-true, le-leb}
use Rattle.numbers.specs.Range.{Range, end_of, Has, has, Meet, meets}
use Rattle.numbers.specs.Sums.{top}
use Rattle.numbers.proofs.Cases.{cases, clash, never, and-true}

module _ (r : Range) where
  pub end_exact : r.offset + r.len ≤ top → end_of r ≡ r.offset + r.len
  unfolding end_of
  end_exact h = omega arith

  pub end_le : end_of r ≤ r.offset + r.len
  unfolding end_of
  end_le = omega arith

  pub end_top : end_of r ≤ top
  unfolding end_of
  end_top = omega arith

  -- a range of length 0 has no byte
  pub none_has : (b : ℕ) → r.len ≡ 0 → Has r b → ⊥
  none_has b z h = let e = end_le in omega arith

  -- the test says whether it has a byte
  pub has_true : (b : ℕ) → has r b ≡ true → Has r b
  unfolding has
  has_true b e = let p = and-true _ _ e in record { from = leb-true _ _ p.0; upto = ltb-true _ _ p.1 }

  pub true_has : (b : ℕ) → Has r b → has r b ≡ true
  unfolding has
  true_has b h = simp (le-leb _ _ h.from, lt-ltb _ _ h.upto)

  pub has_false : (b : ℕ) → (Has r b → ⊥) → has r b ≡ false
  has_false b n = never _ (λ e. n (has_true b e))

module _ (r q : Range) where
  -- the test says whether some byte is in both
  pub meets_true : meets r q ≡ true → Meet r q
  unfolding meets
  meets_true e =
      let h : max r.offset q.offset < min (end_of r) (end_of q) = ltb-true _ _ e in
      record {
        byte = max r.offset q.offset;
        left = record { from = omega arith; upto = omega arith };
        right = record { from = omega arith; upto = omega arith };
      }

  pub meet_true : Meet r q → meets r q ≡ true
  unfolding meets
  meet_true m =
      let a = m.left in
      let b = m.right in
      let h : max r.offset q.offset < min (end_of r) (end_of q) = omega arith in
      lt-ltb _ _ h

  pub meets_false : meets r q ≡ false → Meet r q → ⊥
  meets_false e m = clash (meet_true m) e

  pub apart : end_of r ≤ q.offset → Meet r q → ⊥
  apart h m = let a = m.left in let b = m.right in omega arith

pub meet_sym : (r q : Range) → Meet r q → Meet q r
meet_sym r q m = record { byte = m.byte; left = m.right; right = m.left }

pub meets_comm : (r q : Range) → meets r q ≡ meets q r
meets_comm r q =
    cases (meets r q) (λ e. e ∙ sym (meet_true q r (meet_sym r q (meets_true r q e))))
    (λ e. cases (meets q r) (λ f. clash (meet_true r q (meet_sym q r (meets_true q r f))) e) (λ f. e ∙ sym f))
