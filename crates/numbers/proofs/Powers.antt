-- Powers of two: what `is_power` says, and the bits by which the code tests it.
use Prim.Native.Nat.{ℕ, zero, suc, ◌+◌, ◌-◌, ◌*◌, ◌^◌, ◌≤◌, ◌<◌}
use mathlib.Core.Bool.{true, false, or-true}
use mathlib.Core.Logic.{⊎_elim}
use mathlib.Core.Path.{◌≡◌, refl, ap, sym, ◌∙◌}
use native.Mathlib.Nat.{pow-suc, le_refl, mod_self, not-suc-le-zero}
use native.Mathlib.Omega.{arith}
use lib.Bits.{bit_and, and_mask, and_block}
use lib.Count.{leading_top}
use lib.Dec.{eqb}
use lib.Pow.{pow_pos}
use borrow.Author.Tests.{eqb-true, eq-eqb, ne_eqb}
use Rattle.numbers.specs.Powers.{is_power}
use Rattle.numbers.proofs.Cases.{cases, by_eq}
use Rattle.numbers.proofs.Cases

pub record Power (w n : ℕ) : Type 0 where
  pub log : ℕ
  pub below : log < w
  pub is : n ≡ 2 ^ log

pub power_true : (w n : ℕ) → is_power w n ≡ true → Power w n
unfolding is_power
power_true zero n e = Cases.clash e refl
power_true (suc w) n e =
    ⊎_elim (λ a. record { log = w; below = le_refl (suc w); is = eqb-true _ _ a })
    (λ b. let p = power_true w n b in record { log = p.log; below = omega arith; is = p.is })
    (Cases.or-true (eqb n (2 ^ w)) (is_power w n) e)

pub power_of : (w k : ℕ) → k < w → is_power w (2 ^ k) ≡ true
unfolding is_power
power_of zero k h = absurd (not-suc-le-zero h)
power_of (suc w) k h =
    by_eq k w (λ e. simp (eq-eqb (2 ^ k) (2 ^ w) (ap (λ (x : ℕ). 2 ^ x) e)))
    (λ ne. let h' : k < w = omega arith in simp (power_of w k h', or-true))

pub zero_no_power : (w : ℕ) → is_power w 0 ≡ false
unfolding is_power
zero_no_power zero = refl
zero_no_power (suc w) = simp (ne_eqb 0 (2 ^ w) (λ e. let p = pow_pos w in absurd (omega arith)), zero_no_power w)

module _ (w n : ℕ) (pos : 0 < n) (fits : n < 2 ^ w) where
  -- a power of two has no bit in common with the number before it
  one_bit : is_power w n ≡ true → bit_and n (n - 1) ≡ 0
  one_bit e =
      let p = power_true w n e in
      let a : bit_and (2 ^ p.log) (2 ^ p.log - 1) ≡ 0 = and_mask (2 ^ p.log) p.log ∙ mod_self (2 ^ p.log) in
      rw p.is a

  -- any other number has its highest bit in common with it
  more_bits : bit_and n (n - 1) ≡ 0 → is_power w n ≡ true
  more_bits e =
      let t = leading_top w n pos fits in
      let j : ℕ = t.0 in
      let low : 2 ^ j ≤ n = t.2 in
      let high : n < 2 ^ j * 2 = rw (← pow-suc 2 j) t.3 in
      let in-w : j < w = (let z = t.1 in omega arith) in
      by_eq n (2 ^ j) (λ q. rw q (power_of w j in-w))
      (λ ne.
      let r : ℕ = n - 2 ^ j in
      let a : n ≡ 1 * 2 ^ j + r = omega arith in
      let b : n - 1 ≡ 1 * 2 ^ j + (r - 1) = omega arith in
      let s : bit_and (1 * 2 ^ j + r) (1 * 2 ^ j + (r - 1)) ≡ 1 * 2 ^ j + bit_and r (r - 1) = and_block j 1 1 r (r - 1) (omega arith) (omega arith) in
      let z : bit_and (1 * 2 ^ j + r) (1 * 2 ^ j + (r - 1)) ≡ 0 = rw (← a, ← b) e in
      let p = pow_pos j in
      absurd (omega arith))

  pub bits_tell : eqb (bit_and n (n - 1)) 0 ≡ is_power w n
  bits_tell = cases (is_power w n) (λ e. eq-eqb _ _ (one_bit e) ∙ sym e) (λ e. ne_eqb _ _ (λ z. Cases.clash (more_bits z) e) ∙ sym e)
