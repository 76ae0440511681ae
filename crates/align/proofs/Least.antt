-- `up_to value align` is the least multiple of align at or above value; and how bits give it.
use Prim.Native.Nat.{ℕ, ◌+◌, ◌-◌, ◌*◌, ◌/◌, ◌%◌, ◌≤◌, ◌<◌}
use mathlib.Core.Bool.{true}
use mathlib.Core.Path.{◌≡◌, refl, ap, ◌∙◌}
use native.Mathlib.Nat.{div-add-mod', mod-lt, lt_of_mul-lt-mul_right, mul-le-mul_right, add-mul, one-mul}
use native.Mathlib.Omega.{arith}
use lib.Bits.{bit_and, and_mask}
use lib.Pow.{pow_pos}
use Rattle.align.specs.Align.{up_to}
use Rattle.numbers.specs.Powers.{is_power}
use Rattle.numbers.proofs.Powers.{power_true}

pub record Least (value align at : ℕ) : Type 0 where
  pub times : ℕ
  pub multiple : at ≡ times * align
  pub above : value ≤ at
  pub least : (k : ℕ) → value ≤ k * align → at ≤ k * align

pub up_least : (value align : ℕ) → 0 < align → Least value align (up_to value align)
unfolding up_to
up_least v a pos =
    let reach : ℕ = v + (a - 1) in
    let d : reach / a * a + reach % a ≡ reach = div-add-mod' reach a in
    let l : reach % a < a = mod-lt reach pos in
    record {
      times = reach / a;
      multiple = refl;
      above = omega arith;
      least = λ k h.
          let s : (k + 1) * a ≡ k * a + a = add-mul k 1 a ∙ ap (λ (x : ℕ). k * a + x) (one-mul a) in
          let q : reach / a < k + 1 = lt_of_mul-lt-mul_right a (omega arith) in
          mul-le-mul_right a (omega arith);
    }

-- a power of two is not 0, and its mask takes off the remainder
module _ (w align : ℕ) (power : is_power w align ≡ true) where
  pub power_pos : 0 < align
  power_pos = let p = power_true w align power in let h = pow_pos p.log in let e = p.is in omega arith

  pub masked : (value : ℕ) → (value + (align - 1)) - bit_and (value + (align - 1)) (align - 1) ≡ up_to value align
  unfolding up_to
  masked value =
      let p = power_true w align power in
      let reach : ℕ = value + (align - 1) in
      let m : bit_and reach (align - 1) ≡ reach % align = rw p.is (and_mask _ p.log) in
      let d : reach / align * align + reach % align ≡ reach = div-add-mod' reach align in
      omega arith
