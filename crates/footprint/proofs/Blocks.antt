-- The block of a log that is at most 16.
use Prim.Native.Nat.{ℕ, ◌^◌, ◌≤◌, min}
use mathlib.Core.Path.{◌≡◌, ap, ◌∙◌}
use native.Mathlib.Omega.{arith}

pub exact : (l : ℕ) {b : ℕ} → b ≡ 2 ^ min l 16 → l ≤ 16 → b ≡ 2 ^ l
exact l e h = e ∙ ap (λ (k : ℕ). 2 ^ k) (omega (arith, h))
