-- Lists filled from the front.
use Prim.Native.Nat.{ℕ, ◌+◌, ◌≤◌}
use mathlib.Core.List.{List, ◌++◌, append_assoc}
use mathlib.Core.Path.{◌≡◌, refl, sym, ◌∙◌}
use native.Mathlib.Omega.{arith}
use lib.ListN.{length, drop, length-append}
use lib.Seq.{take_at, drop_at, drop-drop}
use borrow.Rule.Slice.PartMut.{put_mid}
use Rattle.numbers.specs.Lists.{written}

module _ {A : Type 0} where
  -- a part behind what is written
  pub written_part : (d s₀ ys : List A) (k : ℕ) → length ys ≡ k → length d + k ≤ length s₀
      → put_mid (length d) k (written d s₀) ys ≡ written (d ++ ys) s₀
  written_part d s₀ ys k e h =
      let n : length d + k ≡ length (d ++ ys) = sym (length-append d ys ∙ omega arith) in
      rw (take_at d (drop (length d) s₀) (length d) refl, drop_at d (drop (length d) s₀) (length d) refl, drop-drop k (length d) s₀, n)
      (sym (append_assoc d ys (drop (length (d ++ ys)) s₀)))
