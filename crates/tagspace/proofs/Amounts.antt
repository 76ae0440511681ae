-- What a region occupies, and what a cap leaves.
use Prim.Native.Nat.{ℕ, ◌+◌, ◌*◌, ◌≤◌, ◌<◌}
use Rattle.std.specs.Prelude.{None, Some}
use mathlib.Core.Path.{◌≡◌}
use borrow.Author.Tests.{lt-ltb, le-ltb}
use Rattle.tagspace.specs.Extent.{extent_len}
use Rattle.numbers.specs.Sums.{top}

module _ (size block : ℕ) where
  pub extent_none : top < 2 * block + size → extent_len size block ≡ None
  unfolding extent_len
  extent_none h = simp (lt-ltb top (2 * block + size) h)

  pub extent_some : 2 * block + size ≤ top → extent_len size block ≡ Some (2 * block + size)
  unfolding extent_len
  extent_some h = simp (le-ltb top (2 * block + size) h)
