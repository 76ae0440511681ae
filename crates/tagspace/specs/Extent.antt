-- Document 01, space.rs's `extent_len`: what a region occupies.
use Rattle.std.specs.Prelude.{ℕ, ◌+◌, ◌*◌, cond, ltb, Option, None, Some}
use Rattle.numbers.specs.Sums.{top}

-- "`extent_len` is two blocks and the data size, none past 2^64 - 1"
unfoldable pub extent_len : ℕ → ℕ → Option ℕ
extent_len size block = cond (ltb top (2 * block + size)) None (Some (2 * block + size))
