-- Document 01, align.rs: `align_up`.
use Rattle.std.specs.Prelude.{ℕ, ◌+◌, ◌-◌, ◌*◌, ◌/◌, cond, ◌&&◌, leb, Option, None, Some}
use Rattle.numbers.specs.Sums.{top}
use Rattle.numbers.specs.Powers.{is_power_of_two}

-- "the least multiple of align at or above value"; `up_least` (proofs/Least) says that it is.
unfoldable pub up_to : ℕ → ℕ → ℕ
up_to value align = (value + (align - 1)) / align * align

-- "none if align isn't a power of two or value + align - 1 passes 2^64 - 1"
unfoldable pub align_up : ℕ → ℕ → Option ℕ
align_up value align = cond (is_power_of_two align && leb (value + (align - 1)) top) (Some (up_to value align)) None
