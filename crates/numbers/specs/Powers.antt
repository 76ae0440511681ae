-- Powers of two.
use Rattle.std.specs.Prelude.{ℕ, zero, suc, ◌^◌, Bool, false, ◌||◌, eqb}

-- n is 2^k for some k below the width.
unfoldable pub is_power : ℕ → ℕ → Bool
is_power zero n = false
is_power (suc k) n = eqb n (2 ^ k) || is_power k n

-- "a power of two", of a u64.
abbrev pub is_power_of_two : ℕ → Bool
is_power_of_two n = is_power 64 n
