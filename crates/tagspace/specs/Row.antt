-- Document 01, "`Accounting` alone": one tag's row, and what the calls make of it. "Sums stop at 0 and 2^64 - 1": a difference
-- of whole numbers stops at 0 by itself.
use Rattle.std.specs.Prelude.{ℕ, ◌+◌, ◌-◌, Bool, true, leb, None, Option, Some}
use Rattle.tagspace.specs.declared.TagSpace.{TagSpace}
use Rattle.numbers.specs.Sums.{stop}

-- The row of a tag that nothing was posted to.
abbrev pub blank : ℕ → TagSpace
blank tag = record { tag = tag; logical = 0; physical = 0; reserved = 0; cap = None }

abbrev with_usage : ℕ → ℕ → TagSpace → TagSpace
with_usage logical physical r = record { tag = r.tag; logical = logical; physical = physical; reserved = r.reserved; cap = r.cap }

abbrev with_reserved : ℕ → TagSpace → TagSpace
with_reserved reserved r = record { tag = r.tag; logical = r.logical; physical = r.physical; reserved = reserved; cap = r.cap }

-- The rules of the postings. "Sums stop at 0 and 2^64 - 1."
abbrev pub add_usage : ℕ → ℕ → TagSpace → TagSpace
add_usage logical physical r = with_usage (stop (r.logical + logical)) (stop (r.physical + physical)) r

abbrev pub remove_usage : ℕ → ℕ → TagSpace → TagSpace
remove_usage logical physical r = with_usage (r.logical - logical) (r.physical - physical) r

abbrev pub reserve : ℕ → TagSpace → TagSpace
reserve bytes r = with_reserved (stop (r.reserved + bytes)) r

abbrev pub unreserve : ℕ → TagSpace → TagSpace
unreserve bytes r = with_reserved (r.reserved - bytes) r

-- "the added setting or clearing of its cap"
abbrev pub set_cap : Option ℕ → TagSpace → TagSpace
set_cap cap r = record { tag = r.tag; logical = r.logical; physical = r.physical; reserved = r.reserved; cap = cap }

-- "no cap, or .. at most the cap"
unfoldable pub allows : Option ℕ → ℕ → Bool
allows None n = true
allows (Some limit) n = leb n limit

-- "`fits`: no cap, or physical + reserved + extra in whole numbers is at most the cap"
unfoldable pub fits : ℕ → TagSpace → Bool
fits extra r = allows r.cap (r.physical + r.reserved + extra)
