-- Document 01: "A span is free if it starts at a multiple of the block, lies from table end to length and meets nothing held."
use Rattle.std.specs.Prelude.{ℕ, zero, suc, ◌+◌, ◌-◌, ◌%◌, ◌≤◌, Bool, true, false, cond, not, ◌&&◌, ◌≡◌, eqb, leb, Option, None, Some}
use Rattle.model.specs.World.{World, block, held_ranges}
use Rattle.numbers.specs.Lists.{All, any}
use Rattle.numbers.specs.Range.{Range, range, Meet, meets}

-- The span of n bytes from p on is free.
pub record FreeSpan (w : World) (n p : ℕ) : Type 0 where
  -- "starts at a multiple of the block"
  pub multiple : p % block w ≡ 0
  -- "lies from table end to length"
  pub from : w.limits.table_end ≤ p
  pub upto : p + n ≤ w.limits.file_len
  -- "meets nothing held"
  pub apart : All (λ (r : Range). Meet (range p n) r → ⊥) (held_ranges w)

-- The lowest of all.
pub record LeastFree (w : World) (n p : ℕ) : Type 0 where
  pub free : FreeSpan w n p
  pub least : (q : ℕ) → FreeSpan w n q → p ≤ q

-- A free span as a test; `free_true` and `true_free` (proofs/Spans) tie it to `FreeSpan`.
unfoldable pub is_free : World → ℕ → ℕ → Bool
is_free w n p =
    eqb (p % block w) 0
    && leb w.limits.table_end p
    && leb (p + n) w.limits.file_len
    && not (any (meets (range p n)) (held_ranges w))

-- The first of the n numbers from b on that passes a test.
unfoldable pub first_from : (ℕ → Bool) → ℕ → ℕ → Option ℕ
first_from f b zero = None
first_from f b (suc n) = cond (f b) (Some b) (first_from f (suc b) n)

-- "first fit", "lowest address first": the least place of a free span of n bytes, none if none is free. `least_found`,
-- `found_least` and `none_free` (proofs/Spans) say that it is, for n above 0, `least_is_fit` that the free map's first fit is the same.
abbrev pub least_free : World → ℕ → Option ℕ
least_free w n = first_from (is_free w n) w.limits.table_end (w.limits.file_len - w.limits.table_end)

abbrev pub is_none : Option ℕ → Bool
is_none None = true
is_none (Some p) = false

-- "at (byte placed or located, else 0)"
abbrev pub or_zero : Option ℕ → ℕ
or_zero None = 0
or_zero (Some p) = p
