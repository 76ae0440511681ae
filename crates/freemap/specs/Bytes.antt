-- Document 01, "`free_bytes` adds the gaps' lengths", and how bytes are counted.
use Rattle.std.specs.Prelude.{ℕ, zero, suc, Bool, cond, List}
use Rattle.freemap.specs.Gaps.{gaps_in, too_few}
use Rattle.freemap.specs.declared.FreeMap.{FreeMap}
use Rattle.numbers.specs.Range.{total}
use Rattle.numbers.specs.Refusals.{Answer, answer, refuse}
use Rattle.numbers.specs.Sums.{stop}

-- What `free_bytes` answers, of any record and list. Of `complement`'s gaps the sum never stops (`free_whole` in proofs/Words).
abbrev pub free_of : FreeMap → List ℕ → Answer ℕ
free_of m gs = answer (refuse 1 (too_few m gs)) (stop (total (gaps_in m gs)))

-- How many of the n bytes from b on pass a test; `free_counted` and `free_and_covered` (proofs/Words) count free bytes and others,
-- `held_and_free` (proofs/Held) those of ranges of which no two meet.
unfoldable pub counted : (ℕ → Bool) → ℕ → ℕ → ℕ
counted f b zero = 0
counted f b (suc n) = cond (f b) (suc (counted f (suc b) n)) (counted f (suc b) n)
