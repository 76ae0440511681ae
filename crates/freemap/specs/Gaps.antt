-- Document 01, "`FreeMap`": the gaps that ranges leave of a container, tail, and what `complement` does.
use Rattle.std.specs.Prelude.{◌≡◌, ℕ, zero, suc, ◌+◌, ◌-◌, max, Bool, cond, not, ◌||◌, List, [], ◌∷◌, length, take, Result, ◌==◌, nat_lt}
use Rattle.freemap.specs.declared.FreeMap.{FreeMap}
use Rattle.numbers.specs.Lists.{Any, any, list_after}
use Rattle.numbers.specs.Pairs.{is_odd, pairs, flat}
use Rattle.numbers.specs.Range.{Range, range, end_of, Has, has}
use Rattle.numbers.specs.Refusals.{answer, refuse, told}
use Rattle.numbers.specs.declared.refusal.Refusal.{Refusal}
use Rattle.sort.specs.Sort.{sorted}

-- Some range of a list has the byte b.
abbrev pub Covered : List Range → ℕ → Type 0
Covered rs b = Any (λ (r : Range). Has r b) rs

-- The same as a test; `covered_true` and `true_covered` (proofs/Words) tie it to `Covered`.
unfoldable pub covered : List Range → ℕ → Bool
covered rs b = any (λ (r : Range). has r b) rs

-- No range has it.
abbrev pub free : List Range → ℕ → Bool
free rs b = not (covered rs b)

-- The byte b in front of ranges: the first is one longer where it begins right behind b, else b is a range of its own.
unfoldable pub ahead : ℕ → List Range → List Range
ahead b [] = range b 1 ∷ []
ahead b (g ∷ gs) = cond (g.offset == suc b) (range b (suc g.len) ∷ gs) (range b 1 ∷ g ∷ gs)

-- Among the n bytes from b on, the maximal ranges all of whose bytes pass a test.
unfoldable pub maximal : (ℕ → Bool) → ℕ → ℕ → List Range
maximal f b zero = []
maximal f b (suc n) = cond (f b) (ahead b (maximal f (suc b) n)) (maximal f (suc b) n)

-- "the maximal gaps of [table end, length) that meet no range", none where length is below table end. proofs/Words has what
-- that says: `in_gap` and `gap_free`, they have the free bytes and no others; `gaps_meet_none`; `gaps_apart` and `span_in_gap`,
-- they stand in order and apart, and are maximal; `gaps_only`, no other list is like that.
abbrev pub gaps_of : ℕ → ℕ → List Range → List Range
gaps_of te len rs = maximal (free rs) te (len - te)

-- "tail is the greatest of table end and all ends of ranges of length above 0"; `tail_greatest` (proofs/Words) says that it is.
unfoldable pub tail_of : ℕ → List Range → ℕ
tail_of te [] = te
tail_of te (r ∷ rs) = cond (r.len == 0) (tail_of te rs) (max (end_of r) (tail_of te rs))

-- 1. "a list of pairs is odd", or "fewer places than: .. ranges + 1 for gaps". The list of gaps is places to write to: it may be odd.
unfoldable pub complement_fails : List ℕ → List ℕ → Bool
complement_fails rs gs = is_odd rs || nat_lt (length (pairs gs)) (length (pairs rs) + 1)

-- The record of a container with ranges: how many gaps there are, and tail.
abbrev pub free_map_of : ℕ → ℕ → List Range → FreeMap
free_map_of te len rs = record { count = length (gaps_of te len rs); tail = tail_of te rs }

-- What `complement` promises: its answer, the ranges, sorted, and every slot of the list of gaps. A refused call changes nothing.
pub record Complemented (te len : ℕ) (rs₀ rs gs₀ gs : List ℕ) (r : Result FreeMap Refusal) : Type 0 where
  pub answer : told r ≡ answer (refuse 1 (complement_fails rs₀ gs₀)) (free_map_of te len (pairs rs₀))
  pub ranges : rs ≡ cond (complement_fails rs₀ gs₀) rs₀ (flat (sorted (pairs rs₀)))
  pub slots : gs ≡ list_after (complement_fails rs₀ gs₀) (flat (gaps_of te len (pairs rs₀))) gs₀

-- The gaps that a record counts in a list; `gaps_read` (proofs/Words) says that these are `complement`'s.
abbrev pub gaps_in : FreeMap → List ℕ → List Range
gaps_in m gs = take m.count (pairs gs)

-- 1. "A lent slice is too short": it has fewer gaps than the record counts.
unfoldable pub too_few : FreeMap → List ℕ → Bool
too_few m gs = nat_lt (length (pairs gs)) m.count
