-- Document 01, "Why a call is turned down": which of several refusals is given.
use Rattle.std.specs.Prelude.{ℕ, ◌+◌, Result, Ok, Err, Bool, true, false, cond, List, [], ◌∷◌, ltb, eqb}
use Rattle.numbers.specs.declared.refusal.Refusal.{Refusal}
use Rattle.numbers.specs.declared.refusal.Refusal.TheVariants.{
  Lists,
  Block,
  Length,
  Entry,
  NumbersDiffer,
  KindsDiffer,
  FlagsDiffer,
  NotReady,
  HeaderCount,
  NoMultiple,
  Outside,
  ExtentSum,
  Overlaps,
  NumberHeld,
  Marked,
  Unknown,
  SlotGrows,
  NameHeld,
  Full,
  LastNumber,
  OverCap,
  NoRoom,
  Past,
  Crosses,
  Malformed,
}
use Rattle.numbers.specs.Range.{Range}
use Rattle.numbers.specs.Sums.{top}

-- The refusal n where a test fails, 0 where it does not.
unfoldable pub refuse : ℕ → Bool → ℕ
refuse n fails = cond fails n 0

-- "Where several apply, the lowest number is given": the first in a list of rising numbers that is not 0.
unfoldable pub first : List ℕ → ℕ
first [] = 0
first (n ∷ ns) = cond (eqb n 0) (first ns) n

-- What a call answers: a value, or "its number alone". No refusal is an acceptance, not even one of 0.
pub data Answer (A : Type 0) : Type 0 where
  accepted : A → Answer A
  refused : ℕ → Answer A

-- The value where no test failed, else the number.
unfoldable pub answer : {A : Type 0} → ℕ → A → Answer A
answer n v = cond (eqb n 0) (accepted v) (refused n)

-- "refusal (0 if accepted)"
abbrev pub number_of : {A : Type 0} → Answer A → ℕ
number_of (accepted v) = 0
number_of (refused n) = n

abbrev pub is_accepted : {A : Type 0} → Answer A → Bool
is_accepted (accepted v) = true
is_accepted (refused n) = false

-- The value, or another one where there is none.
abbrev pub value_or : {A : Type 0} → A → Answer A → A
value_or other (accepted v) = v
value_or other (refused n) = other

-- "11 and 12's first half extent by extent": 11 by a test of the extent alone, 12, "The sum of extents passes 2^64 - 1", of
-- the lengths up to each extent.
unfoldable pub each_extent : (Range → Bool) → ℕ → List Range → ℕ
each_extent outside before [] = 0
each_extent outside before (x ∷ xs) = first (refuse 11 (outside x) ∷ refuse 12 (ltb top (before + x.len)) ∷ each_extent outside (before + x.len) xs ∷ [])

-- The numbers of the reasons, as the paragraph has them.
abbrev pub refusal_number : Refusal → ℕ
refusal_number Lists = 1
refusal_number Block = 2
refusal_number Length = 3
refusal_number Entry = 4
refusal_number NumbersDiffer = 5
refusal_number KindsDiffer = 6
refusal_number FlagsDiffer = 7
refusal_number NotReady = 8
refusal_number HeaderCount = 9
refusal_number NoMultiple = 10
refusal_number Outside = 11
refusal_number ExtentSum = 12
refusal_number Overlaps = 13
refusal_number NumberHeld = 14
refusal_number Marked = 15
refusal_number Unknown = 16
refusal_number SlotGrows = 17
refusal_number NameHeld = 18
refusal_number Full = 19
refusal_number LastNumber = 20
refusal_number OverCap = 21
refusal_number NoRoom = 22
refusal_number Past = 23
refusal_number Crosses = 24
refusal_number Malformed = 25

-- What a result says: its value, or the reason's number.
abbrev pub told : {A : Type 0} → Result A Refusal → Answer A
told (Ok v) = accepted v
told (Err r) = refused (refusal_number r)

-- The reason's number, 0 if accepted.
abbrev pub refusal_in : {A : Type 0} → Result A Refusal → ℕ
refusal_in r = number_of (told r)
