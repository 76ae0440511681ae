-- Records and answers as flat numbers, and records from them.
use Rattle.std.specs.Prelude.{ℕ, Bool, true, false, cond, map, eqb, None, Option, Some, Result}
use Rattle.accounting.specs.declared.Accounting.{Accounting}
use Rattle.flat.specs.declared.FlatAccounting.{FlatAccounting}
use Rattle.flat.specs.declared.FlatAnswer.{FlatAnswer}
use Rattle.flat.specs.declared.FlatOption.{FlatOption}
use Rattle.flat.specs.declared.FlatRow.{FlatRow}
use Rattle.footprint.specs.declared.RegionKind.{RegionKind}
use Rattle.footprint.specs.declared.RegionKind.TheVariants.{Append, Page, Slot}
use Rattle.numbers.specs.Refusals.{Answer, accepted, refused, told}
use Rattle.numbers.specs.declared.refusal.Refusal.{Refusal}
use Rattle.tagspace.specs.declared.TagSpace.{TagSpace}

-- The kind that has a number in the table; Append where none has. `kind_code` of footprint is that number.
unfoldable pub kind_of : ℕ → RegionKind
kind_of n = cond (eqb n 3) Slot (cond (eqb n 2) Page Append)

-- A limit, or none.
abbrev pub cap_from : Bool → ℕ → Option ℕ
cap_from true n = Some n
cap_from false n = None

abbrev pub row_from : FlatRow → TagSpace
row_from r =
    record {
      tag = r.tag;
      logical = r.logical;
      physical = r.physical;
      reserved = r.reserved;
      cap = cap_from r.capped r.cap;
    }

unfoldable pub accounts_from : FlatAccounting → Accounting
accounts_from a = record { rows = map row_from a.rows; count = a.count; reserved = a.reserved }

-- Whether there is a cap, and the limit, else 0.
abbrev pub is_capped : Option ℕ → Bool
is_capped (Some n) = true
is_capped None = false

abbrev pub limit_of : Option ℕ → ℕ
limit_of (Some n) = n
limit_of None = 0

abbrev pub flat_row : TagSpace → FlatRow
flat_row r =
    record {
      tag = r.tag;
      capped = is_capped r.cap;
      logical = r.logical;
      physical = r.physical;
      reserved = r.reserved;
      cap = limit_of r.cap;
    }

-- `from_flat` (proofs/Turning) says that the accounts from these are the same again.
unfoldable pub flat_accounts : Accounting → FlatAccounting
flat_accounts a = record { rows = map flat_row a.rows; count = a.count; reserved = a.reserved }

-- A number: 1 and the number. None: 0 and 0.
abbrev pub flat_of : Option ℕ → FlatOption
flat_of None = record { some = 0; value = 0 }
flat_of (Some n) = record { some = 1; value = n }

-- A value: 0 and the value. A refusal: its number and 0.
abbrev pub flat_answer : Answer ℕ → FlatAnswer
flat_answer (accepted n) = record { refusal = 0; value = n }
flat_answer (refused n) = record { refusal = n; value = 0 }

-- The same of a result.
abbrev pub flat_told : Result ℕ Refusal → FlatAnswer
flat_told r = flat_answer (told r)
