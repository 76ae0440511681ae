-- Document 01, "The listing program": which lines are which calls; every other line is malformed.
use Rattle.std.specs.Prelude.{ℕ, ◌^◌, ◌≤◌, ◌<◌, List, ◌++◌, ◌≡◌, length, Option, None, Some, codes, decimal}
use Rattle.footprint.specs.declared.Limits.{Limits}
use Rattle.model.specs.Calls.{Call, create, grow, publish, drop, cap, locate}
use Rattle.numbers.specs.Lists.{All}

-- What a line asks for. "The program's open brings no records."
pub data Command : Type 0 where
  opening : Limits → Command
  calling : Call → Command

-- "max= (a number or none)"
abbrev pub limit_text : Option ℕ → List ℕ
limit_text None = codes "none"
limit_text (Some n) = decimal n

-- Its line: "keys in this order, one space, no leading zeros". `decimal` writes a number without leading zeros.
abbrev pub line_of : Command → List ℕ
line_of (opening lim) = codes "call=open table_end=" ++ decimal lim.table_end ++ codes " len=" ++ decimal lim.file_len ++ codes " log2=" ++ decimal lim.log2_block
line_of (calling (create id tag name)) = codes "call=create id=" ++ decimal id ++ codes " tag=" ++ decimal tag ++ codes " name=" ++ name
line_of (calling (grow id)) = codes "call=grow id=" ++ decimal id
line_of (calling (publish id len)) = codes "call=publish id=" ++ decimal id ++ codes " len=" ++ decimal len
line_of (calling (drop id)) = codes "call=drop id=" ++ decimal id
line_of (calling (cap tag limit)) = codes "call=cap tag=" ++ decimal tag ++ codes " max=" ++ limit_text limit
line_of (calling (locate id pos n)) = codes "call=locate id=" ++ decimal id ++ codes " pos=" ++ decimal pos ++ codes " n=" ++ decimal n

abbrev pub LimitFits : Option ℕ → Type 0
LimitFits None = Unit {0}
LimitFits (Some n) = n < 2 ^ 64

-- "none a space or line end"
abbrev pub NameByte : ℕ → Type 0
NameByte b = (b ≡ 32 → ⊥) × (b ≡ 10 → ⊥)

-- "A number fits its width (tag u32, log2 u8, others u64); a name has 0 to 24 bytes".
abbrev pub Fits : Command → Type 0
Fits (opening lim) = (lim.table_end < 2 ^ 64) × (lim.file_len < 2 ^ 64) × (lim.log2_block < 2 ^ 8)
Fits (calling (create id tag name)) = (id < 2 ^ 64) × (tag < 2 ^ 32) × (length name ≤ 24) × All NameByte name
Fits (calling (grow id)) = id < 2 ^ 64
Fits (calling (publish id len)) = (id < 2 ^ 64) × (len < 2 ^ 64)
Fits (calling (drop id)) = id < 2 ^ 64
Fits (calling (cap tag limit)) = (tag < 2 ^ 32) × LimitFits limit
Fits (calling (locate id pos n)) = (id < 2 ^ 64) × (pos < 2 ^ 64) × (n < 2 ^ 64)

-- The line is that of the command. `reads` and `taken` (proofs/Grammar): `command_in` reads just these lines, each as its command.
pub record Says (line : List ℕ) (c : Command) : Type 0 where
  pub text : line ≡ line_of c
  pub fits : Fits c
  -- "lines to 128 bytes"
  pub short : length line ≤ 128
