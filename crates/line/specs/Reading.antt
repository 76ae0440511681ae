-- A line read from its front: each part is what is read, and the bytes behind it. What is read is what document 01's grammar says
-- (proofs/Grammar).
use Rattle.std.specs.Prelude.{ℕ, suc, ◌+◌, ◌-◌, ◌*◌, ◌^◌, Bool, cond, not, ◌&&◌, ◌||◌, List, [], ◌∷◌, eqb, leb, ltb, length, take, drop, get_or, Option, None, Some, codes}
use Rattle.std.specs.Option.{option_or}
use Rattle.line.specs.Command.{Command, opening, calling}
use Rattle.model.specs.Calls as model
use Rattle.numbers.specs.Lists.{any, same}

infixl 10 ◌>>=◌
abbrev pub ◌>>=◌ : {A B : Type 0} → Option A → (A → Option B) → Option B
None >>= f = None
(Some x) >>= f = f x

-- What follows a word, where the text begins with it.
unfoldable pub behind : List ℕ → List ℕ → Option (List ℕ)
behind word text = cond (same (take (length word) text) word) (Some (drop (length word) text)) None

-- '0' to '9'.
abbrev pub is_digit : ℕ → Bool
is_digit b = leb 48 b && leb b 57

-- How many digits stand in front.
unfoldable pub digit_count : List ℕ → ℕ
digit_count [] = 0
digit_count (b ∷ bs) = cond (is_digit b) (suc (digit_count bs)) 0

-- The number that digits say, behind those of v.
unfoldable pub value_from : ℕ → List ℕ → ℕ
value_from v [] = v
value_from v (d ∷ ds) = value_from (v * 10 + (d - 48)) ds

abbrev pub value : List ℕ → ℕ
value ds = value_from 0 ds

-- Some digits, with "no leading zeros".
unfoldable pub is_plain : List ℕ → Bool
is_plain ds = ltb 0 (length ds) && (eqb (length ds) 1 || not (eqb (get_or ds 0 0) 48))

-- "A number fits its width": what digits say, up to most.
unfoldable pub said : ℕ → List ℕ → Option ℕ
said most ds = cond (is_plain ds && leb (value ds) most) (Some (value ds)) None

-- A number in the digits that stand in front, all of them.
unfoldable pub number_in : ℕ → List ℕ → Option (ℕ × List ℕ)
number_in most text = said most (take (digit_count text) text) >>= λ n. Some (n, drop (digit_count text) text)

-- A key and its number.
unfoldable pub field_in : ℕ → List ℕ → List ℕ → Option (ℕ × List ℕ)
field_in most key text = behind key text >>= number_in most

-- The last number of a line, with nothing behind it.
unfoldable pub last_in : ℕ → List ℕ → List ℕ → Option ℕ
last_in most key text = field_in most key text >>= λ x. cond (eqb (length x.1) 0) (Some x.0) None

-- "tag u32, log2 u8, others u64"
abbrev pub u8 : ℕ
u8 = 2 ^ 8 - 1

abbrev pub u32 : ℕ
u32 = 2 ^ 32 - 1

abbrev pub u64 : ℕ
u64 = 2 ^ 64 - 1

-- ---- the calls

unfoldable pub open_in : List ℕ → Option Command
open_in line = do
  t ← field_in u64 (codes "call=open table_end=") line
  l ← field_in u64 (codes " len=") t.1
  b ← last_in u8 (codes " log2=") l.1
  Some (opening (record { log2_block = b; table_end = t.0; file_len = l.0 }))

-- "a name has 0 to 24 bytes, none a space or line end"
unfoldable pub is_name : List ℕ → Bool
is_name name = leb (length name) 24 && not (any (λ b. eqb b 32 || eqb b 10) name)

unfoldable pub name_in : List ℕ → Option (List ℕ)
name_in text = behind (codes " name=") text >>= λ name. cond (is_name name) (Some name) None

unfoldable pub create_in : List ℕ → Option Command
create_in line = do
  i ← field_in u64 (codes "call=create id=") line
  t ← field_in u32 (codes " tag=") i.1
  n ← name_in t.1
  Some (calling (model.create i.0 t.0 n))

unfoldable pub grow_in : List ℕ → Option Command
grow_in line = do
  i ← last_in u64 (codes "call=grow id=") line
  Some (calling (model.grow i))

unfoldable pub publish_in : List ℕ → Option Command
publish_in line = do
  i ← field_in u64 (codes "call=publish id=") line
  l ← last_in u64 (codes " len=") i.1
  Some (calling (model.publish i.0 l))

unfoldable pub drop_in : List ℕ → Option Command
drop_in line = do
  i ← last_in u64 (codes "call=drop id=") line
  Some (calling (model.drop i))

-- "max= (a number or none)"
unfoldable pub limit_in : List ℕ → Option (Option ℕ)
limit_in text = cond (same text (codes " max=none")) (Some None) (last_in u64 (codes " max=") text >>= λ n. Some (Some n))

unfoldable pub cap_in : List ℕ → Option Command
cap_in line = do
  t ← field_in u32 (codes "call=cap tag=") line
  m ← limit_in t.1
  Some (calling (model.cap t.0 m))

unfoldable pub locate_in : List ℕ → Option Command
locate_in line = do
  i ← field_in u64 (codes "call=locate id=") line
  p ← field_in u64 (codes " pos=") i.1
  n ← last_in u64 (codes " n=") p.1
  Some (calling (model.locate i.0 p.0 n))

-- ---- a line

-- "lines to 128 bytes"
unfoldable pub command_in : List ℕ → Option Command
command_in line =
    cond (leb (length line) 128)
    (option_or (option_or (option_or (option_or (option_or (option_or
    (locate_in line) (grow_in line)) (publish_in line)) (create_in line)) (drop_in line)) (cap_in line)) (open_in line))
    None
