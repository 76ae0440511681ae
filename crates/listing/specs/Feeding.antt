-- What feeding bytes to the program does.
use Rattle.std.specs.Prelude.{ℕ, ◌≤◌, ◌<◌, List, [], ◌++◌, ◌≡◌, length, take, drop, ◌-◌, Option, None, Some}
use Rattle.line.specs.Answer.{answer_text}
use Rattle.line.specs.Meaning.{line_of}
use Rattle.line.specs.Reading.{command_in}
use Rattle.line.specs.declared.answer.Answer.{Answer}
use Rattle.listing.specs.Lines.{ended, begun, last_line}
use Rattle.listing.specs.Program.{line_for, after, texts, after_lines}
use Rattle.listing.specs.Session as session
use Rattle.listing.specs.declared.listing.Filled.{Filled}
use Rattle.listing.specs.declared.listing.Listing.{Listing}
use Rattle.listing.specs.declared.listing.Next.{Next}
use Rattle.model.specs.World.{World}

-- A line's bytes in front of some places, with more of them, as far as there are places.
pub record Kept (s : List ℕ) (n : ℕ) (more t : List ℕ) (m : ℕ) : Type 0 where
  pub line : take m t ≡ take (length s) (take n s ++ more)
  pub places : length t ≡ length s
  pub within : m ≤ length t

-- ---- the state between two blocks

abbrev pub world_in : Listing → Option World
world_in l = session.world_in l.session

-- What has come of the next line.
abbrev pub begun_in : Listing → List ℕ
begun_in l = take l.len l.begun

-- Of a longer line as many bytes as tell that it is too long.
abbrev pub kept : List ℕ → List ℕ
kept line = take 129 line

pub record Ready (l : Listing) : Type 0 where
  pub session : session.Ready l.session
  pub places : length l.begun ≡ 129

-- No byte has come yet.
pub record Begins (l : Listing) : Type 0 where
  pub ready : Ready l
  pub world : world_in l ≡ None
  pub begun : begun_in l ≡ []

-- ---- some bytes

-- What bytes have made of the state: the world after the lines that have ended, and what has come of the next.
pub record Fed (l : Listing) (bytes : List ℕ) (m : Listing) : Type 0 where
  pub ready : Ready l → Ready m
  pub world : Ready l → world_in m ≡ after_lines (world_in l) (ended (begun_in l) bytes)
  pub begun : Ready l → begun_in m ≡ kept (begun (begun_in l) bytes)

abbrev pub text_in : Option Answer → List ℕ
text_in None = []
text_in (Some a) = answer_text (line_of a)

-- A line that has begun, ended by these bytes: its answer, and the state then.
pub record Ends (l : Listing) (more : List ℕ) (m : Listing) (a : Answer) : Type 0 where
  pub ready : Ready l → Ready m
  pub told : Ready l → line_of a ≡ line_for (world_in l) (command_in (begun_in l ++ more))
  pub world : Ready l → world_in m ≡ after (world_in l) (command_in (begun_in l ++ more))
  pub begun : begun_in m ≡ []

-- The end of the input.
pub record Lasts (l : Listing) (r : Option Answer) : Type 0 where
  pub told : Ready l → text_in r ≡ texts (world_in l) (last_line (begun_in l))

-- The bytes up to the first line end, or all: the answer of that line.
pub record Takes (l : Listing) (rest : List ℕ) (m : Listing) (r : Next) : Type 0 where
  pub within : r.bytes ≤ length rest
  pub some : 0 < length rest → 0 < r.bytes
  pub fed : Fed l (take r.bytes rest) m
  pub told : Ready l → text_in r.answer ≡ texts (world_in l) (ended (begun_in l) (take r.bytes rest))

-- The first bytes of a block: the answers of the lines that they end stand in front of the list that is lent for them.
pub record Front (l : Listing) (block out₀ : List ℕ) (m : Listing) (out : List ℕ) (bytes text : ℕ) : Type 0 where
  pub within : bytes ≤ length block
  -- no bytes, no answers
  pub none : bytes ≡ 0 → text ≡ 0
  pub fed : Fed l (take bytes block) m
  pub told : Ready l → take text out ≡ texts (world_in l) (ended (begun_in l) (take bytes block))
  -- "slots past a written answer keep their content"
  pub places : length out ≡ length out₀
  pub upto : text ≤ length out
  pub behind : drop text out ≡ drop text out₀

-- A whole block is answered, but where there may be no room for another answer.
pub record Fills (l : Listing) (block out₀ : List ℕ) (m : Listing) (out : List ℕ) (r : Filled) : Type 0 where
  pub front : Front l block out₀ m out r.bytes r.text
  pub all : 105 ≤ length out - r.text → r.bytes ≡ length block
