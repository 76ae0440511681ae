-- The program's state: the plan with its lists, and the world that they mean.
use Rattle.std.specs.Prelude.{ℕ, ◌*◌, ◌<◌, true, cond, List, ◌≡◌, length, Option, None, Some, Err}
use Rattle.line.specs.Command.{Command, calling}
use Rattle.line.specs.Meaning.{line_of}
use Rattle.line.specs.Reading.{command_in}
use Rattle.line.specs.declared.answer.Answer.{Answer}
use Rattle.listing.specs.Program.{answer_in, after, held_in, free_in, line_for}
use Rattle.listing.specs.declared.session.Session.{Session}
use Rattle.model.specs.Calls.{locate}
use Rattle.model.specs.World.{World}
use Rattle.numbers.specs.declared.refusal.Refusal.{Refusal}
use Rattle.plan_record.specs.Plan.{Valid, world_of, places, reply_of, Reply}

-- A world from an accepted open on.
abbrev pub world_in : Session → Option World
world_in s = cond s.opened (Some (world_of s.plan s.extents)) None

-- What a session has at the start and after every line: lists of 64 rows, and a valid plan once one is open.
pub record Ready (s : Session) : Type 0 where
  pub extents : length s.extents ≡ 2 * places
  pub starts : length s.starts ≡ places
  pub files : length s.files ≡ places
  pub valid : s.opened ≡ true → Valid s.plan s.extents s.starts s.files

-- No line has come yet.
pub record Begins (s : Session) : Type 0 where
  pub ready : Ready s
  pub world : world_in s ≡ None

-- What a command promises, or none.
pub record Asks (s : Session) (c : Option Command) (t : Session) (r : Reply) : Type 0 where
  pub ready : Ready s → Ready t
  pub told : Ready s → reply_of r ≡ answer_in (world_in s) c
  pub world : Ready s → world_in t ≡ after (world_in s) c
  -- of every session, "A refused call returns its number alone and changes nothing", and neither does a locate
  pub refused : (n : Refusal) → r ≡ Err n → t ≡ s
  pub located : (id pos n : ℕ) → c ≡ Some (calling (locate id pos n)) → t ≡ s

-- What the figures are.
pub record Figures (s : Session) (h f : ℕ) : Type 0 where
  pub held : Ready s → h ≡ held_in (world_in s)
  pub free : Ready s → f ≡ free_in (world_in s)

-- What a line promises.
pub record Answers (s : Session) (line : List ℕ) (t : Session) (r : Answer) : Type 0 where
  pub ready : Ready s → Ready t
  pub told : Ready s → line_of r ≡ line_for (world_in s) (command_in line)
  pub world : Ready s → world_in t ≡ after (world_in s) (command_in line)
  -- of every session, "changes nothing"
  pub refused : 0 < r.refusal → t ≡ s
  pub located : (id pos n : ℕ) → command_in line ≡ Some (calling (locate id pos n)) → t ≡ s
